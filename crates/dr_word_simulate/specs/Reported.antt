-- The report of the nodes of a plan after a script was played.
use Rattle.std.specs.Prelude.{◌≡◌, ℕ, List, [], ◌∷◌, ◌++◌, codes, decimal, true, Option, Some}
use Rattle.dr_base.specs.Texts.{Text}
use Rattle.dr_plan_model.specs.Networks.{Network}
use Rattle.dr_plan_sound.specs.declared.certificate.Certificate.{Certificate}
use Rattle.dr_ledger.specs.Books.{Book}
use Rattle.dr_world_model.specs.Among.{Act, HeadlineAmong, Ours, RunsAmong}
use Rattle.dr_world_model.specs.Claims.{Headline}
use Rattle.dr_world_model.specs.Events.{HasNode}
use Rattle.dr_world_model.specs.Worlds as model
use Rattle.dr_world_tie.specs.ByteWorlds.{ByteWorld, beginning}
use Rattle.dr_world.specs.Among.{FitsFrom}
use Rattle.dr_world.specs.declared.changing.Change.{Change}
use Rattle.dr_world.specs.declared.changing.Change.TheVariants.{Adopted, Skipped, Unfit}
use Rattle.dr_world.specs.declared.deed.Deed.{Deed}
use Rattle.dr_world.specs.declared.order.WorldOrder.{WorldOrder}
use Rattle.dr_world.specs.declared.order.ForeignRefusal.{ForeignRefusal}
use Rattle.dr_world.specs.declared.order.ForeignRefusal.TheVariants as why
use Rattle.dr_world.specs.declared.order.RefusedForeign.{RefusedForeign}
use Rattle.dr_world.specs.declared.order.RefusedForeign.TheVariants as refused
use Rattle.dr_world.specs.declared.fault.WorldFault.{WorldFault}
use Rattle.dr_world.specs.declared.fault.WorldFault.TheVariants as fault
use Rattle.dr_world.specs.Orders.{AreMeant, OrdersChange, OrdersRefusal}
use Rattle.dr_world.specs.Others.{NoneWrites}
use Rattle.dr_world.specs.Played.{ComesBy, PlaysThrough, in_force, taken_in}
use Rattle.dr_world.specs.Reports.{IsReportOfAll}

-- the books of the nodes by name; another name has none
abbrev pub Books : Type 0
Books = Text → Option Book

-- The deeds lead, from the beginning, to a world of bytes in which the nodes of the plan in force
-- have these books, and no other node has one; each change of plan came to what stands for it.
pub record AreBooksAfter (plan : Network) (certificate : Certificate) (deeds : List Deed)
    (changes : List Change) (books : Books) : Type 0 where
  pub last : Network
  pub own : Certificate
  pub is_in_force : last ≡ in_force plan (taken_in deeds changes)
  pub nodes : (name : Text) → HasNode last name → (book : Book) × (books name ≡ Some book)
  pub only : (name : Text) (book : Book) → books name ≡ Some book → HasNode last name
  pub world : ByteWorld
  pub leads : PlaysThrough plan certificate beginning deeds changes last own world
  pub shown : (name : Text) (book : Book) → books name ≡ Some book → (world.desks name).book ≡ book

-- the headline's four claims hold of the nodes' books by the plan in force: of a world of messages
-- that has them, and to which events and the adoptions of just these plans lead from the start
abbrev pub HoldsOfBooks : Network → List Network → Books → Type 0
HoldsOfBooks plan taken books =
    (world : model.World)
    × ((name : Text) (book : Book) → books name ≡ Some book → world.books name ≡ book)
    × ComesBy plan taken world
    × Headline (in_force plan taken) world

-- the four claims among others hold of our nodes' books by the plan in force: of a world of
-- messages that has them, to which events, what other products do, and changes of plan lead from
-- the start
abbrev pub HoldsOfOurs : Ours → Network → Network → Books → Type 0
HoldsOfOurs ours first plan books =
    (world : model.World)
    × ((name : Text) (book : Book)
    → books name ≡ Some book
    → ours name ≡ true
    → world.books name ≡ book)
    × ((acts : List Act) × RunsAmong ours first model.start acts plan world)
    × HeadlineAmong ours plan world

-- what is told of a change of plan: why it wasn't made, a line
abbrev pub note_of : Change → Text
note_of Adopted = []
note_of Skipped = codes "Skipped\n"
note_of (Unfit node uid dest) =
    codes "Unfit" ++ (9 ∷ node) ++ (9 ∷ uid) ++ (9 ∷ dest) ++ (10 ∷ [])

abbrev pub notes_of : List Change → Text
notes_of [] = []
notes_of (change ∷ changes) = note_of change ++ notes_of changes

-- the word for why another maker's product doesn't do what it was told to
abbrev pub refusal_word : ForeignRefusal → Text
refusal_word why.NoLink = codes "no-link"
refusal_word why.NotForeign = codes "not-foreign"
refusal_word why.BothForeign = codes "both-foreign"
refusal_word why.NoContext = codes "no-context"
refusal_word why.NotAsked = codes "not-asked"

-- what is told of that: the word in the script, the link and why, a line
abbrev pub refusal_line : Text → ℕ → ForeignRefusal → Text
refusal_line word link reason =
    codes "Refused" ++ (9 ∷ word) ++ (9 ∷ decimal link) ++ (9 ∷ refusal_word reason) ++ (10 ∷ [])

-- the same of a name that no node has
abbrev pub no_node_line : Text → Text
no_node_line node =
    codes "Refused" ++ (9 ∷ codes "foreign") ++ (9 ∷ node) ++ (9 ∷ codes "no-node") ++ (10 ∷ [])

abbrev pub refusal_of : RefusedForeign → Text
refusal_of (refused.Node node) = no_node_line node
refusal_of (refused.Store link reason) = refusal_line (codes "store") link reason
refusal_of (refused.Answer link reason) = refusal_line (codes "answer") link reason

abbrev pub refusals_of : List RefusedForeign → Text
refusals_of [] = []
refusals_of (one ∷ more) = refusal_of one ++ refusals_of more

-- The text is what is told of the changes and of what other makers' products didn't do. Behind it
-- is the report of the nodes after the deeds to which the orders come, each in a world to which
-- those before it have led. It is in byte order of the nodes' names: of each its book, but for
-- those that were told to be others'. The headline holds of the books, where no other product
-- writes. Whichever nodes are ours, the four claims among others hold of theirs, where the deeds
-- fit.
pub record IsReportAfter (plan : Network) (certificate : Certificate) (orders : List WorldOrder)
    (report : Text) : Type 0 where
  pub deeds : List Deed
  pub changes : List Change
  pub refusals : List RefusedForeign
  pub others : List Text
  pub ordered : AreMeant plan certificate [] [] [] orders deeds changes refusals others
  pub books : Books
  pub lines : Text
  pub told : report ≡ notes_of changes ++ (refusals_of refusals ++ lines)
  pub reported : IsReportOfAll others books lines
  pub after : ∥ AreBooksAfter plan certificate deeds changes books ∥₁
  pub holds : NoneWrites deeds → ∥ HoldsOfBooks plan (taken_in deeds changes) books ∥₁
  pub among : (ours : Ours)
      → FitsFrom ours plan certificate beginning deeds
      → ∥ HoldsOfOurs ours plan (in_force plan (taken_in deeds changes)) books ∥₁

-- why there is no report: there is no memory, or a store failed in a change of plan, where the
-- orders have one and tell a store to refuse
abbrev pub IsUnreported : List WorldOrder → WorldFault → Type 0
IsUnreported orders fault.Memory = Unit {0}
IsUnreported orders fault.Store = ⊥
IsUnreported orders fault.HalfAdopted = OrdersChange orders × OrdersRefusal orders
IsUnreported orders fault.WrongLedgers = ⊥
