-- Steps, changes of plan and what other products write, one after the other, and what holds after
-- them.
use Rattle.std.specs.Prelude.{◌≡◌, ◌⊎◌, ℕ, List, [], ◌∷◌, ◌++◌, Contains, Some, map as mapped}
use Rattle.std.specs.BTreeMap as tree
use Rattle.dr_base.specs.Texts.{Text, text_cmp}
use Rattle.dr_route.specs.Routes.{local}
use Rattle.dr_ledger.specs.declared.content.Job.{Job}
use Rattle.dr_ledger.specs.declared.ledger.Ledger.{Ghosts}
use Rattle.dr_ledger.specs.declared.item.Outcome.TheVariants.{NoContext}
use Rattle.dr_ledger.specs.Books.{Settling, after, empty_book}
use Rattle.dr_ledger.specs.Items.{instance_of}
use Rattle.dr_ledger.specs.PlanRoutes.{plan_routing}
use Rattle.dr_ledger.specs.Replies.{arrival_line}
use Rattle.dr_plan_model.specs.Networks.{Network}
use Rattle.dr_plan_sound.specs.declared.certificate.Certificate.{Certificate}
use Rattle.dr_cert.specs.Sealing.{Certified}
use Rattle.dr_site.specs.Sites.{IsCertified}
use Rattle.dr_node.specs.declared.node.Node.{Node}
use Rattle.dr_world_model.specs.Among.{Ours}
use Rattle.dr_world_model.specs.Worlds as model
use Rattle.dr_world_model.specs.Claims.{Headline}
use Rattle.dr_world_model.specs.Events.{HasNode}
use Rattle.dr_world_model.specs.Runs.{Action, Adopt as Adopting, Occurs, Runs}
use Rattle.dr_world_tie.specs.ByteWorlds.{ByteWorld, StepNote, beginning}
use Rattle.dr_world_tie.specs.MixedChanges.{MixedDeed, MixedRunsThrough}
use Rattle.dr_world_tie.specs.MixedWorlds.{MixedWorld, mixed_beginning}
use Rattle.dr_world_tie.specs.Shown.{ComesAbout, RunsOf}
use Rattle.dr_world_script.specs.declared.step.Side.{Side}
use Rattle.dr_world_script.specs.declared.step.Step.{Step}
use Rattle.dr_world_script.specs.declared.step.Step.TheVariants.{Submit}
use Rattle.dr_world.specs.declared.changing.Change.{Change}
use Rattle.dr_world.specs.declared.changing.Change.TheVariants.{Adopted, Skipped, Unfit}
use Rattle.dr_world.specs.declared.deed.Deed.{Deed}
use Rattle.dr_world.specs.declared.deed.Deed.TheVariants as deed
use Rattle.dr_world.specs.declared.fault.WorldFault.{WorldFault}
use Rattle.dr_world.specs.declared.fault.WorldFault.TheVariants as fault
use Rattle.dr_world.specs.declared.steps.StepNote.{StepNote as Note}
use Rattle.dr_world.specs.declared.world.World.{World}
use Rattle.dr_world.specs.Adopted.{Changes, ChangesTo, certificate_after, plan_after}
use Rattle.dr_world.specs.Among.{FitsFrom, HasOurs, HoldsAmong}
use Rattle.dr_world.specs.Answered.{IsAnswered, StepsAnswered, armed_in}
use Rattle.dr_world.specs.Ends.{named}
use Rattle.dr_world.specs.Others.{NoneWrites, Writes, WritesAt}
use Rattle.dr_world.specs.Runs.{HoldsOf, IsBeside, step_of}
use Rattle.dr_world.specs.Shows.{IsSeated, ShowsBytes}
use Rattle.dr_world.specs.Whole.{AllStand, StepsTo, contents, noted}

-- ---- in the world of bytes

-- Deeds one after the other, from one plan and world of bytes to another; each change among them
-- comes to what stands for it, in their order. No step among them was refused for want of memory,
-- nor by a store that wasn't told to.
abbrev pub PlaysThrough : Network → Certificate → ByteWorld → List Deed → List Change → Network
    → Certificate → ByteWorld → Type 0
PlaysThrough plan certificate b [] changes last its new =
    (changes ≡ []) × (last ≡ plan) × (its ≡ certificate) × (new ≡ b)
PlaysThrough plan certificate b (deed.Step step ∷ deeds) changes last its new =
    (note : StepNote) × (mid : ByteWorld)
    × StepsAnswered plan certificate b (step_of step) note mid
    × PlaysThrough plan certificate mid deeds changes last its new
PlaysThrough plan certificate b (deed.Bytes link side bytes ∷ deeds) changes last its new =
    (mid : ByteWorld)
    × Writes b link (named side) bytes mid
    × PlaysThrough plan certificate mid deeds changes last its new
PlaysThrough plan certificate b (deed.Adopt next ∷ deeds) [] last its new = ⊥
PlaysThrough plan certificate b (deed.Adopt next ∷ deeds) (change ∷ changes) last its new =
    (mid : ByteWorld)
    × Changes plan b next.plan next.certificate change mid
    × PlaysThrough (plan_after next.plan change plan)
    (certificate_after next.certificate change certificate) mid deeds changes last its new

-- ---- in the world of messages

-- the plans that were taken, in their order
abbrev pub taken_in : List Deed → List Change → List Network
taken_in [] changes = []
taken_in (deed.Step step ∷ deeds) changes = taken_in deeds changes
taken_in (deed.Bytes link side bytes ∷ deeds) changes = taken_in deeds changes
taken_in (deed.Adopt next ∷ deeds) [] = []
taken_in (deed.Adopt next ∷ deeds) (Adopted ∷ changes) = next.plan ∷ taken_in deeds changes
taken_in (deed.Adopt next ∷ deeds) (Skipped ∷ changes) = taken_in deeds changes
taken_in (deed.Adopt next ∷ deeds) (Unfit node uid dest ∷ changes) = taken_in deeds changes

abbrev pub adopted_in : List Action → List Network
adopted_in [] = []
adopted_in (Occurs event ∷ actions) = adopted_in actions
adopted_in (Adopting next ∷ actions) = next ∷ adopted_in actions

-- the plan in force after these, where it was that one at first
abbrev pub in_force : Network → List Network → Network
in_force plan [] = plan
in_force plan (next ∷ more) = in_force next more

-- events, and the adoptions of just these plans, lead from the start to the world
abbrev pub ComesBy : Network → List Network → model.World → Type 0
ComesBy first taken v =
    (actions : List Action)
    × (adopted_in actions ≡ taken)
    × Runs first model.start actions (in_force first taken) v

-- ---- of code

-- These deeds, with what the changes among them come to, lead from the beginning of the world of
-- bytes to one that stands beside the contents. Each node is one of the plan in force.
abbrev pub WasPlayed : {L : Type 0} {l : Ghosts L}
    → Network → Certificate → List Deed → List Change → World L l → Type 0
WasPlayed first its deeds changes w =
    ∥ ((plan : Network) × (certificate : Certificate)
    × IsSeated plan certificate (contents w).seats
    × ((b : ByteWorld)
    × PlaysThrough first its beginning deeds changes plan certificate b
    × ShowsBytes (contents w) b)) ∥₁

-- the same, under the ledgers' own premise
abbrev pub IsPlayed : {L : Type 0} {l : Ghosts L}
    → Network → Certificate → List Deed → List Change → World L l → Type 0
IsPlayed first its deeds changes w = AllStand w → WasPlayed first its deeds changes w

-- The headline's four claims hold of the nodes' books by the plan in force: of a world of messages
-- beside it that has just these, and to which events and the adoptions of just these plans lead.
abbrev pub HoldsBy : {L : Type 0} {l : Ghosts L} → Network → List Network → World L l → Type 0
HoldsBy {L} {l} first taken w =
    ∥ ((v : model.World)
    × IsBeside (in_force first taken) w v
    × ((name : Text) (n : Node L l)
    → tree.get text_cmp w.nodes name ≡ Some n
    → v.books name ≡ l.book n.desk.ledger)
    × ComesBy first taken v
    × Headline (in_force first taken) v) ∥₁

-- a deed more, from any world to which some deeds have led; it has come to what is told
abbrev pub PlaysOn : {L : Type 0} {l : Ghosts L}
    → Deed → List Change → World L l → World L l → Type 0
PlaysOn done told old new =
    (first : Network) (its : Certificate)
    → IsCertified first its
    → (deeds : List Deed) (changes : List Change)
    → IsPlayed first its deeds changes old
    → IsPlayed first its (deeds ++ done ∷ []) (changes ++ told) new

-- The four claims hold after it, whatever deeds of our own have led to where it was done, under the
-- ledgers' own premise.
abbrev pub HoldsThrough : {L : Type 0} {l : Ghosts L}
    → Deed → List Change → World L l → World L l → Type 0
HoldsThrough done told old new =
    (first : Network) (its : Certificate)
    → IsCertified first its
    → (deeds : List Deed) (changes : List Change)
    → IsPlayed first its deeds changes old
    → NoneWrites (deeds ++ done ∷ [])
    → AllStand new
    → HoldsBy first (taken_in (deeds ++ done ∷ []) (changes ++ told)) new

-- several deeds more
abbrev pub PlaysAll : {L : Type 0} {l : Ghosts L}
    → List Deed → List Change → World L l → World L l → Type 0
PlaysAll done told old new =
    (first : Network) (its : Certificate)
    → IsCertified first its
    → (deeds : List Deed) (changes : List Change)
    → IsPlayed first its deeds changes old
    → IsPlayed first its (deeds ++ done) (changes ++ told) new

-- A world that just these deeds have made of the plan, and nothing else is asked: they lead to it
-- from the beginning, and each change came to what stands for it. Where no other product writes,
-- the headline's four claims hold of its nodes' books by the plan in force. Whichever nodes are
-- ours, the four claims among others hold of their books by that plan, where the deeds fit.
abbrev pub IsRunOf : {L : Type 0} {l : Ghosts L}
    → Network → Certificate → List Deed → List Change → World L l → Type 0
IsRunOf plan certificate deeds changes w =
    WasPlayed plan certificate deeds changes w
    × (NoneWrites deeds → HoldsBy plan (taken_in deeds changes) w)
    × ((ours : Ours)
    → FitsFrom ours plan certificate beginning deeds
    → HoldsAmong ours plan (in_force plan (taken_in deeds changes)) w)

-- ---- why not all is played

-- a change of plan
abbrev pub IsChange : Deed → Type 0
IsChange (deed.Step step) = ⊥
IsChange (deed.Adopt next) = Unit {0}
IsChange (deed.Bytes link side bytes) = ⊥

-- one of the deeds is
abbrev pub HasChange : List Deed → Type 0
HasChange deeds = (next : Certified) × Contains deeds (deed.Adopt next)

-- why deeds come to an end before the last: there is no memory, or a store failed in a change of
-- plan, if they have one
abbrev pub EndsEarly : Type 0 → WorldFault → Type 0
EndsEarly HasOne fault.Memory = Unit {0}
EndsEarly HasOne fault.HalfAdopted = HasOne
EndsEarly HasOne fault.WrongLedgers = ⊥
EndsEarly HasOne fault.Store = ⊥

-- ---- laws

-- Memory may always lack. A store may fail in a change alone; and nothing else ends deeds early.
pub record DeedsEndEarly : Type 0 where
  pub memory : EndsEarly ⊥ fault.Memory
  pub changed : EndsEarly (Unit {0}) fault.HalfAdopted
  pub unchanged : EndsEarly ⊥ fault.HalfAdopted → ⊥
  pub ledgers : EndsEarly (Unit {0}) fault.WrongLedgers → ⊥
  pub store : EndsEarly (Unit {0}) fault.Store → ⊥

-- From wherever deeds have led to, a step of a simulator's world goes on that is answered, and so
-- does a change of plan.
abbrev pub StepsGoOn : {L : Type 0} {l : Ghosts L} → World L l → World L l → Type 0
StepsGoOn old new =
    (step : Step) (note : Note)
    → StepsTo (step_of step) old note new
    → IsAnswered (armed_in old.nodes) (step_of step) (noted note)
    → PlaysOn (deed.Step step) [] old new

abbrev pub ChangesGoOn : {L : Type 0} {l : Ghosts L} → World L l → World L l → Type 0
ChangesGoOn old new =
    (next : Certified)
    → IsCertified next.plan next.certificate
    → (change : Change)
    → ChangesTo next.plan next.certificate old change new
    → PlaysOn (deed.Adopt next) (change ∷ []) old new

-- And so does what another product writes.
abbrev pub WritesGoOn : {L : Type 0} {l : Ghosts L} → World L l → World L l → Type 0
WritesGoOn old new =
    (link : ℕ) (side : Side) (bytes : List ℕ) (note : Note)
    → WritesAt link (named side) bytes old note new
    → PlaysOn (deed.Bytes link side bytes) [] old new

-- Wherever they have led to, the four claims hold by the plan in force, if no other product wrote.
abbrev pub DeedsKeepTheHeadline : {L : Type 0} {l : Ghosts L} → World L l → Type 0
DeedsKeepTheHeadline w =
    (first : Network) (its : Certificate)
    → IsCertified first its
    → (deeds : List Deed) (changes : List Change)
    → IsPlayed first its deeds changes w
    → NoneWrites deeds
    → AllStand w
    → HoldsBy first (taken_in deeds changes) w

-- Steps alone are played as before there were changes: by the steps of the world of bytes, with no
-- change to tell, and the plan stays in force. No other product writes in them.
abbrev pub StepsAloneRun : Type 0
StepsAloneRun =
    (plan last : Network) (certificate its : Certificate) (b new : ByteWorld)
    → (steps : List Step) (changes : List Change)
    → PlaysThrough plan certificate b (mapped deed.Step steps) changes last its new
    → (changes ≡ []) × (last ≡ plan)
    × RunsOf plan certificate b (mapped step_of steps) new
    × (taken_in (mapped deed.Step steps) changes ≡ [])
    × NoneWrites (mapped deed.Step steps)

-- And where no plan was taken, events alone have led to the world of messages.
abbrev pub EventsAloneLead : Type 0
EventsAloneLead = (plan : Network) (v : model.World) → ComesBy plan [] v → ComesAbout plan v

-- A script that fits nodes of ours is a run of a world of ours, through the plans that were taken:
-- of their ends whose peers are other products, and of the links between them.
abbrev pub FitScriptsAreOwnRuns : Type 0
FitScriptsAreOwnRuns =
    (ours : Ours) (plan last : Network) (certificate its : Certificate)
    (deeds : List Deed) (changes : List Change) (b : ByteWorld)
    → IsCertified plan certificate
    → FitsFrom ours plan certificate beginning deeds
    → PlaysThrough plan certificate beginning deeds changes last its b
    → (own : List MixedDeed) × (m : MixedWorld)
    × MixedRunsThrough ours plan certificate mixed_beginning own last its m
    × HasOurs ours b m

-- So the four claims among others hold of their books, whatever the other products write.
abbrev pub FitScriptsKeepTheClaims : {L : Type 0} {l : Ghosts L} → World L l → Type 0
FitScriptsKeepTheClaims w =
    (ours : Ours) (plan : Network) (certificate : Certificate)
    → IsCertified plan certificate
    → (deeds : List Deed) (changes : List Change)
    → WasPlayed plan certificate deeds changes w
    → FitsFrom ours plan certificate beginning deeds
    → HoldsAmong ours plan (in_force plan (taken_in deeds changes)) w

-- An instance that enters at a node that has a line for it is there: in the book of a script that
-- has just this step there is its arrival. So no body may refuse everything and report nothing.
abbrev pub WhatEntersIsThere : Type 0
WhatEntersIsThere =
    (plan last : Network) (certificate its : Certificate) (node : Text) (item : Job)
    (changes : List Change) (new : ByteWorld)
    → HasNode plan node
    → (plan_routing plan node).HasLine local item.key
    → PlaysThrough plan certificate beginning (deed.Step (Submit node item) ∷ []) changes last its
    new
    → (new.desks node).book
    ≡ after (arrival_line (plan_routing plan node) local (instance_of item)) empty_book

-- The four claims are no empty word: where the journal of a node says that a row was settled for
-- want of a presentation context, they don't hold of the world, whatever led to it.
abbrev pub ClaimsOfCodeCanFail : {L : Type 0} {l : Ghosts L} → World L l → Type 0
ClaimsOfCodeCanFail {L} {l} w =
    (plan : Network) (taken : List Network) (name : Text) (n : Node L l) (uid dest : Text) (now : ℕ)
    → tree.get text_cmp w.nodes name ≡ Some n
    → Contains (l.book n.desk.ledger).lines (Settling uid dest NoContext now)
    → (HoldsOf plan w → ⊥) × (HoldsBy plan taken w → ⊥)
