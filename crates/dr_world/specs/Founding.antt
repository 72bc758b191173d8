-- How a world begins: each node of a plan over a new ledger of its own site.
use Rattle.std.specs.Prelude.{◌≡◌, ◌≢◌, ◌⊎◌, ◌++◌, ◌∷◌, ℕ, Bool, true, false, List, [], ◌<◌, length}
use Rattle.std.specs.Prelude.{get_or, Contains, Some}
use Rattle.std.specs.FinMap as map
use Rattle.std.specs.BTreeMap as tree
use Rattle.std.specs.BTreeMap.{BTreeMap}
use Rattle.dr_base.specs.Texts.{Text, text_cmp}
use Rattle.dr_plan_model.specs.Networks.{Network}
use Rattle.dr_plan_model.specs.Plans.{AreNames}
use Rattle.dr_plan_sound.specs.declared.certificate.Certificate.{Certificate}
use Rattle.dr_site.specs.Parts.{IsPartOf, Part}
use Rattle.dr_ledger.specs.Books.{Book}
use Rattle.dr_ledger.specs.Replies.{HasRisen}
use Rattle.dr_ledger.specs.declared.ledger.Ledger.{Ghosts}
use Rattle.dr_node.specs.declared.node.Node.{Node}
use Rattle.dr_world.specs.declared.fault.WorldFault.{WorldFault}
use Rattle.dr_world.specs.declared.fault.WorldFault.TheVariants.{WrongLedgers, Store, HalfAdopted}
use Rattle.dr_world.specs.declared.fault.WorldFault.TheVariants.{Memory}

-- the journal has no line, or it has one
abbrev pub SaysEmpty : Book → Bool → Type 0
SaysEmpty b true = b.lines ≡ []
SaysEmpty b false = b.lines ≢ []

-- A node as it begins: its own part of the plan, no link, a store that isn't to refuse, and a
-- journal without a line.
pub record IsFounded {L : Type 0} {l : Ghosts L} (plan : Network) (certificate : Certificate)
    (name : Text) (n : Node L l) : Type 0 where
  pub named : (l.site n.desk.ledger).name ≡ name
  pub part : IsPartOf plan certificate (l.site n.desk.ledger)
  pub links : n.links ≡ map.empty
  pub armed : l.armed n.desk.ledger ≡ false
  pub empty : l.stands n.desk.ledger → (l.book n.desk.ledger).lines ≡ []

-- one node more, under its name
abbrev pub Founds : {L : Type 0} {l : Ghosts L}
    → Network → Certificate → Text → BTreeMap Text (Node L l) → BTreeMap Text (Node L l) → Type 0
Founds {L} {l} plan certificate name old new =
    (n : Node L l) × IsFounded plan certificate name n × tree.Updates text_cmp old new name (Some n)

-- each node is founded, and these names have one, and no other
pub record AreFounded {L : Type 0} {l : Ghosts L} (plan : Network) (certificate : Certificate)
    (names : List Text) (nodes : BTreeMap Text (Node L l)) : Type 0 where
  pub each : (name : Text) (n : Node L l)
      → tree.get text_cmp nodes name ≡ Some n
      → IsFounded plan certificate name n
  pub all : (name : Text) → Contains names name
      → (n : Node L l) × (tree.get text_cmp nodes name ≡ Some n)
  pub only : (name : Text) (n : Node L l)
      → tree.get text_cmp nodes name ≡ Some n
      → Contains names name

-- ---- why none begins

-- The journal has a line, as far as the ledger's own premise tells: nobody but what the ledger
-- trusts can end it.
abbrev pub SaysFilled : {L : Type 0} → (L → Type 0) → (L → Type 0) → (L → Book) → L → Type 0
SaysFilled {L} trusts stands book ledger =
    ((other : L) → trusts other) → stands ledger → (book ledger).lines ≢ []

-- why a ledger can't be a site's: it is of another one, or it isn't empty; its store has failed;
-- there is no memory
abbrev pub IsUnfit : {L : Type 0} → (L → Type 0) → (L → Type 0) → (L → Book) → (L → Part) → (L → ℕ)
    → Part → L → WorldFault → Type 0
IsUnfit trusts stands book site failed part ledger WrongLedgers =
    (site ledger ≢ part) ⊎ SaysFilled trusts stands book ledger
IsUnfit {L} trusts stands book site failed part ledger Store =
    (later : L) × HasRisen (failed ledger) (failed later)
IsUnfit trusts stands book site failed part ledger Memory = Unit {0}
IsUnfit trusts stands book site failed part ledger HalfAdopted = ⊥

-- why a ledger can't be that of the node of this name: it can't be that of the node's part of the
-- plan, or there is no memory
abbrev pub IsUnfitAt : {L : Type 0}
    → (Part → L → WorldFault → Type 0)
    → Network → Certificate → Text → L → WorldFault → Type 0
IsUnfitAt unfit plan certificate name ledger fault =
    (fault ≡ Memory)
    ⊎ ((part : Part) × (part.name ≡ name)
    × IsPartOf plan certificate part
    × unfit part ledger fault)

-- one of the ledgers can't be that of the node whose name stands at its place
abbrev pub SomeIsUnfit : {L : Type 0}
    → (Part → L → WorldFault → Type 0)
    → Network → Certificate → List Text → List L → WorldFault → Type 0
SomeIsUnfit {L} unfit plan certificate names ledgers fault =
    (before : List L) × (ledger : L) × (after : List L) × (name : Text)
    × (ledgers ≡ before ++ ledger ∷ after)
    × (get_or names (length before) name ≡ name)
    × (length before < length names)
    × IsUnfitAt unfit plan certificate name ledger fault

-- Why no world begins: there is another number of ledgers than of nodes, a ledger can't be its
-- node's, or there is no memory.
abbrev pub HasCause : {L : Type 0}
    → (Part → L → WorldFault → Type 0)
    → Network → Certificate → List L → WorldFault → Type 0
HasCause unfit plan certificate ledgers fault =
    (fault ≡ Memory)
    ⊎ ((names : List Text) × AreNames plan names
    × (((fault ≡ WrongLedgers) × (length names ≢ length ledgers))
    ⊎ SomeIsUnfit unfit plan certificate names ledgers fault))
