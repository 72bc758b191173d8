-- What the calls that read show, and when a failure counts: figures and laws that pin those
-- definitions.
use Rattle.std.specs.Prelude.{◌≡◌, ◌↔◌, ◌⊎◌, ℕ, ◌<◌, ◌-◌, ◌^◌, true, List, [], ◌∷◌, Contains, codes}
use Rattle.std.specs.Prelude.{Bool, false, Some, Result, Ok, Err}
use Rattle.std.specs.FinMap as map
use Rattle.std.specs.FinSet as set
use Rattle.std.specs.FinSet.{FinSet}
use Rattle.dr_base.specs.Texts.{Text, text_cmp}
use Rattle.dr_base.specs.declared.syntax.Syntax.TheVariants.{Explicit}
use Rattle.dr_route.specs.declared.key.Key.{Key}
use Rattle.dr_ledger.specs.declared.fault.LedgerFault.{LedgerFault}
use Rattle.dr_ledger.specs.declared.fault.LedgerFault.TheVariants as fault
use Rattle.dr_ledger.specs.declared.item.Entry.TheVariants as entry
use Rattle.dr_ledger.specs.declared.item.Instance.{Instance}
use Rattle.dr_ledger.specs.declared.item.Outcome.TheVariants.{Status}
use Rattle.dr_ledger.specs.Books.{Book, Arrival, Repeat, Settling, Requeuing, Dropping, Forgetting}
use Rattle.dr_ledger.specs.Books.{Adoption}
use Rattle.dr_ledger.specs.Refusals.{Arms}
use Rattle.dr_ledger.specs.Replies.{AreKept, Counts, HasRisen, LastsAfter, Lists, PremiseLasts}
use Rattle.dr_ledger.specs.Replies.{entry_of}

-- the key of a CT image in the explicit syntax, of station S1
abbrev pub a_key : Key
a_key = record {
  class = codes "1.2.840.10008.5.1.4.1.1.2";
  syntax = Explicit;
  modality = codes "CT";
  station = codes "S1";
}

-- a CT image of 70 bytes with the uid 1.2.3.4; no figure looks at its digest
abbrev pub an_image : Instance
an_image = record { uid = codes "1.2.3.4"; key = a_key; size = 70; digest = [] }

-- what is shown of a line of each kind: an arrival shows the length of the data set and not its
-- bytes
pub record LinesAreShown : Type 0 where
  pub arrival : entry_of (Arrival (codes "CT1") an_image (codes "ARCH" ∷ []) true)
      ≡ entry.Arrival (codes "CT1") (codes "1.2.3.4") a_key 70 (codes "ARCH" ∷ []) true
  pub repeat : entry_of (Repeat (codes "CT1") an_image)
      ≡ entry.Repeat (codes "CT1") (codes "1.2.3.4") a_key 70
  pub settling : entry_of (Settling (codes "1.2.3.4") (codes "ARCH") (Status 0xA700) 5)
      ≡ entry.Settling (codes "1.2.3.4") (codes "ARCH") (Status 0xA700) 5
  pub requeuing : entry_of (Requeuing (codes "1.2.3.4") (codes "ARCH"))
      ≡ entry.Requeuing (codes "1.2.3.4") (codes "ARCH")
  pub dropping : entry_of (Dropping (codes "1.2.3.4") (codes "ARCH") 5)
      ≡ entry.Dropping (codes "1.2.3.4") (codes "ARCH") 5
  pub forgetting : entry_of (Forgetting (codes "1.2.3.4")) ≡ entry.Forgetting (codes "1.2.3.4")
  pub adoption : entry_of Adoption ≡ entry.Adoption

-- The kept uids are shown, each with the length of its instance's data set, and nothing else is.
abbrev pub KeptAreMeasured : Type 0
KeptAreMeasured =
    (b : Book) (all : List (Text × ℕ))
    → AreKept b all → (uid : Text) (size : ℕ)
    → Contains all (uid, size)
    ↔ ((set.contains b.kept uid ≡ true)
    × ((item : Instance) × (map.get b.items uid ≡ Some item) × (item.size ≡ size)))

-- the elements of a set are listed in one way
abbrev pub ListsAreOne : Type 0
ListsAreOne =
    (elements : FinSet text_cmp) (first other : List Text)
    → Lists text_cmp elements first → Lists text_cmp elements other → first ≡ other

-- where a ledger is to refuse its next line, none is added, and behind a line none is to be refused
abbrev pub AddedIsUnarmed : Type 0
AddedIsUnarmed =
    (value : ℕ) (old new : Bool)
    → Arms (Unit {0}) old (Ok value) new → (old ≡ false) × (new ≡ false)

-- what is refused for another reason than the store leaves what is told
abbrev pub OthersLeaveArmed : Type 0
OthersLeaveArmed =
    (why : LedgerFault) (old new : Bool)
    → (why ≡ fault.Store → ⊥) → Arms {A = ℕ} (Unit {0}) old (Err why) new → new ≡ old

-- a call that wouldn't add a line leaves what is told, whatever it answers
abbrev pub NoLineLeavesArmed : Type 0
NoLineLeavesArmed =
    (r : Result ℕ LedgerFault) (old new : Bool) → Arms ⊥ old r new → new ≡ old

-- What is told after a failed store: a call that would have added a line may have spent it, and a
-- store that failed by itself leaves it. Nothing is told by that.
pub record StoresSpend : Type 0 where
  pub spends : Arms {A = ℕ} (Unit {0}) true (Err fault.Store) false
  pub leaves : (told : Bool) → Arms {A = ℕ} ⊥ told (Err fault.Store) told
  pub tells_none : Arms {A = ℕ} (Unit {0}) false (Err fault.Store) true → ⊥

-- a premise may end only where a store failed or memory ran out: even one that can't stand lasts
-- just there
abbrev pub PremisesLast : Type 0
PremisesLast =
    (r : Result ℕ LedgerFault)
    → LastsAfter r ⊥ ↔ ((r ≡ Err fault.Store) ⊎ (r ≡ Err fault.Memory))

-- No call ends a premise that stood, of what is trusted, by itself; and none makes trusted what
-- wasn't.
pub record CallsKeepPremises (r : Result ℕ LedgerFault) : Type 0 where
  pub ends : PremiseLasts r (Unit {0}) (Unit {0}) (Unit {0}) ⊥
      → (r ≡ Err fault.Store) ⊎ (r ≡ Err fault.Memory)
  pub trusted : PremiseLasts r ⊥ (Unit {0}) (Unit {0}) (Unit {0}) → ⊥

-- a call keeps premises, whatever it answers
abbrev pub EachCallKeepsPremises : Type 0
EachCallKeepsPremises = (r : Result ℕ LedgerFault) → CallsKeepPremises r

-- Where the store is the fault, the count of failures has risen, if it wasn't at its greatest
-- value.
abbrev pub FailuresAreCounted : Type 0
FailuresAreCounted =
    (before now : ℕ)
    → Counts {A = Unit {0}} (Err fault.Store) before now
    → now < 2 ^ 64 - 1 → before < now

-- 3 failures aren't more than 3, 4 are; at the greatest value the count stays
pub record FiguresRise : Type 0 where
  pub same : HasRisen 3 3 → ⊥
  pub more : HasRisen 3 4
  pub greatest : HasRisen (2 ^ 64 - 1) (2 ^ 64 - 1)
