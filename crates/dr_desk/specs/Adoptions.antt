-- A ledger takes another plan, or says why it doesn't.
use Rattle.std.specs.Prelude.{◌≡◌, ◌≤◌, ℕ, Some, Result, Ok, Err}
use Rattle.dr_cert.specs.Sealing.{Certified}
use Rattle.dr_plan_model.specs.Networks.{Network}
use Rattle.dr_plan_model.specs.Plans.{NamesNoNode}
use Rattle.dr_ledger.specs.Adopting.{IsFit, Unfits}
use Rattle.dr_ledger.specs.Bodies.{Bodies}
use Rattle.dr_ledger.specs.Books.{Adoption, Book, after}
use Rattle.dr_ledger.specs.Replies.{HasRisen}
use Rattle.dr_ledger.specs.declared.fault.LedgerFault.{LedgerFault}
use Rattle.dr_ledger.specs.declared.fault.LedgerFault.TheVariants as ledger
use Rattle.dr_site.specs.Parts.{IsPartOf, Part}
use Rattle.dr_desk.specs.declared.adopting.AdoptFault.{AdoptFault}
use Rattle.dr_desk.specs.declared.adopting.AdoptFault.TheVariants as fault

-- What a ledger's fault is to who has it take a plan. By the ledger's premise only its store and
-- memory can be the cause; a failed store is told only where the count of failures rose.
abbrev pub untaken_by : LedgerFault → AdoptFault
untaken_by ledger.Store = fault.Store
untaken_by ledger.Memory = fault.Memory
untaken_by ledger.NoLine = fault.Memory
untaken_by ledger.Conflict = fault.Memory
untaken_by ledger.NotWaiting = fault.Memory
untaken_by ledger.NotHeld = fault.Memory
untaken_by ledger.NotOver = fault.Memory

-- the premise of what is claimed lasts after an answer, but where a store failed or memory ran out
abbrev pub LastsAfter : {A : Type 0} → Result A AdoptFault → Type 0 → Type 0
LastsAfter (Ok value) Lasts = Lasts
LastsAfter (Err fault.NoNode) Lasts = Lasts
LastsAfter (Err (fault.Unfit uid dest)) Lasts = Lasts
LastsAfter (Err fault.Store) Lasts = Unit {0}
LastsAfter (Err fault.Memory) Lasts = Unit {0}

-- Nobody but what the ledger trusts, a failed store or want of memory can end its premise. And what
-- is trusted afterwards was trusted before.
pub record StillStands {A : Type 0} (result : Result A AdoptFault)
    (Trusted Trusts Stood Stands : Type 0) : Type 0 where
  pub trusted : Trusts → Trusted
  pub lasts : LastsAfter result (Trusts → Stood → Stands)

module _ {L : Type 0} (site_of : L → Part) (book : L → Book) (bodies : L → Bodies)
    (stands : L → Type 0) (failed : L → ℕ) where
  -- The ledger has what it had: its site, its book with its journal, and its data sets. Where its
  -- premise stands after the call, it stood before.
  pub record IsAsItWas (old new : L) : Type 0 where
    pub site : site_of new ≡ site_of old
    pub stood : stands new → stands old
    pub same : stands new → book new ≡ book old
    pub data_sets : stands new → bodies new ≡ bodies old
    pub never_falls : failed old ≤ failed new

  -- The ledger is of that part of the next plan now, which is its node's. Its rows were fit for it.
  -- The adoption made its book, and each data set stayed.
  pub record HasTaken (next : Certified) (own : Part) (old new : L) : Type 0 where
    pub part : IsPartOf next.plan next.certificate own
    pub named : own.name ≡ (site_of old).name
    pub site : site_of new ≡ own
    pub stood : stands new → stands old
    pub fit : stands new → IsFit next.plan own.name (book old)
    pub adopted : stands new → book new ≡ after Adoption (book old)
    pub data_sets : stands new → bodies new ≡ bodies old
    pub never_falls : failed old ≤ failed new

  -- Why the ledger doesn't take the plan: it has no such node; or it has one, but this is the first
  -- row with which it doesn't go on; or the store has failed; or for want of memory. The last two
  -- may come before the rows are known.
  abbrev pub RefusesPlan : Network → AdoptFault → L → L → Type 0
  RefusesPlan next fault.NoNode old new = NamesNoNode next (site_of old).name × (new ≡ old)
  RefusesPlan next (fault.Unfit uid dest) old new =
      (NamesNoNode next (site_of old).name → ⊥)
      × (stands new → Unfits next (site_of old).name (book old) (Some (uid, dest)))
  RefusesPlan next fault.Store old new =
      (NamesNoNode next (site_of old).name → ⊥) × HasRisen (failed old) (failed new)
  RefusesPlan next fault.Memory old new = NamesNoNode next (site_of old).name → ⊥

  -- what is answered by a ledger that is to take the plan, and the ledger after it
  abbrev pub AnswersPlan : Certified → Result Part AdoptFault → L → L → Type 0
  AnswersPlan next (Ok own) old new = HasTaken next own old new
  AnswersPlan next (Err why) old new = RefusesPlan next.plan why old new × IsAsItWas old new
