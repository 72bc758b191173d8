-- A call that writes, by the tables before and after it, and what a crash leaves of it. `all` are
-- all lines that are ever sealed: they say the whole book of each content of the tables.
use Rattle.std.specs.Prelude.{◌≡◌, ◌⊎◌, ℕ, List, Result, Ok, Err, OnOk}
use Rattle.sqlite.specs.State.{State, HasCleanDisk}
use Rattle.sqlite.specs.Tree.{Trees}
use Rattle.dr_base.specs.Texts.{Text}
use Rattle.dr_site.specs.Parts.{Part}
use Rattle.dr_ledger.specs.declared.fault.LedgerFault.{LedgerFault}
use Rattle.dr_ledger.specs.declared.item.Instance.{Instance}
use Rattle.dr_ledger.specs.declared.item.Outcome.{Outcome}
use Rattle.dr_ledger.specs.Adopting.{Adopting}
use Rattle.dr_ledger.specs.Books.{Book, Line}
use Rattle.dr_ledger.specs.Replies.{Drops, Forgets, PremiseLasts, Requeues, Settles}
use Rattle.dr_store_calls.specs.Adoptions.{IsAdopted, IsTakenOver}
use Rattle.dr_store_calls.specs.Calling.{IsLeftLedger, IsSafe}
use Rattle.dr_store_calls.specs.Knowing.{IsAccepted}
use Rattle.dr_store.specs.Pasts.{past_of, whole_book}

-- the trees have a ledger of that site, over their past, in a ledger's tables
abbrev pub HasLedger : List Line → Part → Trees → Type 0
HasLedger all part db = (n : ℕ) × IsLeftLedger (past_of all db) n part db

-- what a call makes of tables, which is a ledger of that site
abbrev pub MakesLedger : List Line → Part → (Trees → Trees → Type 0) → Trees → Trees → Type 0
MakesLedger all part Makes base db = HasLedger all part db × Makes base db

-- It answers for the tables committed before and after it, while the disk has returned what was
-- written and the store is open; only a failed store or want of memory ends that. A crash after it
-- leaves all tables as they were committed before it, or such as the accepted call makes by this
-- relation; and where it was accepted, all of them as they are committed after it.
pub record Wrote {A : Type 0} (result : Result A LedgerFault) (old new : State)
    (Answers Makes : Trees → Trees → Type 0) : Type 0 where
  pub answers : IsSafe new → Answers old.committed.trees new.committed.trees
  pub stood : IsSafe new → IsSafe old
  pub lasts : PremiseLasts result (HasCleanDisk old) (HasCleanDisk new) (IsSafe old) (IsSafe new)
  pub crash : HasCleanDisk new → IsSafe old → (db : Trees) → new.may_leave db
      → ∥ (db ≡ old.committed.trees) ⊎ Makes old.committed.trees db ∥₁
  pub durable : HasCleanDisk new → IsSafe old
      → OnOk result ((db : Trees) → new.may_leave db → db ≡ new.committed.trees)

-- where an adoption was accepted, the next site has taken the tables over, with their mark, and
-- else they are as they were
abbrev pub TakesOver : Part → Result (Unit {0}) LedgerFault → Trees → Trees → Type 0
TakesOver next (Ok done) base db = ∥ IsTakenOver next base db ∥₁
TakesOver next (Err why) base db = db ≡ base

-- the whole book after an adoption that was accepted, in tables that the next site has taken over
abbrev pub AdoptsWhole : List Line → Part → Trees → Trees → Type 0
AdoptsWhole all next base db =
    Adopting (whole_book all base) (Ok tt) (whole_book all db) × IsAdopted next base db

-- ---- laws

-- whatever it answers, and whatever it makes
abbrev pub Whatever : Trees → Trees → Type 0
Whatever base db = Unit {0}

-- it makes nothing
abbrev pub MakesNone : Trees → Trees → Type 0
MakesNone base db = ⊥

-- what a crash leaves is told by the books: the one from before, or the one that the call makes
abbrev pub IsToldByBooks : List Line
    → (Trees → Trees → Type 0) → (Book → Book → Type 0) → Type 0
IsToldByBooks all Makes Accepts =
    (base db : Trees)
    → ∥ (db ≡ base) ⊎ Makes base db ∥₁
    → (whole_book all db ≡ whole_book all base)
    ⊎ Accepts (whole_book all base) (whole_book all db)

-- so it is of each call, as its clause says what the call makes
pub record CrashesAreTold (all : List Line) : Type 0 where
  pub arrival : (part : Part) (caller : Text) (item : Instance)
      → IsToldByBooks all
      (MakesLedger all part
      (λ base db. IsAccepted part caller item (whole_book all base) (whole_book all db)))
      (IsAccepted part caller item)
  pub settling : (part : Part) (uid dest : Text) (outcome : Outcome) (now : ℕ)
      → IsToldByBooks all
      (MakesLedger all part
      (λ base db. Settles uid dest outcome now (whole_book all base) (Ok tt) (whole_book all db)))
      (λ old new. Settles uid dest outcome now old (Ok tt) new)
  pub requeuing : (part : Part) (uid dest : Text)
      → IsToldByBooks all
      (MakesLedger all part
      (λ base db. Requeues uid dest (whole_book all base) (Ok tt) (whole_book all db)))
      (λ old new. Requeues uid dest old (Ok tt) new)
  pub dropping : (part : Part) (uid dest : Text) (now : ℕ)
      → IsToldByBooks all
      (MakesLedger all part
      (λ base db. Drops uid dest now (whole_book all base) (Ok tt) (whole_book all db)))
      (λ old new. Drops uid dest now old (Ok tt) new)
  pub forgetting : (part : Part) (uid : Text)
      → IsToldByBooks all
      (MakesLedger all part
      (λ base db. Forgets uid (whole_book all base) (Ok tt) (whole_book all db)))
      (λ old new. Forgets uid old (Ok tt) new)
  pub adoption : (next : Part)
      → IsToldByBooks all (MakesLedger all next (AdoptsWhole all next))
      (λ old new. Adopting old (Ok tt) new)
