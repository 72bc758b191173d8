-- What is known by reading.
use Rattle.std.proofs.Common.{◌≡◌, ◌⊎◌, ◌↔◌, inl, inr, Bool, true, IsTrue, Result, Ok, Err, ℕ, refl, sym, subst}
use Rattle.std.proofs.lemmas.Bool.{false≢true}
use Rattle.std.specs.Result.{IsErr, IsErrAnd}
use Rattle.sqlite.specs.State.{State}
use Rattle.sqlite.specs.Tree.{Trees}
use Rattle.dr_site.specs.Parts.{Part}
use Rattle.dr_ledger.specs.declared.fault.LedgerFault.{LedgerFault}
use Rattle.dr_ledger.specs.declared.fault.LedgerFault.TheVariants as fault
use Rattle.dr_ledger.specs.Replies.{Reads}
use Rattle.dr_store_calls.specs.Calling.{IsOwnFault, Looked, Nothing}
use Rattle.dr_store_calls.proofs.Calls.{looked_failed, looked_then}

-- what is shown is shown as something else
pub reads_as : {A : Type 0} (r : Result A LedgerFault) (P Q : A → Type 0) → ((a : A) → P a → Q a) → Reads r P → Reads r Q
reads_as (Ok a) P Q f h = f a h
reads_as (Err fault.Store) P Q f h = tt
reads_as (Err fault.Memory) P Q f h = tt
reads_as (Err fault.NoLine) P Q f h = absurd h
reads_as (Err fault.Conflict) P Q f h = absurd h
reads_as (Err fault.NotWaiting) P Q f h = absurd h
reads_as (Err fault.NotHeld) P Q f h = absurd h
reads_as (Err fault.NotOver) P Q f h = absurd h

-- a row that is done needs nothing itself
pub still_as : (elsewhere needed : Bool) (Open Elsewhere Kept : Type 0) → (Open → ⊥) → (IsTrue elsewhere ↔ Elsewhere) → (IsTrue needed ↔ ((elsewhere ≡ true) ⊎ Kept))
    → (IsTrue needed ↔ (Open ⊎ (Elsewhere ⊎ Kept)))
still_as elsewhere needed Open Elsewhere Kept closed says n = (
  λ h. elim (n.0 h) [ inl e ↦ inr (inl (says.0 e)) | inr k ↦ inr (inr k) ],
  λ h. n.1 (elim h [ inl o ↦ absurd (closed o) | inr more ↦ elim more [ inl e ↦ inl (says.1 e) | inr k ↦ inr k ] ]),
)

-- a fault shows nothing, whatever was to be shown
pub same_fault : {A B : Type 0} (e : LedgerFault) (P : A → Type 0) (Q : B → Type 0) → Reads (Err e) P → Reads (Err e) Q
same_fault fault.Store P Q h = tt
same_fault fault.Memory P Q h = tt
same_fault fault.NoLine P Q h = absurd h
same_fault fault.Conflict P Q h = absurd h
same_fault fault.NotWaiting P Q h = absurd h
same_fault fault.NotHeld P Q h = absurd h
same_fault fault.NotOver P Q h = absurd h

-- ---- queries, one after another

own_reads : {A : Type 0} (P : A → Type 0) (e : LedgerFault) → IsOwnFault e → Reads {A = A} (Err e) P
own_reads {A} P e (inl is) = subst (λ x. Reads {A = A} (Err x) P) (sym is) tt
own_reads {A} P e (inr is) = subst (λ x. Reads {A = A} (Err x) P) (sym is) tt

module _ {A B : Type 0} (n : ℕ) (part : Part) (Shows : Trees → A → Type 0) (Says : Trees → B → Type 0) where
  -- a query, and one more, which says what both show
  pub looked_both : (old mid new : State) (Next : Trees → B → Type 0) (a : A) (r : Result B LedgerFault) → Looked n part (Ok a) old mid Shows → Looked n part r mid new Next
      → ((base : Trees) → Shows base a → (b : B) → Next base b → Says base b) → Looked n part r old new Says
  looked_both old mid new Next a r l c says =
      looked_then n n part old mid new Shows a r Nothing Nothing (λ base db. (db ≡ base) × Reads r (Next base)) (λ base db. ⊥) (λ base db. (db ≡ base) × Reads r (Says base)) (λ base db. ⊥) l c (λ past db l any shown. tt)
      (λ base db any shown it. (it.0, reads_as r (Next base) (Says base) (says base shown) it.1)) (λ base db any shown none. none)

  -- a query that failed says nothing, whatever was to be shown
  pub looked_fault : (old new : State) (e : LedgerFault) → Looked n part (Err e) old new Shows → Looked {A = B} n part (Err e) old new Says
  looked_fault old new e l =
      looked_failed {B = B} n part old new Shows e Nothing (λ base db. (db ≡ base) × Reads {A = B} (Err e) (Says base)) (λ base db. ⊥) l (λ base any own. (refl, own_reads {A = B} (Says base) e own))

  -- the same, where its fault was handed on
  pub looked_handed : (old new : State) (e : LedgerFault) (r : Result B LedgerFault) → IsErr r → IsErrAnd r (λ (why : LedgerFault). why ≡ e) → Looked n part (Err e) old new Shows → Looked n part r old new Says
  looked_handed old new e (Ok b) err is l = absurd (false≢true err)
  looked_handed old new e (Err why) err is l = subst (λ (x : LedgerFault). Looked {A = B} n part (Err x) old new Says) (sym is) (looked_fault old new e l)
