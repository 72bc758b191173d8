-- What a statement of a transaction does to the last commit.
use Rattle.std.proofs.Common.{◌≡◌, ℕ, List, false, Result, IsTrue, inl, inr, refl, sym, subst}
use Rattle.std.proofs.lemmas.Bool.{cases_Bool}
use Rattle.sqlite.specs.declared.error.Error.{Error}
use Rattle.sqlite.specs.Order.{Row}
use Rattle.sqlite.specs.State.{State, ExecutesInside, KeepsCommit}
use Rattle.sqlite.proofs.InsideLemmas.{inside_keeps}

-- nothing, however it ends
pub keeps : (held : ℕ) (sql : List ℕ) (params : Row) (old new : State) (r : Result ℕ Error) → (old.in_transaction ≡ false → new ≡ old)
    → (IsTrue old.in_transaction → ExecutesInside held sql params old new r) → KeepsCommit old new
keeps held sql params old new r ended runs = elim (cases_Bool old.in_transaction) [
  | inl inside ↦ inside_keeps old new held false sql params r (runs inside)
  | inr over ↦ subst (λ s. KeepsCommit old s) (sym (ended over)) (record { was_open = λ h. h; committed = λ _. refl })
]
