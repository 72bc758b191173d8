-- Statements one after another.
use Rattle.std.proofs.Common.{Ok, Err, Result, OnOk, arith}
use Rattle.sqlite.specs.declared.error.Error.{Error}
use Rattle.sqlite.specs.State.{State}
use Rattle.sqlite.proofs.InsideLemmas.{keeps_then}
use Rattle.sqlite.proofs.StateLemmas.{survives_then}
use Rattle.dr_store_writes.specs.Effects.{GoesOn, StatementStep}

-- a step that was done, as another one
pub as_done : {A B : Type 0} (old new : State) (x : A) (y : B) (Made Other : Type 0) → (Made → Other) → StatementStep {E = Error} (Ok x) old new Made → StatementStep {E = Error} (Ok y) old new Other
as_done old new x y Made Other f step = record { ok = λ clean inside is_open has. f (step.ok clean inside is_open has); kept = step.kept; survives = step.survives }

-- A step that asks for P and makes M, and then one that asks for Q and makes N.
pub one_then : {A B : Type 0} (old mid new : State) (x : A) (r : Result B Error) (P M Q N Made : Type 0) → StatementStep {E = Error} (Ok x) old mid (P → M) → StatementStep r mid new (Q → N)
    → (P → M → GoesOn old mid × Q) → (P → M → N → Made) → StatementStep r old new (P → Made)
one_then {B = B} old mid new x r P M Q N Made one two goes makes = record {
  ok = λ clean inside is_open has. all r (λ p. one.ok (omega (arith, two.survives.clean, clean)) inside is_open has p) (λ it. two.ok clean it.mode it.is_open it.ledger);
  kept = λ clean. keeps_then old mid new (one.kept (omega (arith, two.survives.clean, clean))) (two.kept clean);
  survives = survives_then old mid new (λ _. ⊥) (λ _. ⊥) (λ _. ⊥) (λ _ db h. h) (λ _ db h. h) one.survives two.survives;
}
  where
    all : (r : Result B Error) → (P → M) → (GoesOn old mid → OnOk r (Q → N)) → OnOk r (P → Made)
    all (Ok y) m n = λ p. let it = goes p (m p) in makes p (m p) (n it.0 it.1)
    all (Err e) m n = tt

-- a step makes what follows from what it makes
pub step_as : {A : Type 0} (old new : State) (r : Result A Error) (Made Other : Type 0) → (Made → Other) → StatementStep r old new Made → StatementStep r old new Other
step_as {A = A} old new r Made Other f step = record { ok = λ clean inside is_open has. mapped r (step.ok clean inside is_open has); kept = step.kept; survives = step.survives }
  where
    mapped : (r : Result A Error) → OnOk r Made → OnOk r Other
    mapped (Ok y) m = f m
    mapped (Err e) m = tt
