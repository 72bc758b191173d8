-- A call as one transaction.
use Rattle.std.proofs.Common.{◌≡◌, ℕ, [], true, false, Ok, Err, Result, IfErr, OnOk, OnErr, IsTrue, inl, inr, refl, sym, ap, subst, ◌∙◌, ◌+◌, true≢false, arith}
use Rattle.sqlite.specs.declared.error.Error.{Error}
use Rattle.sqlite.specs.Effect.{Database}
use Rattle.sqlite.specs.State.{State, HasCleanDisk, KeepsCommit, IsRolledBack, KeepsCounts, Shows, Survives}
use Rattle.sqlite.specs.Steps.{FailsToCommit}
use Rattle.sqlite.specs.Tree.{Trees}
use Rattle.sqlite.proofs.InsideLemmas.{unchanged_keeps, keeps_then}
use Rattle.sqlite.proofs.StateLemmas.{survives_then}
use Rattle.dr_store_schema.specs.Books.{AreBelow}
use Rattle.dr_store_schema.specs.Ledgers.{IsLedger}
use Rattle.dr_store_writes.specs.Effects.{CommitsNothing, GoesOn, StatementStep}
use Rattle.dr_store_changes.proofs.Numbers.{below_next}
use Rattle.dr_store_changes.specs.Writing.{AreLedgers, IsMade, IsReady, Transacted, Written}

pub on_ok : {T E A B : Type 0} (r : Result T E) → (A → B) → OnOk r A → OnOk r B
on_ok (Ok x) f h = f h
on_ok (Err e) f h = tt

pub on_err : {T E B : Type 0} {P : E → Type 0} (r : Result T E) → ((e : E) → P e → B) → IfErr r P → OnErr r B
on_err (Ok x) f h = tt
on_err (Err e) f h = f e h

pub is_same : {T E B : Type 0} (r : Result T E) → B → OnErr r B
is_same (Ok x) h = tt
is_same (Err e) h = h

-- ---- the transaction

-- inside a transaction all is done: the tables are what is made of them, and each line has a number
-- below m
pub record IsDone (m : ℕ) (Makes : Trees → Trees → Type 0) (old new : State) : Type 0 where
  pub goes_on : GoesOn old new
  pub below : AreBelow m (new.now.trees 11)
  pub made : Makes old.now.trees new.now.trees

-- a commit leaves a ledger's tables, all committed
ready_after : (old mid new : State) (n m : ℕ) (Makes : Trees → Trees → Type 0) → IsReady n old → IsDone m Makes (record old { in_transaction = true }) mid → Shows mid new mid.now mid.now false
    → IsReady m new × Makes old.committed.trees new.committed.trees
ready_after old mid new n m Makes ready w shown = (
  record {
    is_open = shown.is_open;
    ledger = subst IsLedger (sym shown.now_is) w.goes_on.ledger;
    settled = shown.now_is ∙ sym shown.committed_is;
    below = subst (AreBelow m) (ap (λ (d : Database). d.trees 11) (sym shown.now_is)) w.below;
  },
  subst (λ (d : Database). Makes d.trees new.committed.trees) ready.settled (subst (λ (d : Database). Makes old.now.trees d.trees) (sym shown.committed_is) w.made),
)

pub commit_keeps : (old new : State) (e : Error) → FailsToCommit old new e → KeepsCommit old new
commit_keeps old new e (inl f) = unchanged_keeps old new (inr f.3)
commit_keeps old new e (inr u) = unchanged_keeps old new (inl u.2)

pub rolled_keeps : (old new : State) → IsRolledBack old new → KeepsCommit old new
rolled_keeps old new r = unchanged_keeps old new (inr r)

-- to begin a transaction touches nothing
pub begun_keeps : (old new : State) → KeepsCommit (record old { in_transaction = true }) new → KeepsCommit old new
begun_keeps old new k = record { was_open = k.was_open; committed = k.committed }

-- what is rolled back is as it was
pub ready_again : (old mid new : State) (n : ℕ) → IsReady n old → KeepsCommit old mid → IsRolledBack mid new → IsTrue new.is_open → IsReady n new
ready_again old mid new n ready kept rolled is_open =
    let undone = rolled.undone is_open in
    let was = rolled.was_open is_open in
    let back : new.now ≡ old.now = undone.0 ∙ kept.committed was ∙ sym ready.settled in
    record {
      is_open = is_open;
      ledger = subst IsLedger (sym back) ready.ledger;
      settled = undone.0 ∙ sym undone.1;
      below = subst (λ (d : Database). AreBelow n (d.trees 11)) (sym back) ready.below;
    }

-- a commit that fails has rolled back, where a transaction was on
pub commit_rolled : (old new : State) (e : Error) → IsTrue old.in_transaction → FailsToCommit old new e → IsRolledBack old new
commit_rolled old new e on (inl f) = f.3
commit_rolled old new e on (inr u) = absurd (true≢false (sym on ∙ u.1))

begun_survives : (old new : State) (P : Trees → Type 0) → Survives (record old { in_transaction = true }) new P → Survives old new P
begun_survives old new P s = record { clean = s.clean; shield = s.shield; counts = s.counts; limit = s.limit; closes = s.closes; crash = s.crash }

are_ledgers : (d : Database) → IsLedger d → AreLedgers d.trees
are_ledgers d l = subst (λ schema. IsLedger (record { schema = schema; trees = d.trees })) l.schema l

-- Where all statements were run, and the commit was tried. What they ask for is there where the
-- tables are as the call asks, and what they make is all that it makes.
pub all_done : {A : Type 0} (old mid new : State) (n m : ℕ) (Asks : Trees → Type 0) (Makes : Trees → Trees → Type 0) (x : A) (r : Result (Unit {0}) Error) (Given Made : Type 0)
    → (IsReady n old → Asks old.now.trees → Given) → (IsReady n old → Made → IsDone m Makes (record old { in_transaction = true }) mid)
    → StatementStep {E = Error} (Ok x) (record old { in_transaction = true }) mid (Given → Made)
    → (HasCleanDisk new → OnOk r (IsTrue mid.in_transaction × Shows mid new mid.now mid.now false × KeepsCounts mid new × (new.marks ≡ [])))
    → (HasCleanDisk new → IfErr r (FailsToCommit mid new)) → Survives mid new (λ db. db ≡ mid.now.trees) → Transacted n m Asks Makes r old new
all_done old mid new n m Asks Makes x r Given Made given done step ok err survives = record {
  was_open = λ clean is_open. (keeps clean).was_open (opened clean is_open r (ok clean) (err clean));
  ok = λ clean ready asks. on_ok r (λ shown. ready_after old mid new n m Makes ready (made clean ready asks) shown.1) (ok clean);
  err = λ clean is_open. on_err r (λ e fails. (keeps_then old mid new (keeps clean) (commit_keeps mid new e fails)).committed is_open) (err clean);
  ready = λ clean is_open ready asks. on_err r (λ e fails. ready_again old mid new n ready (keeps clean) (commit_rolled mid new e (made clean ready asks).goes_on.mode fails) is_open) (err clean);
  crash = λ ready asks. survives_then old mid new (λ _. ⊥) (λ db. db ≡ mid.now.trees) (λ db. AreLedgers db × Makes old.committed.trees db) (λ _ db none. absurd none)
      (λ clean db is.
      let it = made clean ready asks in
      subst (λ t. AreLedgers t × Makes old.committed.trees t) (sym is) (are_ledgers mid.now it.goes_on.ledger, subst (λ (d : Database). Makes d.trees mid.now.trees) ready.settled it.made))
      (begun_survives old mid (λ _. ⊥) step.survives) survives;
  clean = omega (arith, step.survives.clean, survives.clean);
}
  where
    early : HasCleanDisk new → HasCleanDisk mid
    early clean = omega (arith, survives.clean)

    keeps : HasCleanDisk new → KeepsCommit old mid
    keeps clean = begun_keeps old mid (step.kept (early clean))

    made : HasCleanDisk new → IsReady n old → Asks old.now.trees → IsDone m Makes (record old { in_transaction = true }) mid
    made clean ready asks = done ready (step.ok (early clean) refl ready.is_open ready.ledger (given ready asks))

    opened : HasCleanDisk new → IsTrue new.is_open → (r : Result (Unit {0}) Error) → OnOk r (IsTrue mid.in_transaction × Shows mid new mid.now mid.now false × KeepsCounts mid new × (new.marks ≡ []))
        → IfErr r (FailsToCommit mid new) → IsTrue mid.is_open
    opened clean is_open (Ok done) all fails = all.1.was_open
    opened clean is_open (Err e) all fails = (commit_keeps mid new e fails).was_open is_open

-- the same of a call that adds a line
pub all_run : {A : Type 0} (old mid new : State) (n : ℕ) (Asks : Trees → Type 0) (Makes : Trees → Trees → Type 0) (x : A) (r : Result (Unit {0}) Error)
    → StatementStep {E = Error} (Ok x) (record old { in_transaction = true }) mid (Asks old.now.trees → IsMade n Makes (record old { in_transaction = true }) mid)
    → (HasCleanDisk new → OnOk r (IsTrue mid.in_transaction × Shows mid new mid.now mid.now false × KeepsCounts mid new × (new.marks ≡ [])))
    → (HasCleanDisk new → IfErr r (FailsToCommit mid new)) → Survives mid new (λ db. db ≡ mid.now.trees) → Written n Asks Makes r old new
all_run old mid new n Asks Makes x r =
    all_done old mid new n (n + 1) Asks Makes x r (Asks old.now.trees) (IsMade n Makes (record old { in_transaction = true }) mid) (λ ready asks. asks)
    (λ ready w. record { goes_on = w.goes_on; below = subst (AreBelow (n + 1)) (sym w.line.journal) (below_next n w.line.row (old.now.trees 11) w.line.numbered ready.below); made = w.made })

-- where a statement failed, and the transaction was dropped
pub one_failed : {A : Type 0} (old mid new : State) (n m : ℕ) (Asks : Trees → Type 0) (Makes : Trees → Trees → Type 0) (x : Result A Error) (e : Error) (Made : Type 0)
    → StatementStep x (record old { in_transaction = true }) mid Made → (HasCleanDisk new → IsRolledBack mid new) → CommitsNothing mid new → Transacted {E = Error} n m Asks Makes (Err e) old new
one_failed old mid new n m Asks Makes x e Made step undone survives = record {
  was_open = λ clean is_open. (keeps_then old mid new (keeps clean) (rolled_keeps mid new (undone clean))).was_open is_open;
  ok = λ clean ready asks. tt;
  err = λ clean is_open. (keeps_then old mid new (keeps clean) (rolled_keeps mid new (undone clean))).committed is_open;
  ready = λ clean is_open ready asks. ready_again old mid new n ready (keeps clean) (undone clean) is_open;
  crash = λ ready asks. survives_then old mid new (λ _. ⊥) (λ _. ⊥) (λ db. AreLedgers db × Makes old.committed.trees db) (λ _ db none. absurd none) (λ _ db none. absurd none) (begun_survives old mid (λ _. ⊥) step.survives) survives;
  clean = omega (arith, step.survives.clean, survives.clean);
}
  where
    keeps : HasCleanDisk new → KeepsCommit old mid
    keeps clean = begun_keeps old mid (step.kept (omega (arith, survives.clean, clean)))
