-- Queries, and what is made of their answers.
use Rattle.std.proofs.Common.{◌≡◌, Ok, Err, Result, OnOk, inl, inr, sym, ap, subst, ◌∙◌, arith}
use Rattle.std.specs.Result.{IsErr, IsErrAnd}
use Rattle.sqlite.specs.Effect.{Database}
use Rattle.sqlite.specs.State.{State, HasCleanDisk}
use Rattle.dr_ledger.specs.declared.fault.LedgerFault.{LedgerFault}
use Rattle.dr_ledger.specs.declared.fault.LedgerFault.TheVariants as fault
use Rattle.dr_ledger.specs.Replies.{Reads}
use Rattle.dr_store_schema.specs.Ledgers.{IsLedger}
use Rattle.dr_store_reads.specs.Queries.{Asked}

pub reads_map : {A : Type 0} {P Q : A → Type 0} (r : Result A LedgerFault) → ((x : A) → P x → Q x) → Reads r P → Reads r Q
reads_map (Ok x) f h = f x h
reads_map (Err fault.Store) f h = tt
reads_map (Err fault.Memory) f h = tt
reads_map (Err fault.NoLine) f h = h
reads_map (Err fault.Conflict) f h = h
reads_map (Err fault.NotWaiting) f h = h
reads_map (Err fault.NotHeld) f h = h
reads_map (Err fault.NotOver) f h = h

-- a fault says nothing of a value
pub reads_fault : {A B : Type 0} (P : A → Type 0) (Q : B → Type 0) (why : LedgerFault) → Reads {A = A} (Err why) P → Reads {A = B} (Err why) Q
reads_fault P Q fault.Store h = tt
reads_fault P Q fault.Memory h = tt
reads_fault P Q fault.NoLine h = h
reads_fault P Q fault.Conflict h = h
reads_fault P Q fault.NotWaiting h = h
reads_fault P Q fault.NotHeld h = h
reads_fault P Q fault.NotOver h = h

if_done : {A E B : Type 0} (r : Result A E) → B → OnOk r B
if_done (Ok x) h = h
if_done (Err e) h = tt

-- a query answered, and its answer is read
pub decoded : {A B : Type 0} {Asks Wants : Database → Type 0} {old new : State} {x : A} {P : A → Type 0} {Q : B → Type 0} (r : Result B LedgerFault)
    → (Wants old.now → Asks old.now) → (Wants old.now → P x → Reads r Q) → Asked Asks (Ok x) old new P → Asked Wants r old new Q
decoded {old = old} r asks reads it = record {
  shown = λ clean wants. reads wants (it.shown clean (asks wants));
  same = λ clean wants. if_done r (it.same clean (asks wants));
  stays = λ clean is_open wants. it.stays clean is_open (asks wants);
  leaves = λ clean wants. it.leaves clean (asks wants);
  was_open = it.was_open;
  clean = it.clean;
  idle = it.idle;
}

-- a query answered, or failed, and what it shows says more
pub shown_as : {A : Type 0} {Asks Wants : Database → Type 0} {old new : State} {P Q : A → Type 0} (r : Result A LedgerFault)
    → (Wants old.now → Asks old.now) → (Wants old.now → (x : A) → P x → Q x) → Asked Asks r old new P → Asked Wants r old new Q
shown_as r asks says it = record {
  shown = λ clean wants. reads_map r (says wants) (it.shown clean (asks wants));
  same = λ clean wants. it.same clean (asks wants);
  stays = λ clean is_open wants. it.stays clean is_open (asks wants);
  leaves = λ clean wants. it.leaves clean (asks wants);
  was_open = it.was_open;
  clean = it.clean;
  idle = it.idle;
}

-- a query failed
refused_so : {A B : Type 0} {Asks Wants : Database → Type 0} {old new : State} {P : A → Type 0} {Q : B → Type 0} (why : LedgerFault)
    → (Wants old.now → Asks old.now) → Asked {A = A} Asks (Err why) old new P → Asked {A = B} Wants (Err why) old new Q
refused_so {P = P} {Q = Q} why asks it = record {
  shown = λ clean wants. reads_fault P Q why (it.shown clean (asks wants));
  same = λ clean wants. tt;
  stays = λ clean is_open wants. it.stays clean is_open (asks wants);
  leaves = λ clean wants. it.leaves clean (asks wants);
  was_open = it.was_open;
  clean = it.clean;
  idle = it.idle;
}

pub refused : {A B : Type 0} {Asks Wants : Database → Type 0} {old new : State} {P : A → Type 0} {Q : B → Type 0} {r : Result B LedgerFault} {why : LedgerFault}
    → IsErr r × IsErrAnd r (λ e. e ≡ why) → (Wants old.now → Asks old.now) → Asked {A = A} Asks (Err why) old new P → Asked {A = B} Wants r old new Q
refused {B = B} {Wants = Wants} {old = old} {new = new} {Q = Q} {why = why} is asks it = subst (λ r. Asked Wants r old new Q) (sym (its_fault _ is)) (refused_so why asks it)
  where
    its_fault : (r : Result B LedgerFault) → IsErr r × IsErrAnd r (λ e. e ≡ why) → r ≡ Err why
    its_fault (Ok x) h = absurd h.1
    its_fault (Err e) h = ap Err h.1

if_both : {A E B C : Type 0} (r : Result A E) → (B → C) → OnOk r B → OnOk r C
if_both (Ok x) f h = f h
if_both (Err e) f h = tt

-- one query answered, and then another one was made
pub then_asked : {A B : Type 0} {old mid new : State} {x : A} {P : A → Type 0} {Q W : B → Type 0} (r : Result B LedgerFault)
    → (mid.now ≡ old.now → P x → (y : B) → Q y → W y) → Asked IsLedger (Ok x) old mid P → Asked IsLedger r mid new Q → Asked IsLedger r old new W
then_asked {old = old} {mid = mid} {new = new} r says one two = record {
  shown = λ clean has. let it = one.same (early clean) has in reads_map r (says it.1 (one.shown (early clean) has)) (two.shown clean (still has it.1));
  same = λ clean has. let it = one.same (early clean) has in if_both r (λ now. (now.0, now.1 ∙ it.1)) (two.same clean (still has it.1));
  stays = λ clean is_open has.
      let it = one.same (early clean) has in
      let stood = one.stays (early clean) it.0 has in
      let stays = two.stays clean is_open (still has it.1) in
      record { committed = stays.committed ∙ stood.committed; now = elim stays.now [ inl now ↦ inl (now ∙ it.1) | inr undone ↦ inr (undone ∙ stood.committed) ] };
  leaves = λ clean has db left. let it = one.same (early clean) has in one.leaves (early clean) has db (two.leaves clean (still has it.1) db left);
  was_open = λ clean is_open. one.was_open (early clean) (two.was_open clean is_open);
  clean = omega (arith, one.clean, two.clean);
  idle = λ idle. two.idle (one.idle idle);
}
  where
    early : HasCleanDisk new → HasCleanDisk mid
    early clean = omega (arith, two.clean, clean)

    still : IsLedger old.now → mid.now ≡ old.now → IsLedger mid.now
    still has same = subst IsLedger (sym same) has
