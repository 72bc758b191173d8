-- Calls, one after another.
use Rattle.std.proofs.Common.{◌≡◌, ◌≤◌, ◌+◌, ◌⊎◌, inl, inr, ℕ, ◌^◌, false, IsTrue, List, Result, Ok, Err, IfErr, OnOk, refl, sym, ap, subst, ◌∙◌, arith}
use Rattle.sqlite.specs.Effect.{Database}
use Rattle.sqlite.specs.State.{State, HasCleanDisk}
use Rattle.sqlite.specs.Tree.{Trees}
use Rattle.dr_site.specs.Parts.{Part}
use Rattle.dr_ledger.specs.declared.fault.LedgerFault.{LedgerFault}
use Rattle.dr_ledger.specs.declared.fault.LedgerFault.TheVariants as fault
use Rattle.dr_ledger.specs.Books.{Line}
use Rattle.dr_ledger.specs.Replies.{IsLastingFault, LastsAfter, Reads}
use Rattle.dr_store_schema.specs.Books.{AreBelow}
use Rattle.dr_store_schema.specs.Ledgers.{IsLedger}
use Rattle.dr_store_changes.specs.Writing.{IsReady, Written}
use Rattle.dr_store_reads.specs.Queries.{Asked, Stays}
use Rattle.dr_store_calls.specs.Calling.{Called, IsKept, IsLedgerOf, IsOwnFault, IsSafe, Looked, Nothing, advanced}

-- ---- a query

all_settled : (old new : State) → old.now ≡ old.committed → Stays old new → new.now ≡ new.committed
all_settled old new settled s = elim s.now [ inl is ↦ is ∙ settled ∙ sym s.committed | inr is ↦ is ∙ sym s.committed ]

still_ready : (n : ℕ) (old new : State) → IsReady n old → Stays old new → IsTrue new.is_open → IsReady n new
still_ready n old new k s is_open =
    let settled = all_settled old new k.settled s in
    let back : new.now ≡ old.now = settled ∙ s.committed ∙ sym k.settled in
    record {
      is_open = is_open;
      ledger = subst IsLedger (sym back) k.ledger;
      settled = settled;
      below = subst (λ (d : Database). AreBelow n (d.trees 11)) (sym back) k.below;
    }

still_kept : {past : List Line} (n : ℕ) (part : Part) (old new : State) → IsKept past n part old → Stays old new → IsTrue new.is_open → IsKept past n part new
still_kept {past} n part old new k s is_open = record {
  ready = still_ready n old new k.ready s is_open;
  ledger = subst (λ (d : Database). IsLedgerOf past n part d.trees) (sym s.committed) k.ledger;
}

own_fault_lasts : {A : Type 0} (e : LedgerFault) (Shows : A → Type 0) (P : Type 0) → Reads (Err e) Shows → IsLastingFault e P
own_fault_lasts fault.Store Shows P h = tt
own_fault_lasts fault.Memory Shows P h = tt
own_fault_lasts fault.NoLine Shows P h = absurd h
own_fault_lasts fault.Conflict Shows P h = absurd h
own_fault_lasts fault.NotWaiting Shows P h = absurd h
own_fault_lasts fault.NotHeld Shows P h = absurd h
own_fault_lasts fault.NotOver Shows P h = absurd h

-- a query reads
pub asked_looked : {A : Type 0} (n : ℕ) (part : Part) (r : Result A LedgerFault) (old new : State) (Shows : Trees → A → Type 0) → Asked IsLedger r old new (Shows old.now.trees) → Looked n part r old new Shows
asked_looked {A = A} n part r old new Shows a = record {
  clean = a.clean;
  was_open = a.was_open;
  idle = a.idle;
  lasts = λ {past} clean k any. lasting r (a.shown clean k.ready.ledger) (a.same clean k.ready.ledger);
  kept = λ {past} clean is_open k any. still_kept n part old new k (a.stays clean is_open k.ready.ledger) is_open;
  answers = λ {past} clean is_open k any. (
    ap (λ (d : Database). d.trees) (a.stays clean is_open k.ready.ledger).committed,
    subst (λ (d : Database). Reads r (Shows d.trees)) k.ready.settled (a.shown clean k.ready.ledger),
  );
  crash = λ {past} clean k any db left. inl (a.leaves clean k.ready.ledger db left);
}
  where
    lasting : (r : Result A LedgerFault) → Reads r (Shows old.now.trees) → OnOk r (IsTrue new.is_open × (new.now ≡ old.now)) → LastsAfter r (IsTrue new.is_open)
    lasting (Ok x) reads same = same.0
    lasting (Err e) reads same = own_fault_lasts e (Shows old.now.trees) (IsTrue new.is_open) reads

-- ---- nothing is done

pub still_called : {A : Type 0} (n : ℕ) (part : Part) (r : Result A LedgerFault) (s : State) (Asks : Trees → Type 0) (Answers Makes : Trees → Trees → Type 0)
    → ((db : Trees) → Asks db → Answers db db) → ((P : Type 0) → P → LastsAfter r P) → Called n n part r s s Asks Answers Makes
still_called n part r s Asks Answers Makes f lasting = record {
  clean = omega arith;
  was_open = λ clean h. h;
  idle = λ h. h;
  lasts = λ {past} clean k asks. lasting (IsTrue s.is_open) k.ready.is_open;
  kept = λ {past} clean is_open k asks. k;
  answers = λ {past} clean is_open k asks. f s.committed.trees asks;
  crash = λ {past} clean k asks db left. inl left;
}

-- ---- what is known by reading helps what follows

module _ {A B : Type 0} (n m : ℕ) (part : Part) (old mid new : State) (Shows : Trees → A → Type 0) where
  -- a query, and then a call
  pub looked_then : (a : A) (r : Result B LedgerFault) (Asks Given : Trees → Type 0) (Answers Made Answers' Made' : Trees → Trees → Type 0) → Looked n part (Ok a) old mid Shows → Called n m part r mid new Given Answers Made
      → ((past : List Line) (db : Trees) → IsLedgerOf past n part db → Asks db → Shows db a → Given db) → ((base db : Trees) → Asks base → Shows base a → Answers base db → Answers' base db)
      → ((base db : Trees) → Asks base → Shows base a → Made base db → Made' base db) → Called n m part r old new Asks Answers' Made'
  looked_then a r Asks Given Answers Made Answers' Made' l c gives answers makes = record {
    clean = omega (arith, l.clean, c.clean);
    was_open = λ clean is_open. l.was_open (early clean) (c.was_open clean is_open);
    idle = λ h. c.idle (l.idle h);
    lasts = λ {past} clean k asks. c.lasts clean (middle clean k) (given clean k asks);
    kept = λ {past} clean is_open k asks. c.kept clean is_open (middle clean k) (given clean k asks);
    answers = λ {past} clean is_open k asks.
        let at : (t : Trees) → t ≡ old.committed.trees → Answers t new.committed.trees → Answers old.committed.trees new.committed.trees = λ t is h. subst (λ x. Answers x new.committed.trees) is h in
        answers old.committed.trees new.committed.trees asks (shown clean k).1 (at mid.committed.trees (shown clean k).0 (c.answers clean is_open (middle clean k) (given clean k asks)));
    crash = λ {past} clean k asks db left. elim (c.crash clean (middle clean k) (given clean k asks) db left) [
      | inl before ↦ elim (l.crash (early clean) k tt db before) [ inl h ↦ inl h | inr none ↦ absurd none.1 ]
      | inr made ↦ inr (made.0, makes old.committed.trees db asks (shown clean k).1 (subst (λ x. Made x db) (shown clean k).0 made.1))
    ];
  }
    where
      early : HasCleanDisk new → HasCleanDisk mid
      early clean = omega (arith, c.clean, clean)

      middle : {past : List Line} → HasCleanDisk new → IsKept past n part old → IsKept past n part mid
      middle clean k = l.kept (early clean) (l.lasts (early clean) k tt) k tt

      shown : {past : List Line} → HasCleanDisk new → IsKept past n part old → (mid.committed.trees ≡ old.committed.trees) × Shows old.committed.trees a
      shown clean k = l.answers (early clean) (l.lasts (early clean) k tt) k tt

      given : {past : List Line} → HasCleanDisk new → IsKept past n part old → Asks old.committed.trees → Given mid.committed.trees
      given {past} clean k asks = subst Given (sym (shown clean k).0) (gives past old.committed.trees k.ledger asks (shown clean k).1)

module _ {A B : Type 0} (n : ℕ) (part : Part) (old new : State) (Shows : Trees → A → Type 0) where
  -- a query that failed
  pub looked_failed : (e : LedgerFault) (Asks : Trees → Type 0) (Answers Made : Trees → Trees → Type 0) → Looked n part (Err e) old new Shows
      → ((base : Trees) → Asks base → IsOwnFault e → Answers base base) → Called {A = B} n n part (Err e) old new Asks Answers Made
  looked_failed e Asks Answers Made l answers = record {
    clean = l.clean;
    was_open = l.was_open;
    idle = l.idle;
    lasts = λ {past} clean k asks. l.lasts clean k tt;
    kept = λ {past} clean is_open k asks. l.kept clean is_open k tt;
    answers = λ {past} clean is_open k asks.
        let it = l.answers clean is_open k tt in
        subst (λ t. Answers old.committed.trees t) (sym it.0) (answers old.committed.trees asks (own e it.1));
    crash = λ {past} clean k asks db left. elim (l.crash clean k tt db left) [ inl h ↦ inl h | inr none ↦ absurd none.1 ];
  }
    where
      own : (e : LedgerFault) → Reads (Err e) (Shows old.committed.trees) → IsOwnFault e
      own fault.Store h = inl refl
      own fault.Memory h = inr refl
      own fault.NoLine h = absurd h
      own fault.Conflict h = absurd h
      own fault.NotWaiting h = absurd h
      own fault.NotHeld h = absurd h
      own fault.NotOver h = absurd h

-- ---- what is written

pub own_lasts : (e : LedgerFault) (P : Type 0) → IsOwnFault e → IsLastingFault e P
own_lasts e P (inl is) = subst (λ x. IsLastingFault x P) (sym is) tt
own_lasts e P (inr is) = subst (λ x. IsLastingFault x P) (sym is) tt

asked_before : {past : List Line} (n : ℕ) (part : Part) (CA Asks : Trees → Type 0) (old : State) → ((past : List Line) → IsReady n old → IsLedgerOf past n part old.committed.trees → Asks old.committed.trees → CA old.committed.trees)
    → IsKept past n part old → Asks old.committed.trees → CA old.now.trees
asked_before {past} n part CA Asks old given k asks = subst (λ (d : Database). CA d.trees) (sym k.ready.settled) (given past k.ready k.ledger asks)

module _ {A : Type 0} (n : ℕ) (part : Part) (CA Asks : Trees → Type 0) (CM Answers Makes : Trees → Trees → Type 0) (old new : State) (still : old.in_transaction ≡ false → new.in_transaction ≡ false)
    (given : (past : List Line) → IsReady n old → IsLedgerOf past n part old.committed.trees → Asks old.committed.trees → CA old.committed.trees) where
  -- a change that was made
  pub made_called : (value : A) → Written {E = LedgerFault} n CA CM (Ok tt) old new
      → ((past : List Line) → IsReady n old → IsLedgerOf past n part old.committed.trees → Asks old.committed.trees → (db : Trees) → CM old.committed.trees db → IsLedgerOf past (n + 1) part db × Answers old.committed.trees db × Makes old.committed.trees db)
      → Called n (n + 1) part (Ok value) old new Asks Answers Makes
  made_called value w made = record {
    clean = w.clean;
    was_open = w.was_open;
    idle = still;
    lasts = λ {past} clean k asks. (w.ok clean k.ready (asked_before n part CA Asks old given k asks)).0.is_open;
    kept = λ {past} clean is_open k asks. let it = w.ok clean k.ready (asked_before n part CA Asks old given k asks) in record { ready = it.0; ledger = (made past k.ready k.ledger asks new.committed.trees it.1).0 };
    answers = λ {past} clean is_open k asks. (made past k.ready k.ledger asks new.committed.trees (w.ok clean k.ready (asked_before n part CA Asks old given k asks)).1).1;
    crash = λ {past} clean k asks db left. elim ((w.crash k.ready (asked_before n part CA Asks old given k asks)).crash clean db left) [
      | inl before ↦ inl before
      | inr h ↦ inr (let it = made past k.ready k.ledger asks db h.1 in (record { whole = h.0; ledger = it.0 }, it.2))
    ];
  }

  -- a change that was refused
  pub unmade_called : (e : LedgerFault) → IsOwnFault e → Written {E = LedgerFault} n CA CM (Err e) old new
      → ((past : List Line) → IsReady n old → IsLedgerOf past n part old.committed.trees → Asks old.committed.trees → (db : Trees) → CM old.committed.trees db → IsLedgerOf past (n + 1) part db × Makes old.committed.trees db)
      → (Asks old.committed.trees → Answers old.committed.trees old.committed.trees) → Called {A = A} n n part (Err e) old new Asks Answers Makes
  unmade_called e own w made answer = record {
    clean = w.clean;
    was_open = w.was_open;
    idle = still;
    lasts = λ {past} clean k asks. own_lasts e (IsTrue new.is_open) own;
    kept = λ {past} clean is_open k asks. record {
      ready = w.ready clean is_open k.ready (asked_before n part CA Asks old given k asks);
      ledger = subst (λ (d : Database). IsLedgerOf past n part d.trees) (sym (w.err clean is_open)) k.ledger;
    };
    answers = λ {past} clean is_open k asks. subst (λ (d : Database). Answers old.committed.trees d.trees) (sym (w.err clean is_open)) (answer asks);
    crash = λ {past} clean k asks db left. elim ((w.crash k.ready (asked_before n part CA Asks old given k asks)).crash clean db left) [
      | inl before ↦ inl before
      | inr h ↦ inr (let it = made past k.ready k.ledger asks db h.1 in (record { whole = h.0; ledger = it.0 }, it.1))
    ];
  }

-- a change that was tried, whatever came of it
pub written_called : (n : ℕ) (part : Part) (CA Asks : Trees → Type 0) (CM : Trees → Trees → Type 0) (Answers : Result (Unit {0}) LedgerFault → Trees → Trees → Type 0) (r : Result (Unit {0}) LedgerFault) (old new : State)
    → (old.in_transaction ≡ false → new.in_transaction ≡ false) → ((past : List Line) → IsReady n old → IsLedgerOf past n part old.committed.trees → Asks old.committed.trees → CA old.committed.trees)
    → IfErr r IsOwnFault → Written {E = LedgerFault} n CA CM r old new
    → ((past : List Line) → IsReady n old → IsLedgerOf past n part old.committed.trees → Asks old.committed.trees → (db : Trees) → CM old.committed.trees db → IsLedgerOf past (n + 1) part db × Answers (Ok tt) old.committed.trees db)
    → ((e : LedgerFault) → IsOwnFault e → Answers (Err e) old.committed.trees old.committed.trees)
    → (Makes : Trees → Trees → Type 0) → ((base db : Trees) → Answers (Ok tt) base db → Makes base db)
    → Called n (advanced r n) part r old new Asks (Answers r) Makes
written_called n part CA Asks CM Answers (Ok done) old new still given own w made answer Makes weaker =
    made_called n part CA Asks CM (Answers (Ok tt)) Makes old new still given tt w (λ past ready ledger asks db h.
    let it = made past ready ledger asks db h in (it.0, it.1, weaker old.committed.trees db it.1))
written_called n part CA Asks CM Answers (Err e) old new still given own w made answer Makes weaker =
    unmade_called n part CA Asks CM (Answers (Err e)) Makes old new still given e own w (λ past ready ledger asks db h. let it = made past ready ledger asks db h in (it.0, weaker old.committed.trees db it.1)) (λ asks. answer e own)

-- ---- a written change, with the ledger's faults

pub as_written : {E F : Type 0} (n : ℕ) (CA : Trees → Type 0) (CM : Trees → Trees → Type 0) (old new : State) → Written {E = E} n CA CM (Ok tt) old new → Written {E = F} n CA CM (Ok tt) old new
as_written n CA CM old new w = record { was_open = w.was_open; ok = w.ok; err = λ clean is_open. tt; ready = λ clean is_open ready asks. tt; crash = w.crash; clean = w.clean }

pub as_refused : {E F : Type 0} (e : E) (f : F) (n : ℕ) (CA : Trees → Type 0) (CM : Trees → Trees → Type 0) (old new : State) → Written n CA CM (Err e) old new → Written n CA CM (Err f) old new
as_refused e f n CA CM old new w = record { was_open = w.was_open; ok = λ clean ready asks. tt; err = w.err; ready = w.ready; crash = w.crash; clean = w.clean }

-- where nothing is tried
pub not_written : {F : Type 0} (f : F) (n : ℕ) (CA : Trees → Type 0) (CM : Trees → Trees → Type 0) (s : State) → Written n CA CM (Err f) s s
not_written f n CA CM s = record {
  was_open = λ clean h. h;
  ok = λ clean ready asks. tt;
  err = λ clean is_open. refl;
  ready = λ clean is_open ready asks. ready;
  crash = λ ready asks. record {
    clean = omega arith;
    shield = λ h. h;
    counts = omega arith;
    limit = refl;
    closes = λ clean h. inl h;
    crash = λ clean db h. inl h;
  };
  clean = omega arith;
}

pub below_of : (n : ℕ) (s : State) → IsReady n s → AreBelow n (s.committed.trees 11)
below_of n s ready = subst (λ (d : Database). AreBelow n (d.trees 11)) ready.settled ready.below

-- a call that asks for less
pub asked_as : {A : Type 0} (n m : ℕ) (part : Part) (r : Result A LedgerFault) (old new : State) (Asks More : Trees → Type 0) (Answers Makes : Trees → Trees → Type 0)
    → ((past : List Line) (db : Trees) → IsLedgerOf past n part db → More db → Asks db) → Called n m part r old new Asks Answers Makes → Called n m part r old new More Answers Makes
asked_as n m part r old new Asks More Answers Makes gives c = record {
  clean = c.clean;
  was_open = c.was_open;
  idle = c.idle;
  lasts = λ {past} clean k asks. c.lasts clean k (gives past old.committed.trees k.ledger asks);
  kept = λ {past} clean is_open k asks. c.kept clean is_open k (gives past old.committed.trees k.ledger asks);
  answers = λ {past} clean is_open k asks. c.answers clean is_open k (gives past old.committed.trees k.ledger asks);
  crash = λ {past} clean k asks db left. c.crash clean k (gives past old.committed.trees k.ledger asks) db left;
}

-- a call that asks for more, of which less is said
pub said_as : {A : Type 0} (n m : ℕ) (part : Part) (r : Result A LedgerFault) (old new : State) (Asks More : Trees → Type 0) (Answers Says Makes Less : Trees → Trees → Type 0)
    → ((past : List Line) (db : Trees) → IsLedgerOf past n part db → More db → Asks db) → ((base db : Trees) → Answers base db → Says base db) → ((base db : Trees) → Makes base db → Less base db) → Called n m part r old new Asks Answers Makes
    → Called n m part r old new More Says Less
said_as n m part r old new Asks More Answers Says Makes Less gives says weaker c = record {
  clean = c.clean;
  was_open = c.was_open;
  idle = c.idle;
  lasts = λ {past} clean k asks. c.lasts clean k (gives past old.committed.trees k.ledger asks);
  kept = λ {past} clean is_open k asks. c.kept clean is_open k (gives past old.committed.trees k.ledger asks);
  answers = λ {past} clean is_open k asks. says old.committed.trees new.committed.trees (c.answers clean is_open k (gives past old.committed.trees k.ledger asks));
  crash = λ {past} clean k asks db left. elim (c.crash clean k (gives past old.committed.trees k.ledger asks) db left) [ inl before ↦ inl before | inr made ↦ inr (made.0, weaker old.committed.trees db made.1) ];
}

-- what was read is read further, without the tables
pub looked_read : {A B : Type 0} (n : ℕ) (part : Part) (old new : State) (Shows : Trees → A → Type 0) (a : A) (r : Result B LedgerFault) (Says : Trees → B → Type 0) → Looked n part (Ok a) old new Shows
    → ((base : Trees) → Shows base a → Reads r (Says base)) → Looked n part r old new Says
looked_read {B = B} n part old new Shows a r Says l says = record {
  clean = l.clean;
  was_open = l.was_open;
  idle = l.idle;
  lasts = λ {past} clean k any. lasting r (says old.committed.trees (l.answers clean (l.lasts clean k tt) k tt).1) (l.lasts clean k tt);
  kept = λ {past} clean is_open k asks. l.kept clean is_open k asks;
  answers = λ {past} clean is_open k any. let it = l.answers clean is_open k tt in (it.0, says old.committed.trees it.1);
  crash = λ {past} clean k asks db left. l.crash clean k asks db left;
}
  where
    lasting : (r : Result B LedgerFault) → Reads r (Says old.committed.trees) → IsTrue new.is_open → LastsAfter r (IsTrue new.is_open)
    lasting (Ok x) reads is_open = is_open
    lasting (Err e) reads is_open = own_fault_lasts e (Says old.committed.trees) (IsTrue new.is_open) reads
