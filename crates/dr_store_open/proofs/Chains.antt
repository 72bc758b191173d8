-- Queries, one after another.
use Rattle.std.proofs.Common.{◌≡◌, inl, inr, ℕ, Ok, Err, Result, OnOk, IsTrue, refl, sym, subst, ◌∙◌, arith}
use Rattle.sqlite.specs.Effect.{Database}
use Rattle.sqlite.specs.State.{State, HasCleanDisk}
use Rattle.dr_ledger.specs.declared.fault.LedgerFault.{LedgerFault}
use Rattle.dr_ledger.specs.Replies.{Reads}
use Rattle.dr_store_schema.specs.Ledgers.{IsLedger}
use Rattle.dr_store_reads.specs.Queries.{Asked, HasTables, Stays}
use Rattle.dr_store_reads.proofs.Outcomes.{reads_fault, reads_map}
use Rattle.dr_store_schema.specs.Books.{AreBelow}
use Rattle.dr_store_changes.specs.Writing.{IsReady}
use Rattle.dr_store_open.specs.Opening.{OnlyLooks, Seen, StaysReady}

if_both : {A E B C : Type 0} (r : Result A E) → (B → C) → OnOk r B → OnOk r C
if_both (Ok x) f h = f h
if_both (Err e) f h = tt

if_done : {A E B : Type 0} (r : Result A E) → B → OnOk r B
if_done (Ok x) h = h
if_done (Err e) h = tt

-- a query is a call that only reads
pub as_seen : {A : Type 0} {Asks : Database → Type 0} (old new : State) (r : Result A LedgerFault) (Shows : A → Type 0) → Asked Asks r old new Shows → Seen Asks r old new Shows
as_seen old new r Shows a = record {
  shown = λ clean is_open has. a.shown clean has;
  same = λ clean is_open has. a.same clean has;
  stays = a.stays;
  leaves = λ clean is_open has. a.leaves clean has;
  was_open = a.was_open;
  clean = a.clean;
  idle = a.idle;
}

-- where no query is made
pub not_asked : {A : Type 0} {Asks : Database → Type 0} (s : State) (r : Result A LedgerFault) (Shows : A → Type 0) → Reads r Shows → Seen Asks r s s Shows
not_asked s r Shows reads = record {
  shown = λ clean is_open has. reads;
  same = λ clean is_open has. if_done r (is_open, refl);
  stays = λ clean is_open has. record { committed = refl; now = inl refl };
  leaves = λ clean is_open has db left. left;
  was_open = λ clean is_open. is_open;
  clean = omega arith;
  idle = λ h. h;
}

-- what is shown says more
pub seen_as : {A B : Type 0} {Asks : Database → Type 0} (old new : State) (x : A) (r : Result B LedgerFault) (Shows : A → Type 0) (Other : B → Type 0) → (Shows x → Reads r Other) → Seen Asks (Ok x) old new Shows → Seen Asks r old new Other
seen_as old new x r Shows Other says s = record {
  shown = λ clean is_open has. says (s.shown clean is_open has);
  same = λ clean is_open has. if_done r (s.same clean is_open has);
  stays = s.stays;
  leaves = s.leaves;
  was_open = s.was_open;
  clean = s.clean;
  idle = s.idle;
}

pub asked_as : {A B : Type 0} {Asks : Database → Type 0} (old new : State) (x : A) (r : Result B LedgerFault) (Shows : A → Type 0) (Other : B → Type 0) → (Shows x → Reads r Other) → Asked Asks (Ok x) old new Shows → Asked Asks r old new Other
asked_as old new x r Shows Other says a = record {
  shown = λ clean has. says (a.shown clean has);
  same = λ clean has. if_done r (a.same clean has);
  stays = a.stays;
  leaves = a.leaves;
  was_open = a.was_open;
  clean = a.clean;
  idle = a.idle;
}

-- what is shown says more, whatever the answer
pub seen_map : {A : Type 0} {Asks : Database → Type 0} (old new : State) (r : Result A LedgerFault) (Shows Other : A → Type 0) → ((x : A) → Shows x → Other x) → Seen Asks r old new Shows → Seen Asks r old new Other
seen_map old new r Shows Other says s = record {
  shown = λ clean is_open has. reads_map r says (s.shown clean is_open has);
  same = s.same;
  stays = s.stays;
  leaves = s.leaves;
  was_open = s.was_open;
  clean = s.clean;
  idle = s.idle;
}

-- a call that failed says nothing of a value
pub seen_failed : {A B : Type 0} {Asks : Database → Type 0} (old new : State) (why : LedgerFault) (Shows : A → Type 0) (Other : B → Type 0) → Seen {A = A} Asks (Err why) old new Shows → Seen {A = B} Asks (Err why) old new Other
seen_failed old new why Shows Other s = record {
  shown = λ clean is_open has. reads_fault Shows Other why (s.shown clean is_open has);
  same = λ clean is_open has. tt;
  stays = s.stays;
  leaves = s.leaves;
  was_open = s.was_open;
  clean = s.clean;
  idle = s.idle;
}

pub asked_failed : {A B : Type 0} {Asks : Database → Type 0} (old new : State) (why : LedgerFault) (Shows : A → Type 0) (Other : B → Type 0) → Asked {A = A} Asks (Err why) old new Shows → Asked {A = B} Asks (Err why) old new Other
asked_failed old new why Shows Other a = record {
  shown = λ clean has. reads_fault Shows Other why (a.shown clean has);
  same = λ clean has. tt;
  stays = a.stays;
  leaves = a.leaves;
  was_open = a.was_open;
  clean = a.clean;
  idle = a.idle;
}

-- a query of a ledger's tables, which asks for the tables alone
pub of_ledger : {A : Type 0} (old new : State) (r : Result A LedgerFault) (Shows : A → Type 0) → Asked HasTables r old new Shows → Asked IsLedger r old new Shows
of_ledger old new r Shows a = record {
  shown = λ clean has. a.shown clean has.schema;
  same = λ clean has. a.same clean has.schema;
  stays = λ clean is_open has. a.stays clean is_open has.schema;
  leaves = λ clean has. a.leaves clean has.schema;
  was_open = a.was_open;
  clean = a.clean;
  idle = a.idle;
}

both_stay : (old mid new : State) → mid.now ≡ old.now → Stays old mid → Stays mid new → Stays old new
both_stay old mid new same one two = record {
  committed = two.committed ∙ one.committed;
  now = elim two.now [ inl now ↦ inl (now ∙ same) | inr undone ↦ inr (undone ∙ one.committed) ];
}

module _ {A B : Type 0} {Asks More : Database → Type 0} (old mid new : State) (x : A) (r : Result B LedgerFault) (One : Database → A → Type 0) (Two Both : Database → B → Type 0)
    (gives : IsTrue old.is_open → Asks old.now → One old.now x → More old.now) (says : (db : Database) → One db x → (y : B) → Two db y → Both db y) where
  -- a query, and then a call that only reads
  pub asked_then : Asked Asks (Ok x) old mid (One old.now) → Seen More r mid new (Two mid.now) → Asked Asks r old new (Both old.now)
  asked_then one two = record {
    shown = λ clean has. reads_map r (λ y h. says old.now (one.shown (early clean) has) y (subst (λ d. Two d y) (stood clean has).1 h)) (two.shown clean (stood clean has).0 (more clean has));
    same = λ clean has. if_both r (λ now. (now.0, now.1 ∙ (stood clean has).1)) (two.same clean (stood clean has).0 (more clean has));
    stays = λ clean is_open has. both_stay old mid new (stood clean has).1 (one.stays (early clean) (stood clean has).0 has) (two.stays clean is_open (more clean has));
    leaves = λ clean has db left. one.leaves (early clean) has db (two.leaves clean (stood clean has).0 (more clean has) db left);
    was_open = λ clean is_open. one.was_open (early clean) (two.was_open clean is_open);
    clean = omega (arith, one.clean, two.clean);
    idle = λ h. two.idle (one.idle h);
  }
    where
      early : HasCleanDisk new → HasCleanDisk mid
      early clean = omega (arith, two.clean, clean)

      stood : HasCleanDisk new → Asks old.now → IsTrue mid.is_open × (mid.now ≡ old.now)
      stood clean has = one.same (early clean) has

      more : HasCleanDisk new → Asks old.now → More mid.now
      more clean has = subst More (sym (stood clean has).1) (gives (one.was_open (early clean) (stood clean has).0) has (one.shown (early clean) has))

module _ {A B : Type 0} {Asks : Database → Type 0} (old mid new : State) (x : A) (r : Result B LedgerFault) (One : Database → A → Type 0) (Two Both : Database → B → Type 0) (says : (db : Database) → One db x → (y : B) → Two db y → Both db y) where
  -- calls that only read, one after another
  pub seen_then : Seen Asks (Ok x) old mid (One old.now) → Seen Asks r mid new (Two mid.now) → Seen Asks r old new (Both old.now)
  seen_then one two = record {
    shown = λ clean is_open has.
        reads_map r (λ y h. says old.now (one.shown (early clean) is_open has) y (subst (λ d. Two d y) (stood clean is_open has).1 h)) (two.shown clean (stood clean is_open has).0 (more clean is_open has));
    same = λ clean is_open has. if_both r (λ now. (now.0, now.1 ∙ (stood clean is_open has).1)) (two.same clean (stood clean is_open has).0 (more clean is_open has));
    stays = λ clean is_open has.
        let mid_open = two.was_open clean is_open in
        let was = one.was_open (early clean) mid_open in
        both_stay old mid new (stood clean was has).1 (one.stays (early clean) mid_open has) (two.stays clean is_open (more clean was has));
    leaves = λ clean is_open has db left. one.leaves (early clean) is_open has db (two.leaves clean (stood clean is_open has).0 (more clean is_open has) db left);
    was_open = λ clean is_open. one.was_open (early clean) (two.was_open clean is_open);
    clean = omega (arith, one.clean, two.clean);
    idle = λ h. two.idle (one.idle h);
  }
    where
      early : HasCleanDisk new → HasCleanDisk mid
      early clean = omega (arith, two.clean, clean)

      stood : HasCleanDisk new → IsTrue old.is_open → Asks old.now → IsTrue mid.is_open × (mid.now ≡ old.now)
      stood clean is_open has = one.same (early clean) is_open has

      more : HasCleanDisk new → IsTrue old.is_open → Asks old.now → Asks mid.now
      more clean is_open has = subst Asks (sym (stood clean is_open has).1) has

-- a query of a ledger's tables, and then one more, which failed
pub then_failed : {A B : Type 0} {why : LedgerFault} (old mid new : State) (x : A)
    (One : Database → A → Type 0) (Two : Database → B → Type 0)
    → Asked IsLedger (Ok x) old mid (One old.now)
    → Asked {A = B} IsLedger (Err why) mid new (Two mid.now)
    → Asked {A = B} IsLedger (Err why) old new (Two old.now)
then_failed {why = why} old mid new x One Two one two =
    asked_then {Asks = IsLedger} {More = IsLedger} old mid new x (Err why) One Two Two
    (λ is_open has shown. has) (λ db shown y more. more) one
    (as_seen mid new (Err why) (Two mid.now) two)

-- two of them, and what is made of both answers
pub two_asked : {A B C : Type 0} (old mid new : State) (x : A) (y : B) (z : C)
    (One : Database → A → Type 0) (Two : Database → B → Type 0) (Both : Database → C → Type 0)
    → ((db : Database) → One db x → Two db y → Both db z)
    → Asked IsLedger (Ok x) old mid (One old.now)
    → Asked IsLedger (Ok y) mid new (Two mid.now)
    → Asked IsLedger (Ok z) old new (Both old.now)
two_asked {B = B} old mid new x y z One Two Both says one two =
    let Pair : Database → B → Type 0 = λ db w. One db x × Two db w in
    asked_as {Asks = IsLedger} old new y (Ok z) (Pair old.now) (Both old.now)
    (λ shown. says old.now shown.0 shown.1)
    (asked_then {Asks = IsLedger} {More = IsLedger} old mid new x (Ok y) One Two Pair
    (λ is_open has shown. has) (λ db shown w more. (shown, more)) one
    (as_seen mid new (Ok y) (Two mid.now) two))

-- ---- tables that stand ready

pub looks_then : (old mid new : State) → OnlyLooks old mid → OnlyLooks mid new → OnlyLooks old new
looks_then old mid new one two = record {
  stays = λ clean is_open.
      let last = two.stays clean is_open in
      let first = one.stays (early clean) last.0 in
      (first.0, last.1 ∙ first.1);
  leaves = λ clean db left. one.leaves (early clean) db (two.leaves clean db left);
  clean = omega (arith, one.clean, two.clean);
  idle = λ h. two.idle (one.idle h);
}
  where
    early : HasCleanDisk new → HasCleanDisk mid
    early clean = omega (arith, two.clean, clean)

module _ {A : Type 0} (n : ℕ) (old new : State) (r : Result A LedgerFault) (Shows : A → Type 0) (ready : HasCleanDisk old → IsReady n old) (s : Seen IsLedger r old new Shows) where
  early : HasCleanDisk new → HasCleanDisk old
  early clean = omega (arith, s.clean, clean)

  pub only_looks : OnlyLooks old new
  only_looks = record {
    stays = λ clean is_open. (s.was_open clean is_open, (s.stays clean is_open (ready (early clean)).ledger).committed);
    leaves = λ clean. s.leaves clean (ready (early clean)).is_open (ready (early clean)).ledger;
    clean = s.clean;
    idle = s.idle;
  }

  stands : HasCleanDisk new → IsTrue new.is_open × (new.now ≡ old.now) → IsReady n new × (new.committed ≡ old.committed)
  stands clean same =
      let was = ready (early clean) in
      let committed = (s.stays clean same.0 was.ledger).committed in (
        record {
          is_open = same.0;
          ledger = subst IsLedger (sym same.1) was.ledger;
          settled = same.1 ∙ was.settled ∙ sym committed;
          below = subst (λ (d : Database). AreBelow n (d.trees 11)) (sym same.1) was.below;
        },
        committed,
      )

  pub still_ready : HasCleanDisk new → OnOk r (IsReady n new × (new.committed ≡ old.committed))
  still_ready clean = if_both r (stands clean) (s.same clean (ready (early clean)).is_open (ready (early clean)).ledger)

  -- what it showed
  pub shown_ready : HasCleanDisk new → Reads r Shows
  shown_ready clean = s.shown clean (ready (early clean)).is_open (ready (early clean)).ledger

-- what is made of an answer, whatever it is
pub ready_as : {A B E : Type 0} (n : ℕ) (old new : State) (x : A) (q : Result B E) (Shows : A → Type 0) → (HasCleanDisk old → IsReady n old) → Seen IsLedger (Ok x) old new Shows → StaysReady n q old new
ready_as n old new x q Shows ready s = record {
  ready = λ clean. if_done q (still_ready n old new (Ok x) Shows ready s clean).0;
  same = λ clean. if_done q (still_ready n old new (Ok x) Shows ready s clean).1;
  looks = only_looks n old new (Ok x) Shows ready s;
}

-- a call that failed
pub ready_failed : {A B E : Type 0} (n : ℕ) (old new : State) (why : LedgerFault) (fault : E) (Shows : A → Type 0) → (HasCleanDisk old → IsReady n old) → Seen {A = A} IsLedger (Err why) old new Shows → StaysReady {A = B} n (Err fault) old new
ready_failed n old new why fault Shows ready s = record {
  ready = λ clean. tt;
  same = λ clean. tt;
  looks = only_looks n old new (Err why) Shows ready s;
}

-- where no call is made
pub ready_still : {B E : Type 0} (n : ℕ) (s : State) (q : Result B E) → (HasCleanDisk s → IsReady n s) → StaysReady n q s s
ready_still n s q ready = record {
  ready = λ clean. if_done q (ready clean);
  same = λ clean. if_done q refl;
  looks = record { stays = λ clean is_open. (is_open, refl); leaves = λ clean db left. left; clean = omega arith; idle = λ h. h };
}

-- the same of another answer
pub ready_again : {A B E F : Type 0} (n : ℕ) (old new : State) (x : A) (y : B) → StaysReady {A = A} {E = E} n (Ok x) old new → StaysReady {A = B} {E = F} n (Ok y) old new
ready_again n old new x y s = record { ready = s.ready; same = s.same; looks = s.looks }

pub ready_not : {A B E F : Type 0} (n : ℕ) (old new : State) (q : Result A E) (f : F) → StaysReady n q old new → StaysReady {A = B} {E = F} n (Err f) old new
ready_not n old new q f s = record { ready = λ clean. tt; same = λ clean. tt; looks = s.looks }

-- one after another
pub ready_then : {A B E F : Type 0} (n : ℕ) (old mid new : State) (x : A) (q : Result B F) → StaysReady {A = A} {E = E} n (Ok x) old mid → StaysReady n q mid new → StaysReady n q old new
ready_then n old mid new x q one two = record {
  ready = two.ready;
  same = λ clean. if_both q (λ e. e ∙ one.same (early clean)) (two.same clean);
  looks = looks_then old mid new one.looks two.looks;
}
  where
    early : HasCleanDisk new → HasCleanDisk mid
    early clean = omega (arith, two.looks.clean, clean)
