-- What a query leaves.
use Rattle.std.proofs.Common.{◌≡◌, ◌⊎◌, inl, inr, ℕ, List, false, Option, Some, None, Ok, Err, IsTrue, IsSome, sym, subst}
use Rattle.sqlite.specs.declared.error.Error.{Error}
use Rattle.sqlite.specs.Order.{Row}
use Rattle.sqlite.specs.Tree.{Trees}
use Rattle.sqlite.specs.State.{State, Shown, ShowsRows, IsUnchanged, IsRolledBack, FailsToQuery, FailsToShow, IsNotRun, RunsCommand, Survives, CommitsShowing, HasCleanDisk}
use Rattle.sqlite_schema.specs.declared.command.Returning.{Returning}
use Rattle.sqlite_resolve.specs.declared.compiled.Compiled.{Compiled}
use Rattle.sqlite.specs.Listing.{understood}
use Rattle.sqlite.specs.Clock.{timed}
use Rattle.sqlite.proofs.Callers.{IsPlain}
use Rattle.dr_ledger.specs.declared.fault.LedgerFault.{LedgerFault}
use Rattle.dr_ledger.specs.declared.fault.LedgerFault.TheVariants as fault
use Rattle.dr_ledger.specs.Replies.{Reads}
use Rattle.dr_store_reads.specs.Queries.{Asked, Stays}

-- ---- what a query leaves

unchanged_stays : (old new : State) → IsUnchanged old new → Stays old new
unchanged_stays old new h = record { committed = h.0.committed_is; now = inl h.0.now_is }

rolled_stays : (old new : State) → IsTrue new.is_open → IsRolledBack old new → Stays old new
rolled_stays old new is_open h = let undone = h.undone is_open in record { committed = undone.1; now = inr undone.0 }

pub shown_stays : (sql : List ℕ) (params : Row) (old new : State) (rows : List Row) → IsPlain (understood old.now.schema sql) → Shown sql params old new rows → Stays old new
unfolding Shown
shown_stays sql params old new rows plain h =
    let none = (subst IsPlain h.1.is plain).0 in
    let it = subst (ShowsRows old new sql h.0 _ rows) none h.2 in
    unchanged_stays old new it.3

pub failed_stays : (sql : List ℕ) (params : Row) (old new : State) (e : Error) → IsPlain (understood old.now.schema sql) → IsTrue new.is_open → FailsToQuery sql params old new e → Stays old new
unfolding FailsToQuery IsNotRun
failed_stays sql params old new e plain is_open (inl (inl h)) = unchanged_stays old new h.1
failed_stays sql params old new e plain is_open (inl (inr h)) = rolled_stays old new is_open h.3
failed_stays sql params old new e plain is_open (inr h) =
    let none = (subst IsPlain h.1.is plain).0 in
    let it = subst (FailsToShow old new sql h.0 _ e) none h.2 in
    unchanged_stays old new it.3

pub shown_open : (sql : List ℕ) (params : Row) (old new : State) (rows : List Row) → Shown sql params old new rows → IsTrue old.is_open
unfolding Shown
shown_open sql params old new rows h = go h.0.returning h.2
  where
    go : (r : Option Returning) → ShowsRows old new sql h.0 (timed params h.0.formats h.1.now) rows r → IsTrue old.is_open
    go None it = it.3.0.was_open
    go (Some what) it = it.1.shown.was_open

ran_open : (old new : State) (sql : List ℕ) (c : Compiled) (params : Row) (e : Error) → IsTrue new.is_open → RunsCommand old new sql c params (Err e) → IsTrue old.is_open
ran_open old new sql c params e is_open (inl h) = h.1.0.was_open
ran_open old new sql c params e is_open (inr h) = h.3.was_open is_open

pub failed_open : (sql : List ℕ) (params : Row) (old new : State) (e : Error) → IsTrue new.is_open → FailsToQuery sql params old new e → IsTrue old.is_open
unfolding FailsToQuery IsNotRun
failed_open sql params old new e is_open (inl (inl h)) = h.1.0.was_open
failed_open sql params old new e is_open (inl (inr h)) = h.3.was_open is_open
failed_open sql params old new e is_open (inr h) = go h.0.returning h.2
  where
    go : (r : Option Returning) → FailsToShow old new sql h.0 (timed params h.0.formats h.1.now) e r → IsTrue old.is_open
    go None it = it.3.0.was_open
    go (Some what) it = ran_open old new sql h.0 _ e is_open it

-- a query commits nothing
pub query_leaves : (sql : List ℕ) (params : Row) (old new : State) → IsPlain (understood old.now.schema sql) → Survives old new (CommitsShowing sql params old) → HasCleanDisk new
    → (db : Trees) → new.may_leave db → old.may_leave db
unfolding CommitsShowing
query_leaves sql params old new plain s clean db left = elim (s.crash clean db left) [
  | inl h ↦ h
  | inr c ↦ absurd (let e = subst IsSome (subst IsPlain c.1.is plain).0 c.2 in cc)
]

-- and a query that answers leaves the store open
pub shown_opens : (sql : List ℕ) (params : Row) (old new : State) (rows : List Row) → IsPlain (understood old.now.schema sql) → Shown sql params old new rows → IsTrue new.is_open
unfolding Shown
shown_opens sql params old new rows plain h =
    let none = (subst IsPlain h.1.is plain).0 in
    let it = subst (ShowsRows old new sql h.0 _ rows) none h.2 in
    it.3.0.is_open

-- and where it answers all is as it was
pub shown_same : (sql : List ℕ) (params : Row) (old new : State) (rows : List Row) → IsPlain (understood old.now.schema sql) → Shown sql params old new rows → new.now ≡ old.now
unfolding Shown
shown_same sql params old new rows plain h =
    let none = (subst IsPlain h.1.is plain).0 in
    let it = subst (ShowsRows old new sql h.0 _ rows) none h.2 in
    it.3.0.now_is

-- ---- as one record

-- a query that answered
pub asked_shown : {A : Type 0} (items : A → List Row) (sql : List ℕ) (params : Row) (old new : State) (x : A)
    → (HasCleanDisk new → Shown sql params old new (items x)) → (old.in_transaction ≡ false → new.in_transaction ≡ false) → Survives old new (CommitsShowing sql params old)
    → Asked (λ db. IsPlain (understood db.schema sql)) (Ok x) old new (λ y. Shown sql params old new (items y))
asked_shown items sql params old new x shown mode survives = record {
  shown = λ clean plain. shown clean;
  same = λ clean plain. (shown_opens sql params old new (items x) plain (shown clean), shown_same sql params old new (items x) plain (shown clean));
  stays = λ clean is_open plain. shown_stays sql params old new (items x) plain (shown clean);
  leaves = λ clean plain db left. query_leaves sql params old new plain survives clean db left;
  was_open = λ clean is_open. shown_open sql params old new (items x) (shown clean);
  clean = survives.clean;
  idle = mode;
}

-- a query that failed
pub asked_failed : {A : Type 0} (sql : List ℕ) (params : Row) (old new : State) (e : Error) (why : LedgerFault) (Shows : A → Type 0)
    → (HasCleanDisk new → FailsToQuery sql params old new e) → (old.in_transaction ≡ false → new.in_transaction ≡ false) → Survives old new (CommitsShowing sql params old)
    → (why ≡ fault.Store) ⊎ (why ≡ fault.Memory) → Asked (λ db. IsPlain (understood db.schema sql)) (Err why) old new Shows
asked_failed {A = A} sql params old new e why Shows fails mode survives is = record {
  shown = λ clean plain. says why is;
  same = λ clean plain. tt;
  stays = λ clean is_open plain. failed_stays sql params old new e plain is_open (fails clean);
  leaves = λ clean plain db left. query_leaves sql params old new plain survives clean db left;
  was_open = λ clean is_open. failed_open sql params old new e is_open (fails clean);
  clean = survives.clean;
  idle = mode;
}
  where
    says : (why : LedgerFault) → (why ≡ fault.Store) ⊎ (why ≡ fault.Memory) → Reads {A = A} (Err why) Shows
    says why (inl store) = subst (λ w. Reads {A = A} (Err w) Shows) (sym store) tt
    says why (inr memory) = subst (λ w. Reads {A = A} (Err w) Shows) (sym memory) tt
