-- A sealing as one transaction.
use Rattle.std.proofs.Common.{◌≡◌, ◌+◌, ◌⊎◌, ◌++◌, inl, inr, ℕ, IsTrue, List, Result, Ok, Err, IfErr, OnErr, OnOk, refl, sym, ap, subst, ◌∙◌, arith}
use Rattle.sqlite.specs.Effect.{Database}
use Rattle.sqlite.specs.State.{State, HasCleanDisk}
use Rattle.sqlite.specs.Tree.{Trees}
use Rattle.dr_site.specs.Parts.{Part}
use Rattle.dr_ledger.specs.declared.fault.LedgerFault.{LedgerFault}
use Rattle.dr_ledger.specs.declared.fault.LedgerFault.TheVariants as fault
use Rattle.dr_ledger.specs.Books.{Line}
use Rattle.dr_store_sealed.specs.declared.seal.Seal.{Seal}
use Rattle.dr_store_sealed.specs.InTables.{IsOfCode, bytes_of_seal}
use Rattle.dr_store_sealed.proofs.InTables.{seals_are_read_back}
use Rattle.dr_store_schema.specs.Books.{lines_of}
use Rattle.dr_store_writes.specs.Effects.{HasSite, IsSiteOf}
use Rattle.dr_store_changes.specs.Sealing.{SealsLines}
use Rattle.dr_store_changes.specs.Writing.{Transacted}
use Rattle.dr_store_changes.proofs.Sealings.{sealings_take_just_lines}
use Rattle.dr_store_calls.specs.Calling.{IsKept, IsLedgerOf, IsLeftLedger, IsOwnFault, Looked, Nothing}
use Rattle.dr_store_calls.specs.Owners.{IsOwnedSo, IsPlanWith, seal_in}
use Rattle.dr_store_calls.specs.Sealing.{HasSealed, Sealed, past_after}
use Rattle.dr_store_calls.proofs.Calls.{own_lasts}
use Rattle.dr_store_calls.proofs.Owners.{owners_are_one, seals_are_read}
use Rattle.dr_store_calls.proofs.Pasts.{lines_may_leave}

-- ---- a transaction, with the ledger's faults

pub as_done : {E F : Type 0} (n m : ℕ) (CA : Trees → Type 0) (CM : Trees → Trees → Type 0) (old new : State) → Transacted {E = E} n m CA CM (Ok tt) old new → Transacted {E = F} n m CA CM (Ok tt) old new
as_done n m CA CM old new w = record { was_open = w.was_open; ok = w.ok; err = λ clean is_open. tt; ready = λ clean is_open ready asks. tt; crash = w.crash; clean = w.clean }

pub as_refused : {E F : Type 0} (e : E) (f : F) (n m : ℕ) (CA : Trees → Type 0) (CM : Trees → Trees → Type 0) (old new : State) → Transacted n m CA CM (Err e) old new → Transacted n m CA CM (Err f) old new
as_refused e f n m CA CM old new w = record { was_open = w.was_open; ok = λ clean ready asks. tt; err = w.err; ready = w.ready; crash = w.crash; clean = w.clean }

-- ---- the call

-- what was written, where the tables had this owner: its cell has the mark that it had
module _ (n : ℕ) (part : Part) (last : Seal) (old new : State) (mark before was cell : List ℕ) (fit : IsOfCode last) (counts : last.count + 1 ≡ n) (had : IsPlanWith mark before part.digest was) (has : IsPlanWith mark (bytes_of_seal last) part.digest cell) where
  sealed_so : {past : List Line} → IsLedgerOf past n part old.committed.trees → IsSiteOf part.name was old.committed.trees → (db : Trees) → SealsLines cell old.committed.trees db
      → IsLedgerOf (past ++ lines_of old.committed.trees) n part db × HasSealed last part old.committed.trees db
  sealed_so {past} l asks db w =
      let base = old.committed.trees in
      let text = bytes_of_seal last in
      let owns : IsOwnedSo mark text part db = (cell, has, w.site part.name was asks) in
      let first : IsOwnedSo mark before part base = (was, had, asks) in
      let says : seal_in db ≡ last = seals_are_read mark text part db owns ∙ (seals_are_read_back last fit).1 in (
        (lines_may_leave past n part cell base db l w (mark, (text, owns)) (ap (λ (s : Seal). s.count + 1) says ∙ counts)).0,
        record {
          book = sealings_take_just_lines.book cell base db w;
          bodies = sealings_take_just_lines.bodies cell base db w;
          seal = says;
          owned = λ other end owned. subst (λ m. IsOwnedSo m text part db) (sym (owners_are_one other end mark before part part base owned first).2) owns;
        },
      )

  begun : {past : List Line} → IsKept past n part old → IsSiteOf part.name was old.committed.trees → HasSite old.now.trees
  begun k asks = subst (λ (d : Database). HasSite d.trees) (sym k.ready.settled) (part.name, was, asks)

  -- what a crash leaves, whatever was answered
  may_be : {past : List Line} (r : Result (Unit {0}) LedgerFault) → Transacted {E = LedgerFault} n n HasSite (SealsLines cell) r old new
      → HasCleanDisk new → IsKept past n part old → IsSiteOf part.name was old.committed.trees → (db : Trees) → new.may_leave db
      → old.may_leave db ⊎ (IsLeftLedger (past ++ lines_of old.committed.trees) n part db × HasSealed last part old.committed.trees db)
  may_be r w clean k asks db left = elim ((w.crash k.ready (begun k asks)).crash clean db left) [
    | inl h ↦ inl h
    | inr made ↦ inr (let it = sealed_so k.ledger asks db made.1 in (record { whole = made.0; ledger = it.0 }, it.1))
  ]

  pub written_sealed : (r : Result (Unit {0}) LedgerFault) → IfErr r IsOwnFault → Transacted {E = LedgerFault} n n HasSite (SealsLines cell) r old new → Sealed n part last r old new (IsSiteOf part.name was)
  written_sealed (Ok done) own w = record {
    clean = w.clean;
    was_open = w.was_open;
    lasts = λ {past} clean k asks. (w.ok clean k.ready (begun k asks)).0.is_open;
    kept = λ {past} clean is_open k asks. let it = w.ok clean k.ready (begun k asks) in record { ready = it.0; ledger = (sealed_so k.ledger asks new.committed.trees it.1).0 };
    sealed = λ {past} clean is_open k asks. (sealed_so k.ledger asks new.committed.trees (w.ok clean k.ready (begun k asks)).1).1;
    same = λ {past} clean is_open k asks. tt;
    crash = λ {past} clean k asks db left. may_be (Ok done) w clean k asks db left;
  }
  written_sealed (Err e) own w = record {
    clean = w.clean;
    was_open = w.was_open;
    lasts = λ {past} clean k asks. own_lasts e (IsTrue new.is_open) own;
    kept = λ {past} clean is_open k asks. record {
      ready = w.ready clean is_open k.ready (begun k asks);
      ledger = subst (λ (d : Database). IsLedgerOf past n part d.trees) (sym (w.err clean is_open)) k.ledger;
    };
    sealed = λ {past} clean is_open k asks. tt;
    same = λ {past} clean is_open k asks. ap (λ (d : Database). d.trees) (w.err clean is_open);
    crash = λ {past} clean k asks db left. may_be (Err e) w clean k asks db left;
  }

-- what holds anyway holds where it was accepted
pub where_ok : {A E : Type 0} (r : Result A E) (P : Type 0) → P → OnOk r P
where_ok (Ok done) P holds = holds
where_ok (Err why) P holds = tt

-- where nothing is tried
pub not_sealed : (n : ℕ) (part : Part) (last : Seal) (s : State) (Asks : Trees → Type 0) (e : LedgerFault) → IsOwnFault e → Sealed n part last (Err e) s s Asks
not_sealed n part last s Asks e own = record {
  clean = omega arith;
  was_open = λ clean h. h;
  lasts = λ {past} clean k asks. own_lasts e (IsTrue s.is_open) own;
  kept = λ {past} clean is_open k asks. k;
  sealed = λ {past} clean is_open k asks. tt;
  same = λ {past} clean is_open k asks. refl;
  crash = λ {past} clean k asks db left. inl left;
}

-- what is asked of the tables is the same
pub sealed_where : (n : ℕ) (part : Part) (last : Seal) (r : Result (Unit {0}) LedgerFault) (old new : State) (Asks More : Trees → Type 0) → ((db : Trees) → More db → Asks db) → Sealed n part last r old new Asks → Sealed n part last r old new More
sealed_where n part last r old new Asks More gives c = record {
  clean = c.clean;
  was_open = c.was_open;
  lasts = λ {past} clean k asks. c.lasts clean k (gives old.committed.trees asks);
  kept = λ {past} clean is_open k asks. c.kept clean is_open k (gives old.committed.trees asks);
  sealed = λ {past} clean is_open k asks. c.sealed clean is_open k (gives old.committed.trees asks);
  same = λ {past} clean is_open k asks. c.same clean is_open k (gives old.committed.trees asks);
  crash = λ {past} clean k asks db left. c.crash clean k (gives old.committed.trees asks) db left;
}

-- the owner was read, and then lines were sealed
module _ {A : Type 0} (n : ℕ) (part : Part) (last : Seal) (old mid new : State) (Shows : Trees → A → Type 0) where
  pub looked_sealed : (a : A) (r : Result (Unit {0}) LedgerFault) (Given : Trees → Type 0) → Looked n part (Ok a) old mid Shows → Sealed n part last r mid new Given
      → ((db : Trees) → Shows db a → Given db) → Sealed n part last r old new Nothing
  looked_sealed a r Given l c gives = record {
    clean = omega (arith, l.clean, c.clean);
    was_open = λ clean is_open. l.was_open (early clean) (c.was_open clean is_open);
    lasts = λ {past} clean k any. c.lasts clean (middle clean k) (given clean k);
    kept = λ {past} clean is_open k any. subst (λ base. IsKept (past_after r past base) n part new) (shown clean k).0 (c.kept clean is_open (middle clean k) (given clean k));
    sealed = λ {past} clean is_open k any. subst (λ base. OnOk r (HasSealed last part base new.committed.trees)) (shown clean k).0 (c.sealed clean is_open (middle clean k) (given clean k));
    same = λ {past} clean is_open k any. subst (λ base. OnErr r (new.committed.trees ≡ base)) (shown clean k).0 (c.same clean is_open (middle clean k) (given clean k));
    crash = λ {past} clean k any db left. elim (c.crash clean (middle clean k) (given clean k) db left) [
      | inl before ↦ elim (l.crash (early clean) k tt db before) [ inl h ↦ inl h | inr none ↦ absurd none.1 ]
      | inr made ↦ inr (subst (λ base. IsLeftLedger (past ++ lines_of base) n part db × HasSealed last part base db) (shown clean k).0 made)
    ];
  }
    where
      early : HasCleanDisk new → HasCleanDisk mid
      early clean = omega (arith, c.clean, clean)

      middle : {past : List Line} → HasCleanDisk new → IsKept past n part old → IsKept past n part mid
      middle clean k = l.kept (early clean) (l.lasts (early clean) k tt) k tt

      shown : {past : List Line} → HasCleanDisk new → IsKept past n part old → (mid.committed.trees ≡ old.committed.trees) × Shows old.committed.trees a
      shown clean k = l.answers (early clean) (l.lasts (early clean) k tt) k tt

      given : {past : List Line} → HasCleanDisk new → IsKept past n part old → Given mid.committed.trees
      given clean k = subst Given (sym (shown clean k).0) (gives old.committed.trees (shown clean k).1)

-- the owner was read, and nothing was tried
pub looked_still : {A : Type 0} (n : ℕ) (part : Part) (last : Seal) (old new : State) (Shows : Trees → A → Type 0) (a : A) → Looked n part (Ok a) old new Shows → Sealed n part last (Err fault.Store) old new Nothing
looked_still n part last old new Shows a l = looked_sealed n part last old new new Shows a (Err fault.Store) Nothing l (not_sealed n part last new Nothing fault.Store (inl refl)) (λ db shown. tt)

-- the owner couldn't be read
pub looked_failed : {A : Type 0} (n : ℕ) (part : Part) (last : Seal) (old new : State) (Shows : Trees → A → Type 0) (e : LedgerFault) → Looked n part (Err e) old new Shows → Sealed n part last (Err e) old new Nothing
looked_failed n part last old new Shows e l = record {
  clean = l.clean;
  was_open = l.was_open;
  lasts = λ {past} clean k any. l.lasts clean k tt;
  kept = λ {past} clean is_open k any. l.kept clean is_open k tt;
  sealed = λ {past} clean is_open k any. tt;
  same = λ {past} clean is_open k any. (l.answers clean is_open k tt).0;
  crash = λ {past} clean k any db left. elim (l.crash clean k tt db left) [ inl h ↦ inl h | inr none ↦ absurd none.1 ];
}
