-- Rows that are made for an instance that comes.
use Rattle.std.proofs.Common.{◌≡◌, ◌≢◌, inl, List, [], ◌∷◌, ◌++◌, map as mapped, Bool, true, false, cond, Option, Some, None, IsSome, Ok, refl, sym, ap, subst, ◌∙◌, arith}
use Rattle.std.specs.declared.cmp.Ordering.{Ordering}
use Rattle.std.specs.declared.cmp.Ordering.TheVariants.{Less, Equal, Greater}
use Rattle.std.specs.FinMap as map
use Rattle.std.specs.FinMap.{FinMap, IsAntisymmetric, find}
use Rattle.std.specs.List.{AllByRecursion}
use Rattle.std.specs.Ordering.{eq_by_cmp, is_eq, match_ordering}
use Rattle.sqlite.specs.declared.error.Error.{Error}
use Rattle.sqlite.specs.declared.types.Value.TheVariants.{Int}
use Rattle.sqlite.specs.Edit.{is_taken}
use Rattle.sqlite.specs.Order.{Row, value_cmp}
use Rattle.sqlite.specs.State.{State}
use Rattle.sqlite.specs.Tree.{put_row, rowid, IsAscending}
use Rattle.dr_base.specs.Texts.{Text}
use Rattle.dr_ledger.specs.declared.item.Progress.{Progress}
use Rattle.dr_ledger.specs.declared.item.Progress.TheVariants.{Waiting}
use Rattle.dr_ledger.specs.Books.{arrived_row, with_rows}
use Rattle.dr_ledger.specs.Pairs.{Pair, pair_cmp}
use Rattle.dr_store_schema.specs.Books.{entry_in, rows_in, rows_of}
use Rattle.dr_store_writes.specs.Effects.{AddsCells, CommitsNothing, GoesOn, HasRow, SetsRow, StatementStep, new_cells}
use Rattle.dr_store_writes.proofs.Keys.{pairs_total, pairs_exact, queue_apart}
use Rattle.dr_store_writes.proofs.Maps.{equal, map_put, neither}
use Rattle.dr_store_changes.specs.Changes.{AddsRows, HasRows, Renews, with_waiting}
use Rattle.dr_store_changes.proofs.Movements.{goes_over}

-- ---- a row that was added to rows whose keys differ has a new key

has_new : (P : Row → Type 0) (new : Row) (rows : List Row) → AllByRecursion P (put_row new rows) → P new
has_new P new [] h = h.0
has_new P new (r ∷ rows) h = go (value_cmp (rowid r) (rowid new)) h (has_new P new rows)
  where
    go : (o : Ordering) → AllByRecursion P (match_ordering o (r ∷ put_row new rows) (new ∷ rows) (new ∷ r ∷ rows)) → (AllByRecursion P (put_row new rows) → P new) → P new
    go Less h later = later h.1
    go Equal h later = h.0
    go Greater h later = h.0

module _ {K : Type 0} (key : Row → K) where
  keys_free : (new : Row) (rows : List Row) → is_taken rows new ≡ false → IsAscending (λ a b. key a ≢ key b) (put_row new rows) → AllByRecursion (λ r. key new ≢ key r) rows
  keys_free new [] free apart = tt
  keys_free new (r ∷ rows) free apart =
      let parts = neither (is_eq (value_cmp (rowid r) (rowid new))) (is_taken rows new) free in go (value_cmp (rowid r) (rowid new)) parts.0 apart (keys_free new rows parts.1)
    where
      go : (o : Ordering) → is_eq o ≡ false → IsAscending (λ a b. key a ≢ key b) (match_ordering o (r ∷ put_row new rows) (new ∷ rows) (new ∷ r ∷ rows))
          → (IsAscending (λ a b. key a ≢ key b) (put_row new rows) → AllByRecursion (λ r. key new ≢ key r) rows) → AllByRecursion (λ x. key new ≢ key x) (r ∷ rows)
      go Less other apart later = ((λ same. has_new (λ x. key r ≢ key x) new rows apart.0 (sym same)), later apart.1)
      go Equal other apart later = absurd cc
      go Greater other apart later = apart.0

module _ {K V : Type 0} {R : K → K → Ordering} (exact : IsAntisymmetric R) (entry : Row → K × V) where
  find_free : (k : K) (rows : List Row) → AllByRecursion (λ r. k ≢ (entry r).0) rows → find R k (mapped entry rows) ≡ None
  find_free k [] free = refl
  find_free k (r ∷ rows) free = go (eq_by_cmp R k (entry r).0) refl (find_free k rows free.1)
    where
      go : (b : Bool) → eq_by_cmp R k (entry r).0 ≡ b → find R k (mapped entry rows) ≡ None → cond b (Some (entry r).1) (find R k (mapped entry rows)) ≡ None
      go true is later = absurd (free.0 (exact k (entry r).0 (equal _ is)))
      go false is later = later

-- ---- rows for one destination after another

with_one_more : (rows : FinMap pair_cmp Progress) (uid dest : Text) (dests : List Text)
    → with_rows rows uid (dests ++ dest ∷ []) ≡ map.insert (with_rows rows uid dests) (uid, dest) (arrived_row (map.get (with_rows rows uid dests) (uid, dest)))
unfolding with_rows
with_one_more rows uid dest [] = refl
with_one_more rows uid dest (d ∷ dests) = with_one_more (map.insert rows (uid, d) (arrived_row (map.get rows (uid, d)))) uid dest dests

with_none : (rows : FinMap pair_cmp Progress) (uid : Text) → with_rows rows uid [] ≡ rows
unfolding with_rows
with_none rows uid = refl

pub still : (s : State) → CommitsNothing s s
still s = record {
  clean = omega arith;
  shield = λ h. h;
  counts = omega arith;
  limit = refl;
  closes = λ clean h. inl h;
  crash = λ clean db h. inl h;
}

-- before the first destination
pub no_rows_yet : (uid : Text) (s : State) → StatementStep {A = Unit {0}} {E = Error} (Ok tt) s s (Unit {0} → GoesOn s s × AddsRows uid [] s.now.trees s.now.trees)
no_rows_yet uid s = record {
  ok = λ clean inside is_open has any. (
    record { ledger = has; mode = inside; committed = refl; is_open = is_open },
    record { rows = sym (with_none (rows_of s.now.trees) uid); site = refl; items = refl; prints = refl; arrivals = refl; kept = refl; journal = refl; targets = refl },
  );
  kept = λ clean. record { was_open = λ h. h; committed = λ h. refl };
  survives = still s;
}

-- and after one more
pub one_row_more : (uid dest : Text) (dests : List Text) (old mid new : State) → GoesOn old mid × AddsRows uid dests old.now.trees mid.now.trees → AddsCells 9 (new_cells (uid, dest)) mid new
    → GoesOn old new × AddsRows uid (dests ++ dest ∷ []) old.now.trees new.now.trees
one_row_more uid dest dests old mid new done added =
    let o = added.adds.others in
    let d = done.1 in
    let rows = mid.now.trees 9 in
    let row : Row = Int added.id ∷ new_cells (uid, dest) in
    let apart = subst (IsAscending (λ a b. (entry_in a).0 ≢ (entry_in b).0)) added.adds.rows (queue_apart new.now added.adds.goes_on.ledger) in
    let free = find_free pairs_exact entry_in (uid, dest) rows (keys_free (λ r. (entry_in r).0) row rows added.adds.free apart) in
    let none : map.get (rows_of mid.now.trees) (uid, dest) ≡ None = map.get-from_entries pairs_total (mapped entry_in rows) (uid, dest) ∙ free in
    let none_before : map.get (with_rows (rows_of old.now.trees) uid dests) (uid, dest) ≡ None = ap (λ m. map.get m (uid, dest)) (sym d.rows) ∙ none in
    let more : rows_of new.now.trees ≡ map.insert (rows_of mid.now.trees) (uid, dest) (Waiting 0 0) = ap rows_in added.adds.rows ∙ map_put pairs_total pairs_exact entry_in row rows added.adds.free free in (
      goes_over old mid new done.0 added.adds.goes_on,
      record {
        rows = more ∙ ap (λ m. map.insert m (uid, dest) (Waiting 0 0)) d.rows ∙ ap (λ was. map.insert (with_rows (rows_of old.now.trees) uid dests) (uid, dest) (arrived_row was)) (sym none_before)
            ∙ sym (with_one_more (rows_of old.now.trees) uid dest dests);
        site = o.site (omega arith) ∙ d.site;
        items = o.items (omega arith) ∙ d.items;
        prints = o.prints (omega arith) ∙ d.prints;
        arrivals = o.arrivals (omega arith) ∙ d.arrivals;
        kept = o.kept (omega arith) ∙ d.kept;
        journal = o.journal (omega arith) ∙ d.journal;
        targets = o.targets (omega arith) ∙ d.targets;
      },
    )

-- ---- rows that wait anew, one destination after another

waiting_one_more : (rows : FinMap pair_cmp Progress) (uid dest : Text) (dests : List Text) → with_waiting rows uid (dests ++ dest ∷ []) ≡ map.insert (with_waiting rows uid dests) (uid, dest) (Waiting 0 0)
waiting_one_more rows uid dest [] = refl
waiting_one_more rows uid dest (d ∷ dests) = waiting_one_more (map.insert rows (uid, d) (Waiting 0 0)) uid dest dests

some_still : (b : Bool) (o : Option Progress) → IsSome o → IsSome (cond b (Some (Waiting 0 0)) o)
some_still true o h = refl
some_still false o h = h

row_still : (dests : List Text) (rows : FinMap pair_cmp Progress) (uid : Text) (at : Pair) → IsSome (map.get rows at) → IsSome (map.get (with_waiting rows uid dests) at)
row_still [] rows uid at h = h
row_still (d ∷ dests) rows uid at h =
    row_still dests (map.insert rows (uid, d) (Waiting 0 0)) uid at
    (subst IsSome (sym (map.get-insert pairs_total rows (uid, d) (Waiting 0 0) at)) (some_still (eq_by_cmp pair_cmp at (uid, d)) (map.get rows at) h))

-- before the first destination
pub no_rows_renewed : (uid : Text) (dests : List Text) (s : State) → StatementStep {A = Unit {0}} {E = Error} (Ok tt) s s (HasRows uid dests s.now.trees → GoesOn s s × Renews uid [] s.now.trees s.now.trees)
no_rows_renewed uid dests s = record {
  ok = λ clean inside is_open has any. (
    record { ledger = has; mode = inside; committed = refl; is_open = is_open },
    record { rows = refl; site = refl; items = refl; prints = refl; arrivals = refl; kept = refl; journal = refl; targets = refl },
  );
  kept = λ clean. record { was_open = λ h. h; committed = λ h. refl };
  survives = still s;
}

-- the row of another one is there still
pub has_row_still : (uid dest : Text) (dests : List Text) (old mid : State) → HasRow (uid, dest) old.now.trees → GoesOn old mid × Renews uid dests old.now.trees mid.now.trees → GoesOn old mid × HasRow (uid, dest) mid.now.trees
has_row_still uid dest dests old mid has done =
    let d = done.1 in (done.0, subst (λ m. IsSome (map.get m (uid, dest))) (sym d.rows) (row_still dests (rows_of old.now.trees) uid (uid, dest) has))

-- and after one more
pub one_row_renewed : (uid dest : Text) (dests : List Text) (old mid new : State) → GoesOn old mid × Renews uid dests old.now.trees mid.now.trees → SetsRow (uid, dest) (Waiting 0 0) mid new
    → GoesOn old new × Renews uid (dests ++ dest ∷ []) old.now.trees new.now.trees
one_row_renewed uid dest dests old mid new done sets =
    let o = sets.others in
    let d = done.1 in (
      goes_over old mid new done.0 sets.goes_on,
      record {
        rows = sets.rows ∙ ap (λ m. map.insert m (uid, dest) (Waiting 0 0)) d.rows ∙ sym (waiting_one_more (rows_of old.now.trees) uid dest dests);
        site = o.site (omega arith) ∙ d.site;
        items = o.items (omega arith) ∙ d.items;
        prints = o.prints (omega arith) ∙ d.prints;
        arrivals = o.arrivals (omega arith) ∙ d.arrivals;
        kept = o.kept (omega arith) ∙ d.kept;
        journal = o.journal (omega arith) ∙ d.journal;
        targets = o.targets (omega arith) ∙ d.targets;
      },
    )
