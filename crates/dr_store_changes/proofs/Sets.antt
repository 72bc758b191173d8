-- Tables as sets: arrivals, what is kept, and where a line goes on to.
use Rattle.std.proofs.Common.{◌≡◌, ◌==◌, ℕ, ℤ, List, [], ◌∷◌, ◌++◌, map as mapped, filter, Bool, true, false, cond, ◌&&◌, ◌||◌, Option, Some, None, Ok, refl, sym, ap, ◌∙◌, arith}
use Rattle.std.specs.Cmp.{IsTotalOrder}
use Rattle.std.specs.Cmp.Lexicographic.{nat_list_cmp_total}
use Rattle.std.specs.declared.cmp.Ordering.{Ordering}
use Rattle.std.specs.declared.cmp.Ordering.TheVariants.{Less, Equal, Greater}
use Rattle.std.specs.FinMap as map
use Rattle.std.specs.FinMap.{find}
use Rattle.std.specs.FinSet as set
use Rattle.std.specs.FinSet.{IsAntisymmetric}
use Rattle.std.specs.List.{list_any}
use Rattle.std.specs.Ordering.{eq_by_cmp, is_eq, match_ordering}
use Rattle.std.proofs.lemmas.Map.Lookups.{exact_bytes}
use Rattle.sqlite.specs.declared.error.Error.{Error}
use Rattle.sqlite.specs.declared.types.Value.TheVariants.{Int}
use Rattle.sqlite.specs.Edit.{is_taken}
use Rattle.sqlite.specs.Order.{Row, value_cmp}
use Rattle.sqlite.specs.State.{State}
use Rattle.sqlite.specs.Tree.{put_row, rowid}
use Rattle.dr_base.specs.Texts.{Text, text_cmp}
use Rattle.dr_ledger.specs.Pairs.{Pair}
use Rattle.dr_store_schema.specs.Books.{NameSet, all_kept_in, arrival_in, arrivals_in, dest_in, is_of_line, kept_in, named_in, names_in}
use Rattle.dr_store_writes.specs.Effects.{AddsCells, GoesOn, StatementStep, arrival_cells, kept_cells, target_cells}
use Rattle.dr_store_writes.proofs.Keys.{pairs_total, pairs_exact}
use Rattle.dr_store_writes.proofs.Maps.{neither}
use Rattle.dr_store_changes.specs.Changes.{AddsTargets, KeepsOne, NotesArrival, with_names}
use Rattle.dr_store_changes.proofs.Movements.{goes_over}
use Rattle.dr_store_changes.proofs.NewRows.{still}

either_first : (a b c : Bool) → (a || (b || c)) ≡ (b || (a || c))
either_first true true c = refl
either_first true false c = refl
either_first false b c = refl

-- a row that is put is one more of which a test may hold
any_put : (f : Row → Bool) (new : Row) (rows : List Row) → is_taken rows new ≡ false → list_any f (put_row new rows) ≡ (f new || list_any f rows)
any_put f new [] free = refl
any_put f new (r ∷ rows) free =
    let parts = neither (is_eq (value_cmp (rowid r) (rowid new))) (is_taken rows new) free in go (value_cmp (rowid r) (rowid new)) parts.0 (any_put f new rows parts.1)
  where
    go : (o : Ordering) → is_eq o ≡ false → list_any f (put_row new rows) ≡ (f new || list_any f rows)
        → list_any f (match_ordering o (r ∷ put_row new rows) (new ∷ rows) (new ∷ r ∷ rows)) ≡ (f new || (f r || list_any f rows))
    go Less other later = ap (λ b. f r || b) later ∙ either_first (f r) (f new) (list_any f rows)
    go Equal other later = absurd cc
    go Greater other later = refl

any_mapped : {K : Type 0} (f : Row → K) (test : K → Bool) (rows : List Row) → list_any test (mapped f rows) ≡ list_any (λ r. test (f r)) rows
any_mapped f test [] = refl
any_mapped f test (r ∷ rows) = ap (λ b. test (f r) || b) (any_mapped f test rows)

any_filtered : (p test : Row → Bool) (rows : List Row) → list_any test (filter p rows) ≡ list_any (λ r. p r && test r) rows
any_filtered p test [] = refl
any_filtered p test (r ∷ rows) = go (p r) (any_filtered p test rows)
  where
    go : (b : Bool) → list_any test (filter p rows) ≡ list_any (λ x. p x && test x) rows → list_any test (cond b (r ∷ filter p rows) (filter p rows)) ≡ ((b && test r) || list_any (λ x. p x && test x) rows)
    go true later = ap (λ b. test r || b) later
    go false later = later

module _ {K : Type 0} {R : K → K → Ordering} (total : IsTotalOrder R) (exact : IsAntisymmetric R) (f : Row → K) where
  set_put : (new : Row) (rows : List Row) → is_taken rows new ≡ false → set.from_list {R = R} (mapped f (put_row new rows)) ≡ set.insert (set.from_list (mapped f rows)) (f new)
  set_put new rows free = set.same_set total exact _ _ (λ q.
      set.contains-from_list total (mapped f (put_row new rows)) q ∙ any_mapped f (eq_by_cmp R q) (put_row new rows) ∙ any_put (λ r. eq_by_cmp R q (f r)) new rows free
      ∙ ap (λ b. eq_by_cmp R q (f new) || b) (sym (set.contains-from_list total (mapped f rows) q ∙ any_mapped f (eq_by_cmp R q) rows)) ∙ sym (set.contains-insert total (set.from_list (mapped f rows)) (f new) q))

-- ---- arrivals, and what is kept

pub noted : (at : Pair) (old new : State) → AddsCells 5 (arrival_cells at) old new → GoesOn old new × NotesArrival at old.now.trees new.now.trees
noted at old new added =
    let o = added.adds.others in
    let row : Row = Int added.id ∷ arrival_cells at in (
      added.adds.goes_on,
      record {
        arrivals = ap arrivals_in added.adds.rows ∙ set_put pairs_total pairs_exact arrival_in row (old.now.trees 5) added.adds.free;
        site = o.site (omega arith);
        items = o.items (omega arith);
        prints = o.prints (omega arith);
        kept = o.kept (omega arith);
        queue = o.queue (omega arith);
        journal = o.journal (omega arith);
        targets = o.targets (omega arith);
      },
    )

pub keeps_one : (uid : Text) (old new : State) → AddsCells 7 (kept_cells uid) old new → GoesOn old new × KeepsOne uid old.now.trees new.now.trees
keeps_one uid old new added =
    let o = added.adds.others in
    let row : Row = Int added.id ∷ kept_cells uid in (
      added.adds.goes_on,
      record {
        kept = ap all_kept_in added.adds.rows ∙ set_put nat_list_cmp_total exact_bytes kept_in row (old.now.trees 7) added.adds.free;
        site = o.site (omega arith);
        items = o.items (omega arith);
        prints = o.prints (omega arith);
        arrivals = o.arrivals (omega arith);
        queue = o.queue (omega arith);
        journal = o.journal (omega arith);
        targets = o.targets (omega arith);
      },
    )

-- ---- where a line goes on to

-- what a map to nothing has where it has something
abbrev pub present : Bool → Option (Unit {0})
present b = cond b (Some tt) None

-- a name is found where a row has it
found_name : (q : Text) (rows : List Row) → find text_cmp q (mapped named_in rows) ≡ present (list_any (λ r. eq_by_cmp text_cmp q (dest_in r)) rows)
found_name q [] = refl
found_name q (r ∷ rows) = go (eq_by_cmp text_cmp q (dest_in r)) (found_name q rows)
  where
    go : (b : Bool) → find text_cmp q (mapped named_in rows) ≡ present (list_any (λ x. eq_by_cmp text_cmp q (dest_in x)) rows)
        → cond b (Some tt) (find text_cmp q (mapped named_in rows)) ≡ present (b || list_any (λ x. eq_by_cmp text_cmp q (dest_in x)) rows)
    go true later = refl
    go false later = later

pub names_have : (rows : List Row) (m : ℕ) (q : Text) → map.get (names_in rows m) q ≡ present (list_any (λ r. is_of_line m r && eq_by_cmp text_cmp q (dest_in r)) rows)
names_have rows m q =
    map.get-from_entries nat_list_cmp_total (mapped named_in (filter (is_of_line m) rows)) q ∙ found_name q (filter (is_of_line m) rows)
    ∙ ap present (any_filtered (is_of_line m) (λ r. eq_by_cmp text_cmp q (dest_in r)) rows)

name_put : (id : ℤ) (n : ℕ) (name : Text) (rows : List Row) (m : ℕ) → is_taken rows (Int id ∷ target_cells n name) ≡ false
    → names_in (put_row (Int id ∷ target_cells n name) rows) m ≡ cond (n == m) (map.insert (names_in rows m) name tt) (names_in rows m)
name_put id n name rows m free = map.same_map nat_list_cmp_total exact_bytes _ _ (λ q.
    names_have (put_row (Int id ∷ target_cells n name) rows) m q
    ∙ ap present (any_put (λ r. is_of_line m r && eq_by_cmp text_cmp q (dest_in r)) (Int id ∷ target_cells n name) rows free)
    ∙ at q (n == m))
  where
    has : Text → Bool
    has q = list_any (λ r. is_of_line m r && eq_by_cmp text_cmp q (dest_in r)) rows

    either : (a : Bool) (q : Text) → present (a || has q) ≡ cond a (Some tt) (present (has q))
    either true q = refl
    either false q = refl

    at : (q : Text) (b : Bool) → present ((b && eq_by_cmp text_cmp q name) || has q) ≡ map.get (cond b (map.insert (names_in rows m) name tt) (names_in rows m)) q
    at q true =
        either (eq_by_cmp text_cmp q name) q ∙ ap (λ got. cond (eq_by_cmp text_cmp q name) (Some tt) got) (sym (names_have rows m q))
        ∙ sym (map.get-insert nat_list_cmp_total (names_in rows m) name tt q)
    at q false = sym (names_have rows m q)

with_one_name : (names : NameSet) (more : List Text) (name : Text) → with_names names (more ++ name ∷ []) ≡ map.insert (with_names names more) name tt
with_one_name names [] name = refl
with_one_name names (x ∷ more) name = with_one_name (map.insert names x tt) more name

chosen : (b : Bool) (names more : NameSet) (name : Text) → cond b (map.insert (cond b more names) name tt) (cond b more names) ≡ cond b (map.insert more name tt) names
chosen true names more name = refl
chosen false names more name = refl

unchosen : (b : Bool) (names : NameSet) → names ≡ cond b names names
unchosen true names = refl
unchosen false names = refl

-- before the first name
pub no_targets_yet : (n : ℕ) (s : State) → StatementStep {A = Unit {0}} {E = Error} (Ok tt) s s (Unit {0} → GoesOn s s × AddsTargets n [] s.now.trees s.now.trees)
no_targets_yet n s = record {
  ok = λ clean inside is_open has any. (
    record { ledger = has; mode = inside; committed = refl; is_open = is_open },
    record { targets = λ m. unchosen (n == m) (names_in (s.now.trees 12) m); site = refl; items = refl; prints = refl; arrivals = refl; kept = refl; queue = refl; journal = refl },
  );
  kept = λ clean. record { was_open = λ h. h; committed = λ h. refl };
  survives = still s;
}

-- and after one more
pub one_target_more : (n : ℕ) (name : Text) (names : List Text) (old mid new : State) → GoesOn old mid × AddsTargets n names old.now.trees mid.now.trees → AddsCells 12 (target_cells n name) mid new
    → GoesOn old new × AddsTargets n (names ++ name ∷ []) old.now.trees new.now.trees
one_target_more n name names old mid new done added =
    let o = added.adds.others in
    let d = done.1 in (
      goes_over old mid new done.0 added.adds.goes_on,
      record {
        targets = λ m.
            ap (λ rows. names_in rows m) added.adds.rows ∙ name_put added.id n name (mid.now.trees 12) m added.adds.free
            ∙ ap (λ was. cond (n == m) (map.insert was name tt) was) (d.targets m) ∙ chosen (n == m) (names_in (old.now.trees 12) m) (with_names (names_in (old.now.trees 12) m) names) name
            ∙ ap (λ more. cond (n == m) more (names_in (old.now.trees 12) m)) (sym (with_one_name (names_in (old.now.trees 12) m) names name));
        site = o.site (omega arith) ∙ d.site;
        items = o.items (omega arith) ∙ d.items;
        prints = o.prints (omega arith) ∙ d.prints;
        arrivals = o.arrivals (omega arith) ∙ d.arrivals;
        kept = o.kept (omega arith) ∙ d.kept;
        queue = o.queue (omega arith) ∙ d.queue;
        journal = o.journal (omega arith) ∙ d.journal;
      },
    )
