-- Lines by their numbers: a line with a higher number is the last.
use Rattle.std.proofs.Common.{◌≡◌, ◌<◌, ◌+◌, ℕ, pos, List, [], ◌∷◌, ◌++◌, map as mapped, refl, sym, ap, subst, ◌∙◌, arith, int_cmp, nat_abs, ltb→lt}
use Rattle.std.specs.Cmp.{IsTotalOrder, nat_cmp_is, nat_cmp_total}
use Rattle.std.specs.declared.cmp.Ordering.{Ordering}
use Rattle.std.specs.declared.cmp.Ordering.TheVariants.{Less, Equal, Greater}
use Rattle.std.specs.FinMap as map
use Rattle.std.specs.FinMap.Entries.{by_order, put}
use Rattle.std.specs.List.{AllByRecursion}
use Rattle.std.specs.Ordering.{match_ordering, nat_cmp}
use Rattle.std.proofs.lemmas.Cmp.{int_ranked}
use Rattle.std.proofs.lemmas.List.{map-append}
use Rattle.sqlite.specs.declared.types.Value.TheVariants.{Int}
use Rattle.sqlite.specs.Order.{Row, value_cmp}
use Rattle.sqlite.specs.Tree.{put_row, rowid}
use Rattle.sqlite_trees.proofs.ListLemmas.{all_weaker}
use Rattle.sqlite_trees.proofs.TreeLemmas.{all-put_row}
use Rattle.sqlite_value.proofs.OrderLemmas.{value_cmp-Int}
use Rattle.dr_ledger.specs.Books.{Line}
use Rattle.dr_store_schema.specs.Books.{AreBelow, line_in, lines_in, numbered_line}
use Rattle.dr_store_schema.specs.Cells.{number_in}
use Rattle.dr_store_schema.proofs.WhatIsWritten.{no_entries}
use Rattle.dr_store_changes.specs.Laws.{LinesCountUp}
use Rattle.dr_store_changes.specs.Writing.{CountTo, number_of, numbers_in}

-- ---- maps

module _ {K X : Type 0} {R : K → K → Ordering} (total : IsTotalOrder R) where
  -- what comes before the last entry is put before it
  put_before : (e : K × X) (k : K) (v : X) (es : List (K × X)) → R e.0 k ≡ Less → put R e.0 e.1 (es ++ (k, v) ∷ []) ≡ put R e.0 e.1 es ++ (k, v) ∷ []
  put_before e k v [] less = ap (λ o. by_order o (e ∷ (k, v) ∷ []) ((k, e.1) ∷ []) ((k, v) ∷ e ∷ [])) less
  put_before e k v (x ∷ es) less = go (R e.0 x.0) (put_before e k v es less)
    where
      go : (o : Ordering) → put R e.0 e.1 (es ++ (k, v) ∷ []) ≡ put R e.0 e.1 es ++ (k, v) ∷ []
          → by_order o (e ∷ x ∷ (es ++ (k, v) ∷ [])) ((x.0, e.1) ∷ (es ++ (k, v) ∷ [])) (x ∷ put R e.0 e.1 (es ++ (k, v) ∷ []))
          ≡ by_order o (e ∷ x ∷ es) ((x.0, e.1) ∷ es) (x ∷ put R e.0 e.1 es) ++ (k, v) ∷ []
      go Less later = refl
      go Equal later = refl
      go Greater later = ap (λ xs. x ∷ xs) later

  -- an entry whose key is above all others is the last
  entries_last : (es : List (K × X)) (k : K) (v : X) → AllByRecursion (λ e. R e.0 k ≡ Less) es
      → map.entries (map.from_entries {R = R} (es ++ (k, v) ∷ [])) ≡ map.entries (map.from_entries {R = R} es) ++ (k, v) ∷ []
  entries_last [] k v below = map.entries-insert total map.empty k v ∙ ap (put R k v) (no_entries R X) ∙ ap (λ es. es ++ (k, v) ∷ []) (sym (no_entries R X))
  entries_last (e ∷ es) k v below =
      map.entries-insert total (map.from_entries (es ++ (k, v) ∷ [])) e.0 e.1 ∙ ap (put R e.0 e.1) (entries_last es k v below.1)
      ∙ put_before e k v (map.entries (map.from_entries es)) below.0 ∙ ap (λ xs. xs ++ (k, v) ∷ []) (sym (map.entries-insert total (map.from_entries es) e.0 e.1))

-- ---- numbers

is_below : (m n : ℕ) → m < n → value_cmp (Int (pos m)) (Int (pos n)) ≡ Less
is_below m n below = value_cmp-Int (pos m) (pos n) ∙ go (int_cmp (pos m) (pos n)) refl
  where
    go : (r : Ordering) → r ≡ int_cmp (pos m) (pos n) → int_cmp (pos m) (pos n) ≡ Less
    go Less e = sym e
    go Equal e = let same : m ≡ n = ap nat_abs (int_ranked (pos m) (pos n) Equal e) in absurd (omega (arith, same, below))
    go Greater e = absurd (omega (arith, ltb→lt n m (int_ranked (pos m) (pos n) Greater e).lt, below))

pub below_next : (n : ℕ) (row : Row) (rows : List Row) → rowid row ≡ Int (pos n) → AreBelow n rows → AreBelow (n + 1) (put_row row rows)
below_next n row rows is below =
    all-put_row _ row rows (n, is, omega arith) (all_weaker _ (λ r. (m : ℕ) × (rowid r ≡ Int (pos m)) × (m < n + 1)) (λ r h. let low = h.2 in (h.0, h.1, omega (arith, low))) rows below)

-- a row with a higher number goes behind all others
put_last : (n : ℕ) (rest : Row) (rows : List Row) → AreBelow n rows → put_row (Int (pos n) ∷ rest) rows ≡ rows ++ (Int (pos n) ∷ rest) ∷ []
put_last n rest [] below = refl
put_last n rest (r ∷ rows) below =
    ap (λ o. match_ordering o (r ∷ put_row (Int (pos n) ∷ rest) rows) ((Int (pos n) ∷ rest) ∷ rows) ((Int (pos n) ∷ rest) ∷ r ∷ rows))
    (ap (λ v. value_cmp v (Int (pos n))) below.0.1 ∙ is_below below.0.0 n below.0.2)
    ∙ ap (λ rs. r ∷ rs) (put_last n rest rows below.1)

-- ---- lines

module _ (targets : List Row) where
  numbers_below : (n : ℕ) (rows : List Row) → AreBelow n rows → AllByRecursion (λ (e : ℕ × Line). nat_cmp e.0 n ≡ Less) (mapped (numbered_line targets) rows)
  numbers_below n [] below = tt
  numbers_below n (r ∷ rows) below =
      (ap (λ v. nat_cmp (number_in v) n) below.0.1 ∙ sym (nat_cmp_is below.0.0 n Less below.0.2), numbers_below n rows below.1)

  -- a line with a higher number is the last
  pub lines_put : (n : ℕ) (rest : Row) (rows : List Row) → AreBelow n rows
      → lines_in targets (put_row (Int (pos n) ∷ rest) rows) ≡ lines_in targets rows ++ line_in targets (Int (pos n) ∷ rest) ∷ []
  lines_put n rest rows below =
      let row : Row = Int (pos n) ∷ rest in
      ap (lines_in targets) (put_last n rest rows below)
      ∙ ap (λ es. map.values (map.from_entries {R = nat_cmp} es)) (map-append (numbered_line targets) rows (row ∷ []))
      ∙ ap (mapped (λ (e : ℕ × Line). e.1)) (entries_last nat_cmp_total (mapped (numbered_line targets) rows) n (line_in targets row) (numbers_below n rows below))
      ∙ map-append (λ (e : ℕ × Line). e.1) (map.entries (map.from_entries {R = nat_cmp} (mapped (numbered_line targets) rows))) ((n, line_in targets row) ∷ [])

-- ---- lines that count up

-- a row with a higher number goes behind all others
row_last : (n : ℕ) (row : Row) (rows : List Row) → rowid row ≡ Int (pos n) → AreBelow n rows
    → put_row row rows ≡ rows ++ row ∷ []
row_last n row [] is below = refl
row_last n row (r ∷ rows) is below =
    ap (λ o. match_ordering o (r ∷ put_row row rows) (row ∷ rows) (row ∷ r ∷ rows))
    ((λ i. value_cmp (below.0.1 i) (is i)) ∙ is_below below.0.0 n below.0.2)
    ∙ ap (λ rs. r ∷ rs) (row_last n row rows is below.1)

all_under : (n : ℕ) (rows : List Row) → AreBelow n rows
    → AllByRecursion (λ (e : ℕ × Unit {0}). nat_cmp e.0 n ≡ Less) (mapped number_of rows)
all_under n [] below = tt
all_under n (r ∷ rows) below =
    (ap (λ v. nat_cmp (number_in v) n) below.0.1 ∙ sym (nat_cmp_is below.0.0 n Less below.0.2), all_under n rows below.1)

-- its number is the last
number_last : (n : ℕ) (row : Row) (rows : List Row) → rowid row ≡ Int (pos n) → AreBelow n rows
    → numbers_in (put_row row rows) ≡ numbers_in rows ++ n ∷ []
number_last n row rows is below =
    let own : number_of row ≡ (n, tt) = λ i. (number_in (is i), tt) in
    let all = mapped number_of rows in
    ap numbers_in (row_last n row rows is below)
    ∙ ap (λ es. map.keys (map.from_entries {R = nat_cmp} es)) (map-append number_of rows (row ∷ []))
    ∙ ap (λ (e : ℕ × Unit {0}). map.keys (map.from_entries {R = nat_cmp} (all ++ e ∷ []))) own
    ∙ ap (mapped (λ (e : ℕ × Unit {0}). e.0)) (entries_last nat_cmp_total all n tt (all_under n rows below))
    ∙ map-append (λ (e : ℕ × Unit {0}). e.0) (map.entries (map.from_entries {R = nat_cmp} all)) ((n, tt) ∷ [])

count_more : (n first : ℕ) (numbers : List ℕ) → CountTo n first numbers → CountTo (n + 1) first (numbers ++ n ∷ [])
count_more n first [] all = (all, ap (λ k. k + 1) all)
count_more n first (number ∷ numbers) all = (all.0, count_more n (first + 1) numbers all.1)

pub lines_count_up : LinesCountUp
lines_count_up old new first n adds all = record {
  below = subst (AreBelow (n + 1)) (sym adds.journal) (below_next n adds.row (old 11) adds.numbered all.below);
  count = subst (λ rows. CountTo (n + 1) first (numbers_in rows)) (sym adds.journal)
      (subst (CountTo (n + 1) first) (sym (number_last n adds.row (old 11) adds.numbered all.below)) (count_more n first (numbers_in (old 11)) all.count));
}
