-- What COUNT(*) says.
use Rattle.std.proofs.Common.{◌≡◌, ◌<◌, ◌+◌, inl, inr, ℕ, suc, List, [], ◌∷◌, map, filter, flat_map, length, Bool, true, false, cond, min, Some, refl, sym, ap, subst, ◌∙◌, arith}
use Rattle.std.specs.List.{AllByRecursion, AllZip, list_all, sum_by}
use Rattle.std.specs.List.Sorted.{IsPermutation}
use Rattle.std.proofs.Math.Nat.{min-eq_left, min-eq_right}
use Rattle.std.proofs.lemmas.Bool.{cases_lt}
use Rattle.std.proofs.lemmas.List.{length-map}
use Rattle.std.proofs.lemmas.List.Sums.{sum_by-cons}
use Rattle.std.proofs.lemmas.List.Sorted.{length_permutation, sum_by-IsPermutation}
use Rattle.sqlite.specs.declared.types.Value.TheVariants.{Null}
use Rattle.sqlite.specs.Collation.TheVariants.{Binary}
use Rattle.sqlite.specs.Order.{Row, column}
use Rattle.sqlite.specs.Program.{overlay}
use Rattle.sqlite.proofs.Callers.{one_permutation}
use Rattle.sqlite.specs.Query.{IsAnswer, Output, Query, output, page}
use Rattle.sqlite.specs.Term.{Term, lit}
use Rattle.sqlite.specs.Tree.{Trees}
use Rattle.sqlite_sql.specs.declared.aggregate.AggregateOp.TheVariants.{CountRows}
use Rattle.sqlite_sql.specs.Aggregate.{count}
use Rattle.sqlite_sql.specs.Group.{Aggregate, Grouping, IsSummary, Summarizes, value_over}
use Rattle.sqlite_sql.specs.Term.{Env, eval, holds}
use Rattle.dr_store_schema.specs.Cells.{number_in}
use Rattle.dr_store_reads.specs.Queries.{first_of}
use Rattle.dr_store_writes.proofs.Updated.{hits, matched}
use Rattle.dr_store_views.proofs.Selects.{counted}

one_zipped : {A B : Type 0} (P : A → B → Type 0) (x : A) (ys : List B) → AllZip P (x ∷ []) ys → (y : B) × (ys ≡ y ∷ []) × P x y
one_zipped P x [] h = absurd h
one_zipped P x (y ∷ []) h = (y, refl, h.0)
one_zipped P x (y ∷ z ∷ ys) h = absurd h.1

abbrev pub most : ℕ
most = 9223372036854775807

-- what is counted below the most is all of it
pub all_counted : (n count : ℕ) → count ≡ min n most → count < most → count ≡ n
all_counted n count is low = elim (cases_lt n most) [
  | inl lt ↦ is ∙ min-eq_left (omega (arith, lt))
  | inr le ↦ absurd (let e : count ≡ most = is ∙ min-eq_right le in omega (arith, e, low))
]

abbrev pub counting_row : Aggregate
counting_row = record { op = CountRows; distinct = false; collation = Binary; argument = lit Null }

abbrev pub counting_rows : Grouping
counting_rows = record { keys = []; collations = []; aggregates = counting_row ∷ []; having = [] }

inside : {X : Type 0} (x y : X) → Some x ≡ Some y → x ≡ y
inside x y e = cc

module _ (tree : ℕ) (conditions : List Term) (db : Trees) (params : Row) (rows : List Row) (answer : IsAnswer (counted tree conditions) (overlay db []) params rows)
    (grouped : Summarizes counting_rows params (flat_map (λ r. cond (hits conditions params r) ((params ∷ r ∷ []) ∷ []) []) (db tree)) answer.staged) where
  abbrev q : Query
  q = counted tree conditions

  abbrev found : List Row
  found = filter (hits conditions params) (db tree)

  abbrev matches : List Env
  matches = flat_map (λ r. cond (hits conditions params r) ((params ∷ r ∷ []) ∷ []) []) (db tree)

  all_found : (order : List Env) → IsPermutation matches order → length order ≡ length found
  all_found order same =
      length_permutation matches order same ∙ ap length (matched (hits conditions params) (λ r. params ∷ r ∷ []) (db tree)) ∙ length-map found (λ r. params ∷ r ∷ [])

  shown_as : (row : Row) → answer.staged ≡ (params ∷ row ∷ []) ∷ [] → rows ≡ (column row 0 ∷ []) ∷ []
  shown_as row staged =
      let one : Output = output q (params ∷ row ∷ []) in
      let kept : answer.kept ≡ one ∷ [] = answer.distinct ∙ ap (map (output q)) staged in
      let ordered = one_permutation one answer.ordered (subst (λ l. IsPermutation l answer.ordered) kept answer.same) in
      answer.shown ∙ ap (λ xs. page q params (map (λ (p : Output). p.1) xs)) ordered

  pub count_shown : first_of (λ (row : Row). number_in (column row 0)) rows ≡ Some (min (length found) most)
  count_shown =
      let order = grouped.grouping.0 in
      let one = one_zipped (IsSummary counting_rows) order grouped.rows (subst (λ gs. AllZip (IsSummary counting_rows) gs grouped.rows) grouped.grouping.2 grouped.summaries) in
      let row = one.0 in
      let value = one_zipped (λ (a : Aggregate) v. value_over order a ≡ Some v) counting_row one.2.0 one.2.1 in
      let row_is : row ≡ value.0 ∷ [] = one.2.2 ∙ value.1 in
      let told : value.0 ≡ count (length order) = sym (inside (count (length (map (eval (lit Null)) order))) value.0 value.2) ∙ ap count (length-map order (eval (lit Null))) in
      let staged : answer.staged ≡ (params ∷ row ∷ []) ∷ [] = grouped.having ∙ ap (λ rs. filter (λ env. list_all (holds env) []) (map (λ r. params ∷ r ∷ []) rs)) one.1 in
      ap (first_of (λ (r : Row). number_in (column r 0))) (shown_as row staged)
      ∙ ap (λ (r : Row). Some (number_in (column r 0))) row_is
      ∙ ap (λ v. Some (number_in v)) told
      ∙ ap (λ n. Some (min n most)) (all_found order grouped.grouping.1)

-- ---- counted entries

pub count_mapped : {X Y : Type 0} (hit : X → Bool) (g : X → Y) (p : Y → Bool) (xs : List X) → AllByRecursion (λ x. hit x ≡ p (g x)) xs → length (filter hit xs) ≡ length (filter p (map g xs))
count_mapped hit g p [] fits = refl
count_mapped hit g p (x ∷ xs) fits = go (hit x) (p (g x)) fits.0 (count_mapped hit g p xs fits.1)
  where
    go : (a b : Bool) → a ≡ b → length (filter hit xs) ≡ length (filter p (map g xs)) → length (cond a (x ∷ filter hit xs) (filter hit xs)) ≡ length (cond b (g x ∷ filter p (map g xs)) (filter p (map g xs)))
    go true true e later = ap suc later
    go false false e later = later
    go true false e later = absurd cc
    go false true e later = absurd cc

abbrev one_if : Bool → ℕ
one_if true = 1
one_if false = 0

length_summed : {X : Type 0} (p : X → Bool) (xs : List X) → length (filter p xs) ≡ sum_by (λ x. one_if (p x)) xs
length_summed p [] = refl
length_summed p (x ∷ xs) = go (p x) (length_summed p xs) ∙ sym (sum_by-cons (λ y. one_if (p y)) x xs)
  where
    go : (b : Bool) → length (filter p xs) ≡ sum_by (λ y. one_if (p y)) xs → length (cond b (x ∷ filter p xs) (filter p xs)) ≡ one_if b + sum_by (λ y. one_if (p y)) xs
    go true later = omega (arith, later)
    go false later = omega (arith, later)

pub count_permuted : {X : Type 0} (p : X → Bool) (xs ys : List X) → IsPermutation xs ys → length (filter p ys) ≡ length (filter p xs)
count_permuted p xs ys same = length_summed p ys ∙ sum_by-IsPermutation (λ x. one_if (p x)) xs ys same ∙ sym (length_summed p xs)
