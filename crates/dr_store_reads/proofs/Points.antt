-- Queries by key: just the rows at which the conditions hold are shown.
use Rattle.std.proofs.Common.{◌≡◌, ◌⊎◌, ◌==◌, inl, inr, suc, ℕ, List, [], ◌∷◌, map, filter, flat_map, length, Bool, true, false, not, ◌||◌, cond, Some, None, is_some, refl, sym, ap, subst, ◌∙◌, true≢false}
use Rattle.std.specs.declared.cmp.Ordering.{Ordering}
use Rattle.std.specs.Cmp.{IsTotalOrder}
use Rattle.std.specs.FinMap.{IsAntisymmetric, find}
use Rattle.std.specs.List.{AllByRecursion, list_any}
use Rattle.std.specs.List.Sorted.{IsPermutation}
use Rattle.std.specs.Ordering.{eq_by_cmp, is_eq}
use Rattle.std.proofs.Math.Dec.{eqb-suc-zero}
use Rattle.std.proofs.lemmas.Cmp.{tied_itself}
use Rattle.std.proofs.lemmas.List.Sorted.{IsPermutation-map, length_permutation}
use Rattle.sqlite.specs.Order.{Row}
use Rattle.sqlite.specs.Program.{overlay}
use Rattle.sqlite.specs.Query.{IsAnswer, Output, output}
use Rattle.sqlite.specs.Term.{Term}
use Rattle.sqlite.specs.Tree.{Trees}
use Rattle.sqlite_rules.specs.Lists.{Has}
use Rattle.sqlite_trees.proofs.TreeLemmas.{not_true}
use Rattle.dr_store_schema.specs.Ledgers.{AreRows}
use Rattle.dr_store_writes.proofs.Commands.{over}
use Rattle.dr_store_writes.proofs.Maps as maps
use Rattle.dr_store_writes.proofs.Maps.{AreApart, Hits, one_hit}
use Rattle.dr_store_writes.proofs.Updated.{found_none, found_one, hits, matched}

pub map_twice : {X Y Z : Type 0} (f : X → Y) (g : Y → Z) (xs : List X) → map g (map f xs) ≡ map (λ x. g (f x)) xs
map_twice f g [] = refl
map_twice f g (x ∷ xs) = ap (λ zs. g (f x) ∷ zs) (map_twice f g xs)

none_passes : {X : Type 0} (p : X → Bool) (xs : List X) → (length (filter p xs) == 0) ≡ not (list_any p xs)
none_passes p [] = refl
none_passes p (x ∷ xs) = go (p x) (none_passes p xs)
  where
    go : (b : Bool) → (length (filter p xs) == 0) ≡ not (list_any p xs) → (length (cond b (x ∷ filter p xs) (filter p xs)) == 0) ≡ not (b || list_any p xs)
    go true later = eqb-suc-zero (length (filter p xs))
    go false later = later

map_length : {X Y : Type 0} (f : X → Y) (xs : List X) → length (map f xs) ≡ length xs
map_length f [] = refl
map_length f (x ∷ xs) = ap suc (map_length f xs)

-- ---- a query over one table

-- the row that the key has, with what is shown of it
pub record IsShown {K : Type 0} (key : Row → K) (hit : Row → Bool) (k : K) (table : List Row) (out : Row → Row) (rows : List Row) : Type 0 where
  pub row : Row
  pub hits : filter hit table ≡ row ∷ []
  pub shown : rows ≡ out row ∷ []
  pub its : key row ≡ k
  pub among : Has table row

module _ (tree : ℕ) (conditions shown : List Term) (db : Trees) (params : Row) (rows : List Row) (answer : IsAnswer (over tree conditions shown) (overlay db []) params rows)
    (grouped : answer.staged ≡ flat_map (λ r. cond (hits conditions params r) ((params ∷ r ∷ []) ∷ []) []) (db tree)) where
  abbrev pub out : Row → Row
  out r = (output (over tree conditions shown) (params ∷ r ∷ [])).1

  -- at a key that no two rows have
  pub at_key : {K V : Type 0} {R : K → K → Ordering} → IsTotalOrder R → IsAntisymmetric R → (entry : Row → K × V) (k : K) → AreRows (db tree) → AreApart entry (db tree)
      → AllByRecursion (Hits entry (hits conditions params) k) (db tree)
      → ((filter (hits conditions params) (db tree) ≡ []) × (rows ≡ [])) ⊎ IsShown (λ r. (entry r).0) (hits conditions params) k (db tree) out rows
  at_key total exact entry k are apart hit = elim (one_hit total exact entry (hits conditions params) k (db tree) are.apart are.ints apart hit) [
    | inl none ↦ inl (none.0, found_none tree conditions shown db params rows answer grouped none.0)
    | inr one ↦ inr (record {
      row = one.row;
      hits = one.hits;
      shown = found_one tree conditions shown db params rows answer grouped one.row (out one.row) one.hits refl;
      its = one.key;
      among = one.among;
    })
  ]

  -- each row that is found is shown, in some order
  pub all_found : IsPermutation (map out (filter (hits conditions params) (db tree))) rows
  all_found =
      let found = filter (hits conditions params) (db tree) in
      let q = over tree conditions shown in
      let kept : answer.kept ≡ map (λ r. output q (params ∷ r ∷ [])) found =
      answer.distinct ∙ ap (map (output q)) (grouped ∙ matched (hits conditions params) (λ r. params ∷ r ∷ []) (db tree)) ∙ map_twice (λ r. params ∷ r ∷ []) (output q) found in
      let shown_ones : map (λ (o : Output). o.1) answer.kept ≡ map out found = ap (map (λ (o : Output). o.1)) kept ∙ map_twice (λ r. output q (params ∷ r ∷ [])) (λ (o : Output). o.1) found in
      subst (λ xs. IsPermutation xs rows) shown_ones
      (subst (λ xs. IsPermutation (map (λ (o : Output). o.1) answer.kept) xs) (sym answer.shown) (IsPermutation-map (λ (o : Output). o.1) answer.kept answer.ordered answer.same))

  -- none is shown just where none is found
  pub none_shown : not (length rows == 0) ≡ list_any (hits conditions params) (db tree)
  none_shown =
      let found = filter (hits conditions params) (db tree) in
      ap (λ n. not (n == 0)) (length_permutation (map out found) rows all_found ∙ map_length out found) ∙ ap not (none_passes (hits conditions params) (db tree)) ∙ twice (list_any (hits conditions params) (db tree))
    where
      twice : (b : Bool) → not (not b) ≡ b
      twice true = refl
      twice false = refl

-- ---- tests that take the rows of a key

module _ {K V : Type 0} {R : K → K → Ordering} (total : IsTotalOrder R) (exact : IsAntisymmetric R) (entry : Row → K × V) where
  -- where the test takes no row, none has the key
  pub none_hit : (hit : Row → Bool) (k : K) (rows : List Row) → AllByRecursion (Hits entry hit k) rows → filter hit rows ≡ [] → find R k (map entry rows) ≡ None
  none_hit hit k [] all none = refl
  none_hit hit k (r ∷ rows) all none = go (hit r) refl none (none_hit hit k rows all.1)
    where
      go : (b : Bool) → hit r ≡ b → cond b (r ∷ filter hit rows) (filter hit rows) ≡ [] → (filter hit rows ≡ [] → find R k (map entry rows) ≡ None) → find R k (map entry (r ∷ rows)) ≡ None
      go true is e later = absurd cc
      go false is e later =
          ap (λ b. cond b (Some (entry r).1) (find R k (map entry rows))) (not_true (eq_by_cmp R k (entry r).0) (λ t. true≢false (sym (all.0.1 (sym (exact k (entry r).0 (maps.equal _ t)))) ∙ is))) ∙ later e

  -- the test is whether the row's key is this one
  as_key : (hit : Row → Bool) (k : K) (row : Row) → Hits entry hit k row → hit row ≡ eq_by_cmp R k (entry row).0
  as_key hit k row h = go (hit row) refl
    where
      go : (b : Bool) → hit row ≡ b → hit row ≡ eq_by_cmp R k (entry row).0
      go true is = is ∙ sym (ap is_eq (tied_itself total k)) ∙ ap (eq_by_cmp R k) (sym (h.0 is))
      go false is = is ∙ sym (not_true (eq_by_cmp R k (entry row).0) (λ t. true≢false (sym (h.1 (sym (exact k (entry row).0 (maps.equal _ t)))) ∙ is)))

  pub any_hit : (hit : Row → Bool) (k : K) (rows : List Row) → AllByRecursion (Hits entry hit k) rows → list_any hit rows ≡ list_any (eq_by_cmp R k) (map (λ r. (entry r).0) rows)
  any_hit hit k [] all = refl
  any_hit hit k (r ∷ rows) all = λ i. as_key hit k r all.0 i || any_hit hit k rows all.1 i

-- two maps of the same keys
pub same_keys : {K V W : Type 0} (R : K → K → Ordering) (key : Row → K) (f : Row → V) (g : Row → W) (k : K) (rows : List Row)
    → is_some (find R k (map (λ r. (key r, f r)) rows)) ≡ is_some (find R k (map (λ r. (key r, g r)) rows))
same_keys R key f g k [] = refl
same_keys R key f g k (r ∷ rows) = go (eq_by_cmp R k (key r)) (same_keys R key f g k rows)
  where
    go : (b : Bool) → is_some (find R k (map (λ x. (key x, f x)) rows)) ≡ is_some (find R k (map (λ x. (key x, g x)) rows))
        → is_some (cond b (Some (f r)) (find R k (map (λ x. (key x, f x)) rows))) ≡ is_some (cond b (Some (g r)) (find R k (map (λ x. (key x, g x)) rows)))
    go true later = refl
    go false later = later
