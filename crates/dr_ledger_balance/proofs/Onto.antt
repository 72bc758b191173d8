-- Maps and sets of lists whose last elements are put in first.
use Rattle.std.proofs.Common.{◌≡◌, ◌∙◌, ◌-◌, ℕ, take, List, [], ◌∷◌, ◌++◌, Option, Some, map as mapped, refl, sym, ap}
use Rattle.std.proofs.lemmas.List.{append-nil}
use Rattle.std.specs.declared.cmp.Ordering.{Ordering}
use Rattle.std.specs.Prelude.{option_to_list}
use Rattle.std.specs.BTreeMap as tree
use Rattle.std.specs.BTreeSet as sorted
use Rattle.std.specs.FinMap as map
use Rattle.std.specs.FinMap.{FinMap}
use Rattle.std.specs.FinSet as set
use Rattle.std.specs.FinSet.{FinSet}
use Rattle.dr_ledger_history.specs.Trees.{as_map, as_set}

-- a list whose last element was taken off
pub popped : {X : Type 0} (l m : List X) (o : Option X) (x : X) → l ≡ m ++ option_to_list o → o ≡ Some x → l ≡ m ++ x ∷ []
popped l m o x e is = e ∙ ap (λ p. m ++ option_to_list p) is

-- a list from which none could be taken off
pub emptied : {X : Type 0} (l m : List X) (n : ℕ) → l ≡ m ++ [] → m ≡ take (n - 1) l → n ≡ 0 → l ≡ []
emptied l m n e rest none = e ∙ append-nil m ∙ rest ∙ ap (λ (k : ℕ). take (k - 1) l) none

pub mapped_push : {X Y : Type 0} (f : X → Y) (xs : List X) (x : X) → mapped f (xs ++ x ∷ []) ≡ mapped f xs ++ f x ∷ []
mapped_push f [] x = refl
mapped_push f (y ∷ ys) x = ap (λ l. f y ∷ l) (mapped_push f ys x)

module _ {K X : Type 0} {R : K → K → Ordering} where
  -- the entries of a list, put into a map from the last one on
  abbrev pub onto : FinMap R X → List (K × X) → FinMap R X
  onto m [] = m
  onto m (e ∷ es) = map.insert (onto m es) e.0 e.1

  onto_empty : (es : List (K × X)) → onto map.empty es ≡ map.from_entries es
  onto_empty [] = refl
  onto_empty (e ∷ es) = ap (λ m. map.insert m e.0 e.1) (onto_empty es)

  onto_push : (m : FinMap R X) (es : List (K × X)) (e : K × X) → onto m (es ++ e ∷ []) ≡ onto (map.insert m e.0 e.1) es
  onto_push m [] e = refl
  onto_push m (x ∷ xs) e = ap (λ n. map.insert n x.0 x.1) (onto_push m xs e)

  pub begun : (t : tree.BTreeMap K X) (es : List (K × X)) → t.entries ≡ [] → onto (as_map R t) es ≡ map.from_entries es
  begun t es e = ap (λ l. onto (map.from_entries l) es) e ∙ onto_empty es

  pub one_put : (s t : tree.BTreeMap K X) (left less : List (K × X)) (e : K × X) (all : FinMap R X) → onto (as_map R s) left ≡ all → left ≡ less ++ e ∷ [] → as_map R t ≡ map.insert (as_map R s) e.0 e.1
      → onto (as_map R t) less ≡ all
  one_put s t left less e all so l p = ap (λ m. onto m less) p ∙ sym (onto_push (as_map R s) less e) ∙ ap (λ k. onto (as_map R s) k) (sym l) ∙ so

  pub all_put : (t : tree.BTreeMap K X) (left : List (K × X)) (all : FinMap R X) → onto (as_map R t) left ≡ all → left ≡ [] → as_map R t ≡ all
  all_put t left all so e = ap (λ k. onto (as_map R t) k) (sym e) ∙ so

module _ {K : Type 0} {R : K → K → Ordering} where
  -- the same of keys
  abbrev pub onto_set : FinSet R → List K → FinSet R
  onto_set s [] = s
  onto_set s (k ∷ ks) = set.insert (onto_set s ks) k

  onto_set_empty : (ks : List K) → onto_set set.empty ks ≡ set.from_list ks
  onto_set_empty [] = refl
  onto_set_empty (k ∷ ks) = ap (λ s. set.insert s k) (onto_set_empty ks)

  onto_set_push : (s : FinSet R) (ks : List K) (k : K) → onto_set s (ks ++ k ∷ []) ≡ onto_set (set.insert s k) ks
  onto_set_push s [] k = refl
  onto_set_push s (x ∷ xs) k = ap (λ n. set.insert n x) (onto_set_push s xs k)

  pub set_begun : (t : sorted.BTreeSet K) (ks : List K) → t.keys ≡ [] → onto_set (as_set R t) ks ≡ set.from_list ks
  set_begun t ks e = ap (λ l. onto_set (set.from_list l) ks) e ∙ onto_set_empty ks

  pub one_key_put : (s t : sorted.BTreeSet K) (left less : List K) (k : K) (all : FinSet R) → onto_set (as_set R s) left ≡ all → left ≡ less ++ k ∷ [] → as_set R t ≡ set.insert (as_set R s) k
      → onto_set (as_set R t) less ≡ all
  one_key_put s t left less k all so l p = ap (λ m. onto_set m less) p ∙ sym (onto_set_push (as_set R s) less k) ∙ ap (λ j. onto_set (as_set R s) j) (sym l) ∙ so

  pub all_keys_put : (t : sorted.BTreeSet K) (left : List K) (all : FinSet R) → onto_set (as_set R t) left ≡ all → left ≡ [] → as_set R t ≡ all
  all_keys_put t left all so e = ap (λ j. onto_set (as_set R t) j) (sym e) ∙ so
