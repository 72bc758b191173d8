-- How long items are.
use Rattle.std.proofs.Common.{◌≡◌, ◌≢◌, ℕ, ◌+◌, ◌<◌, ◌≤◌, ◌^◌, List, [], ◌∷◌, length, map, filter, Bool, true, false, cond, eqb, Some, slice_get, refl, sym, ap, ◌∙◌, arith}
use Rattle.std.specs.List.{flat_map, AllByRecursion}
use Rattle.std.proofs.lemmas.List.{length-append}
use Rattle.std.proofs.lemmas.Bool.{eqb-true}
use Rattle.dr_pdu.specs.Items.{Item, AreItems, bodies, first_body}
use Rattle.dr_pdu.specs.Written.{item}
use Rattle.dr_pdu.specs.Fitting.{weight}

pub total : List Item → ℕ
total [] = 0
total (x ∷ xs) = (4 + length x.body) + total xs

-- the length of a text is that of its items
pub text_total : (is : List Item) (text : List ℕ) → AreItems is text → length text ≡ total is
unfolding total
text_total [] text h = ap (λ (t : List ℕ). length t) h
text_total (x ∷ xs) text h =
    let whole = ap (λ (t : List ℕ). length t) h.1.2 in
    omega (arith, whole, length-append x.body h.0, text_total xs h.0 h.2)

-- each length fits its two bytes
pub bodies_small : (kind : ℕ) (is : List Item) (text : List ℕ) → AreItems is text → AllByRecursion (λ (b : List ℕ). length b < 2 ^ 16) (bodies kind is)
bodies_small kind [] text h = tt
bodies_small kind (x ∷ xs) text h = at_head (eqb x.kind kind) (bodies_small kind xs h.0 h.2)
  where
    at_head : (t : Bool) → AllByRecursion (λ (b : List ℕ). length b < 2 ^ 16) (bodies kind xs) → AllByRecursion (λ (b : List ℕ). length b < 2 ^ 16) (map (λ (i : Item). i.body) (cond t (x ∷ filter (λ (i : Item). eqb i.kind kind) xs) (filter (λ (i : Item). eqb i.kind kind) xs)))
    at_head true k = (h.1.1, k)
    at_head false k = k

kinds_apart : (a b c : ℕ) → b ≢ c → eqb a b ≡ true → eqb a c ≡ true → ⊥
kinds_apart a b c h p q = h (sym (eqb-true a b p) ∙ eqb-true a c q)

-- the weight of one type, where the first item is or isn't of it
abbrev some_of : Item → List Item → Bool → ℕ → ℕ
some_of x xs t kind = weight (map (λ (y : Item). y.body) (cond t (x ∷ filter (λ (y : Item). eqb y.kind kind) xs) (filter (λ (y : Item). eqb y.kind kind) xs)))

-- the items of three types are among all items
pub three_kinds : (i j k : ℕ) → i ≢ j → i ≢ k → j ≢ k → (is : List Item) → (weight (bodies i is) + weight (bodies j is)) + weight (bodies k is) ≤ total is
unfolding total
three_kinds i j k ij ik jk [] = omega arith
three_kinds i j k ij ik jk (x ∷ xs) =
    at_head (eqb x.kind i) (eqb x.kind j) (eqb x.kind k) (kinds_apart x.kind i j ij) (kinds_apart x.kind i k ik) (kinds_apart x.kind j k jk) (three_kinds i j k ij ik jk xs)
  where
    at_head : (a b c : Bool) → (a ≡ true → b ≡ true → ⊥) → (a ≡ true → c ≡ true → ⊥) → (b ≡ true → c ≡ true → ⊥)
        → (weight (bodies i xs) + weight (bodies j xs)) + weight (bodies k xs) ≤ total xs → (some_of x xs a i + some_of x xs b j) + some_of x xs c k ≤ (4 + length x.body) + total xs
    at_head true true c p q r h = absurd (p refl refl)
    at_head true false true p q r h = absurd (q refl refl)
    at_head true false false p q r h = omega arith
    at_head false true true p q r h = absurd (r refl refl)
    at_head false true false p q r h = omega arith
    at_head false false true p q r h = omega arith
    at_head false false false p q r h = omega arith

-- the first of a type is among those of the type
pub first_weight : (kind : ℕ) (is : List Item) (b : List ℕ) → first_body kind is ≡ Some b → 4 + length b ≤ weight (bodies kind is)
first_weight kind is b h = by_list (bodies kind is) h
  where
    by_list : (bs : List (List ℕ)) → slice_get bs 0 ≡ Some b → 4 + length b ≤ weight bs
    by_list [] h = absurd (cc)
    by_list (c ∷ cs) h = let e : c ≡ b = cc in let n = ap (λ (t : List ℕ). length t) e in omega arith

pub first_small : (kind : ℕ) (is : List Item) (b : List ℕ) → first_body kind is ≡ Some b → AllByRecursion (λ (c : List ℕ). length c < 2 ^ 16) (bodies kind is) → length b < 2 ^ 16
first_small kind is b h small = by_list (bodies kind is) h small
  where
    by_list : (bs : List (List ℕ)) → slice_get bs 0 ≡ Some b → AllByRecursion (λ (c : List ℕ). length c < 2 ^ 16) bs → length b < 2 ^ 16
    by_list [] h small = absurd (cc)
    by_list (c ∷ cs) h small = let e : c ≡ b = cc in let n = ap (λ (t : List ℕ). length t) e in omega (arith, n, small.0)

pub length_of_bodies : (kind : ℕ) (bs : List (List ℕ)) → length (flat_map (item kind) bs) ≡ weight bs
length_of_bodies kind [] = refl
length_of_bodies kind (b ∷ bs) = omega (arith, length-append b (flat_map (item kind) bs), length_of_bodies kind bs)

pub length_of_items : {C : Type 0} (kind : ℕ) (body_of : C → List ℕ) (cs : List C) → length (flat_map (λ (c : C). item kind (body_of c)) cs) ≡ weight (map body_of cs)
length_of_items kind body_of [] = refl
length_of_items {C} kind body_of (c ∷ cs) = omega (arith, length-append (body_of c) (flat_map (λ (x : C). item kind (body_of x)) cs), length_of_items kind body_of cs)

-- what is light has small parts
pub small_parts : (n : ℕ) (bs : List (List ℕ)) → weight bs < n → AllByRecursion (λ (b : List ℕ). length b < n) bs
small_parts n [] h = tt
small_parts n (b ∷ bs) h = (omega arith, small_parts n bs (omega arith))
