-- What the elements of a list yield, one element after another.
use Rattle.std.proofs.Common.{◌≡◌, ℕ, zero, suc, ◌+◌, ◌<◌, refl, sym, ◌∙◌, ap, map, List, [], ◌∷◌, ◌++◌, length, get_or, take, append_assoc, arith}
use Rattle.std.proofs.lemmas.List.{take_more, append-nil}
use Rattle.dr_plan_expand.specs.Lists.{Yields}

pub yields_push : {X Y : Type 0} (Of : X → List Y → Type 0) (xs : List X) (x : X) (things here : List Y) → Yields Of xs things → Of x here → Yields Of (xs ++ x ∷ []) (things ++ here)
yields_push Of [] x things here so_far of = (here, [], of, refl, ap (λ t. t ++ here) so_far ∙ sym (append-nil here))
yields_push Of (y ∷ xs) x things here so_far of =
    (so_far.0, so_far.1 ++ here, so_far.2, yields_push Of xs x so_far.1 here so_far.3 of, ap (λ t. t ++ here) so_far.4 ∙ append_assoc so_far.0 so_far.1 here)

-- one element more
pub yields_more : {X Y : Type 0} (Of : X → List Y → Type 0) (xs : List X) (i : ℕ) (x : X) (things here : List Y) → i < length xs → x ≡ get_or xs i x →
    Yields Of (take i xs) things → Of x here → Yields Of (take (i + 1) xs) (things ++ here)
yields_more Of xs i x things here lt at so_far of =
    let more : take (i + 1) xs ≡ take i xs ++ x ∷ [] = rw (← at) at (take_more xs i x lt) in
    rw more (yields_push Of (take i xs) x things here so_far of)

-- where one element yields nothing whatever, the list doesn't
pub yields_none : {X Y : Type 0} (Of : X → List Y → Type 0) (xs : List X) (i : ℕ) (x : X) (things : List Y) → i < length xs → x ≡ get_or xs i x →
    ((here : List Y) → Of x here → ⊥) → Yields Of xs things → ⊥
yields_none Of [] i x things lt at none h = omega arith
yields_none Of (y ∷ xs) zero x things lt at none h = none h.0 (rw at h.2)
yields_none Of (y ∷ xs) (suc i) x things lt at none h = yields_none Of xs i x h.1 (omega arith) at none h.3

-- elements that each yield one list yield one list
pub yields_one : {X Y : Type 0} (Of : X → List Y → Type 0) → ((x : X) (a b : List Y) → Of x a → Of x b → a ≡ b) → (xs : List X) (a b : List Y) → Yields Of xs a → Yields Of xs b → a ≡ b
yields_one Of one [] a b p q = p ∙ sym q
yields_one Of one (x ∷ xs) a b p q =
    let here = one x p.0 q.0 p.2 q.2 in
    let more = yields_one Of one xs p.1 q.1 p.3 q.3 in
    p.4 ∙ ((λ i. here i ++ more i) ∙ sym q.4)

-- what is left is added behind what was added before
pub one_moved : {X : Type 0} (out left rest whole : List X) (x : X) → left ≡ x ∷ rest → out ++ left ≡ whole → (out ++ x ∷ []) ++ rest ≡ whole
one_moved out left rest whole x split so_far = append_assoc out (x ∷ []) rest ∙ (ap (λ t. out ++ t) (sym split) ∙ so_far)

pub all_moved : {X : Type 0} (out left whole : List X) → left ≡ [] → out ++ left ≡ whole → out ≡ whole
all_moved out left whole none so_far = sym (append-nil out) ∙ (ap (λ t. out ++ t) (sym none) ∙ so_far)

pub no_items : {X : Type 0} (items : List X) (n : ℕ) → n ≡ length items → n ≡ 0 → items ≡ []
no_items [] n e none = refl
no_items (x ∷ items) n e none = absurd (let l : length (x ∷ items) ≡ 0 = sym e ∙ none in omega arith)

-- what elements yield through a map, the mapped elements yield
pub yields_mapped : {X Y Z : Type 0} (f : X → Y) (Of : Y → List Z → Type 0) (xs : List X) (things : List Z) → Yields (λ x. Of (f x)) xs things → Yields Of (map f xs) things
yields_mapped f Of [] things h = h
yields_mapped f Of (x ∷ xs) things h = (h.0, h.1, h.2, yields_mapped f Of xs h.1 h.3, h.4)

pub yields_unmapped : {X Y Z : Type 0} (f : X → Y) (Of : Y → List Z → Type 0) (xs : List X) (things : List Z) → Yields Of (map f xs) things → Yields (λ x. Of (f x)) xs things
yields_unmapped f Of [] things h = h
yields_unmapped f Of (x ∷ xs) things h = (h.0, h.1, h.2, yields_unmapped f Of xs h.1 h.3, h.4)
