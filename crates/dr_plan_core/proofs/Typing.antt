-- Written parts that are given types one after another.
use Rattle.std.proofs.Common.{◌≡◌, refl, sym, ◌∙◌, ap, List, [], ◌∷◌, ◌++◌, map, ℕ, length, arith}
use Rattle.std.specs.Prelude.{All}
use Rattle.std.proofs.lemmas.List.{append-nil}
use Rattle.std.proofs.lemmas.List.Elements.{All-head, All-tail}

-- some have a type, and those that are left have the property
pub record Left {X Y : Type 0} (written : X → Y) (P : Y → Type 0) (parts : List Y) (typed : List X) (left : List Y) : Type 0 where
  pub split : map written typed ++ left ≡ parts
  pub known : All P left

pub all_left : {X Y : Type 0} (written : X → Y) (P : Y → Type 0) (parts : List Y) (typed : List X) (left : List Y) → typed ≡ [] → left ≡ parts → All P parts → Left written P parts typed left
all_left written P parts typed left none e known = record { split = rw none e; known = rw e known }

pub next_known : {X Y : Type 0} (written : X → Y) (P : Y → Type 0) (parts : List Y) (typed : List X) (left rest : List Y) (y : Y) → Left written P parts typed left → left ≡ y ∷ rest → P y
next_known written P parts typed left rest y so_far e = All-head P y rest (rw e at so_far.known)

map_push : {X Y : Type 0} (f : X → Y) (xs : List X) (x : X) (ys : List Y) → map f (xs ++ x ∷ []) ++ ys ≡ map f xs ++ f x ∷ ys
map_push f [] x ys = refl
map_push f (z ∷ xs) x ys = ap (λ t. f z ∷ t) (map_push f xs x ys)

pub one_less : {X Y : Type 0} (written : X → Y) (P : Y → Type 0) (parts : List Y) (typed : List X) (left rest : List Y) (x : X) (y : Y) →
    Left written P parts typed left → left ≡ y ∷ rest → written x ≡ y → Left written P parts (typed ++ x ∷ []) rest
one_less written P parts typed left rest x y so_far e same = record {
  split = map_push written typed x rest ∙ ap (λ t. map written typed ++ t ∷ rest) same ∙ rw e at so_far.split;
  known = All-tail P y rest (rw e at so_far.known);
}

pub none_left : {X Y : Type 0} (written : X → Y) (P : Y → Type 0) (parts : List Y) (typed : List X) (left : List Y) → Left written P parts typed left → left ≡ [] → map written typed ≡ parts
none_left written P parts typed left so_far e = sym (append-nil (map written typed)) ∙ rw e at so_far.split

pub no_items : {X : Type 0} (items : List X) (n : ℕ) → n ≡ length items → n ≡ 0 → items ≡ []
no_items [] n e zero = refl
no_items (x ∷ items) n e zero = absurd (let l : length (x ∷ items) ≡ 0 = sym e ∙ zero in omega arith)
