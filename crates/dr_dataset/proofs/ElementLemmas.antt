-- A text begins with one element of the top level at most, and with none where a fault shows before one is whole.
use Rattle.std.proofs.Common.{◌≡◌, ◌≢◌, ℕ, zero, suc, ◌+◌, ◌*◌, ◌<◌, ◌≤◌, Bool, true, false, leb, List, [], ◌∷◌, ◌++◌, length, take, drop, refl, sym, ap, subst, ◌∙◌, arith, inl, inr, Option, Some, None, Result, Ok, Err, ◌⊎◌}
use Rattle.std.specs.Prelude.{option_and_then}
use Rattle.std.proofs.lemmas.List.{length-append}
use Rattle.dr_base.specs.declared.syntax.Syntax.{Syntax}
use Rattle.dr_dataset.specs.declared.fault.DataFault.{DataFault}
use Rattle.dr_dataset.specs.declared.fault.DataFault.TheVariants.{Memory}
use Rattle.dr_dataset.specs.declared.header.Tag.{Tag}
use Rattle.dr_dataset.specs.declared.frame.OpenSequence.{OpenSequence}
use Rattle.dr_dataset.specs.declared.frame.OpenSequence.TheVariants.{InSequence, InItem}
use Rattle.dr_dataset.specs.declared.token.Token.{Token}
use Rattle.dr_dataset.specs.declared.token.Token.TheVariants.{Value, Sequence, PlainItem, Item, ItemEnd, SequenceEnd}
use Rattle.dr_dataset.specs.Elements.{Element}
use Rattle.dr_dataset.specs.DataSet.{in_force, StartsTop}
use Rattle.dr_dataset.specs.Tokens.{is_nested, token_of, without_first}
use Rattle.dr_dataset.specs.Wholes.{whole, FailsAtOnce}
use Rattle.dr_dataset.proofs.TokenLemmas.{token_sound}
use Rattle.dr_dataset.proofs.NestLemmas.{sequence_nests, item_nests, nested_outer}
use Rattle.dr_dataset.proofs.WalkLemmas.{Place, at, value_by, move, move_by, move_token, walk, Walks, top_walks, opens_walk}
use Rattle.dr_dataset.proofs.OneAnswerLemmas.{meet, fault_is_stuck, open_at_most}

-- how far a place is: each element of the top level counts twice, at its begin and at its end
abbrev opened : List OpenSequence → ℕ
opened [] = 0
opened (f ∷ fs) = 1

abbrev weight : Place → ℕ
weight p = 2 * length p.done + opened p.frames

-- a place behind another one: its frames nest, it is no nearer, and it is farther where the first is at the top
abbrev IsFarther : List OpenSequence → List Element → Place → Type 0
IsFarther fs es q = (is_nested q.frames ≡ true) × (weight (at fs [] es) ≤ weight q) × (fs ≡ [] → weight (at fs [] es) < weight q)

value_farther : (b : Bool) (fs : List OpenSequence) (rest : List ℕ) (es xs : List Element) (q : Place) → is_nested fs ≡ true → length es ≤ length xs → (fs ≡ [] → length es < length xs) → value_by b fs rest xs ≡ Some q → IsFarther fs es q
value_farther false fs rest es xs q n more top e = absurd (cc)
value_farther true fs rest es xs q n more top e =
    let same : at fs rest xs ≡ q = cc in
    subst (λ (x : Place). IsFarther fs es x) same (n, omega (arith, more), λ none. omega (arith, top none))

whole_longer : (fs : List OpenSequence) (es : List Element) (t : Tag) (v : Option (List ℕ)) → (length es ≤ length (es ++ whole fs t v)) × (fs ≡ [] → length es < length (es ++ whole fs t v))
whole_longer [] es t v = (omega (arith, length-append es (whole [] t v)), λ _. omega (arith, length-append es (whole [] t v)))
whole_longer (f ∷ fs) es t v = (omega (arith, length-append es (whole (f ∷ fs) t v)), λ none. absurd (cc))

moved_to : (s : Syntax) (fs : List OpenSequence) (es : List Element) (r q : Place) → ◌≡◌ {A = Option Place} (Some r) (Some q) → IsFarther fs es r → IsFarther fs es q
moved_to s fs es r q e f = let same : r ≡ q = cc in subst (λ (x : Place). IsFarther fs es x) same f

end_farther : (s : Syntax) (fs : List OpenSequence) (es : List Element) (behind : List ℕ) (t : Tag) (w : Syntax) (outer : List OpenSequence) → is_nested fs ≡ true → fs ≡ InSequence t w ∷ outer → IsFarther fs es (at (without_first fs) behind (es ++ whole (without_first fs) t None))
end_farther s fs es behind t w outer n is =
    subst (λ (x : List OpenSequence). is_nested x ≡ true → IsFarther x es (at (without_first x) behind (es ++ whole (without_first x) t None))) (sym is) (by_outer outer) n
  where
    by_outer : (outer : List OpenSequence) → is_nested (InSequence t w ∷ outer) ≡ true → IsFarther (InSequence t w ∷ outer) es (at outer behind (es ++ whole outer t None))
    by_outer [] n = (refl, omega (arith, length-append es (whole [] t None)), λ none. absurd (cc))
    by_outer (f ∷ fs) n = (nested_outer (InSequence t w) (f ∷ fs) n, omega (arith, length-append es (whole (f ∷ fs) t None)), λ none. absurd (cc))

item_end_farther : (s : Syntax) (fs : List OpenSequence) (es : List Element) (behind : List ℕ) (w : Syntax) (outer : List OpenSequence) → is_nested fs ≡ true → fs ≡ InItem w ∷ outer → IsFarther fs es (at (without_first fs) behind es)
item_end_farther s fs es behind w outer n is =
    subst (λ (x : List OpenSequence). is_nested x ≡ true → IsFarther x es (at (without_first x) behind es)) (sym is) (by_outer outer) n
  where
    by_outer : (outer : List OpenSequence) → is_nested (InItem w ∷ outer) ≡ true → IsFarther (InItem w ∷ outer) es (at outer behind es)
    by_outer [] n = absurd (cc)
    by_outer (f ∷ fs) n = (nested_outer (InItem w) (f ∷ fs) n, omega arith, λ none. absurd (cc))

token_farther : (s : Syntax) (fs : List OpenSequence) (es : List Element) (text : List ℕ) (token : Token) (behind : List ℕ) (q : Place) → is_nested fs ≡ true → token_of s fs text ≡ Ok (token, behind) → move_token s fs es token behind ≡ Some q → IsFarther fs es q
token_farther s fs es text (Value t len) behind q n e m =
    let l = whole_longer fs es t (Some (take len behind)) in
    value_farther (leb len (length behind)) fs (drop len behind) es (es ++ whole fs t (Some (take len behind))) q n l.0 l.1 m
token_farther s fs es text (Sequence t w) behind q n e m =
    moved_to s fs es (at (InSequence t w ∷ fs) behind es) q m (sequence_nests s fs text (Sequence t w) behind t w n e refl, by_frames fs, λ none. omega (arith, ap opened none))
  where
    by_frames : (fs : List OpenSequence) → 2 * length es + opened fs ≤ 2 * length es + 1
    by_frames [] = omega arith
    by_frames (f ∷ fs) = omega arith
token_farther s [] es text (PlainItem len) behind q n e m = let next = token_sound s [] text (PlainItem len) behind e in absurd (cc next.0)
token_farther s (f ∷ fs) es text (PlainItem len) behind q n e m = value_farther (leb len (length behind)) (f ∷ fs) (drop len behind) es es q n (omega arith) (λ none. absurd (cc)) m
token_farther s [] es text Item behind q n e m = let next = token_sound s [] text Item behind e in absurd (cc next.0)
token_farther s (f ∷ fs) es text Item behind q n e m =
    moved_to s (f ∷ fs) es (at (InItem (in_force s (f ∷ fs)) ∷ f ∷ fs) behind es) q m (item_nests s (f ∷ fs) text Item behind (in_force s (f ∷ fs)) n e refl, omega arith, λ none. absurd (cc))
token_farther s fs es text ItemEnd behind q n e m =
    let next = token_sound s fs text ItemEnd behind e in
    moved_to s fs es (at (without_first fs) behind es) q m (item_end_farther s fs es behind next.0.0 next.0.1 n next.0.2)
token_farther s fs es text (SequenceEnd t) behind q n e m =
    let next = token_sound s fs text (SequenceEnd t) behind e in
    moved_to s fs es (at (without_first fs) behind (es ++ whole (without_first fs) t None)) q m (end_farther s fs es behind t next.0.0 next.0.1 n next.0.2)

move_farther : (s : Syntax) (p q : Place) (o : Result (Token × List ℕ) DataFault) → is_nested p.frames ≡ true → token_of s p.frames p.rest ≡ o → move_by s p.frames p.done o ≡ Some q → IsFarther p.frames p.done q
move_farther s p q (Err f) n e m = absurd (cc)
move_farther s p q (Ok r) n e m = token_farther s p.frames p.done p.rest r.0 r.1 q n e m

on_option : (s : Syntax) (n : ℕ) (p q : Place) (o : Option Place) → move s p ≡ o → option_and_then (walk s n) o ≡ Some q → (r : Place) × (move s p ≡ Some r) × (walk s n r ≡ Some q)
on_option s n p q None is e = absurd (cc)
on_option s n p q (Some r) is e = (r, is, e)

first_move : (s : Syntax) (n : ℕ) (p q : Place) → walk s (suc n) p ≡ Some q → (r : Place) × (move s p ≡ Some r) × (walk s n r ≡ Some q)
unfolding walk
first_move s n p q e = on_option s n p q (move s p) refl e

walk_farther : (s : Syntax) (n : ℕ) (p q : Place) → is_nested p.frames ≡ true → walk s n p ≡ Some q → weight p ≤ weight q
unfolding walk
walk_farther s zero p q n e = let same : p ≡ q = cc in omega (arith, ap weight same)
walk_farther s (suc k) p q n e =
    let m = first_move s k p q e in
    let far = move_farther s p m.0 (token_of s p.frames p.rest) n refl m.1 in
    omega (arith, far.1, walk_farther s k m.0 q far.0 m.2)

-- from the top a walk comes to another place of the same weight only by staying
same_place : (s : Syntax) (n : ℕ) (p q : Place) → p.frames ≡ [] → weight q ≤ weight p → walk s n p ≡ Some q → p ≡ q
unfolding walk
same_place s zero p q top w e = cc
same_place s (suc k) p q top w e =
    let m = first_move s k p q e in
    let nested : is_nested p.frames ≡ true = ap is_nested top in
    let far = move_farther s p m.0 (token_of s p.frames p.rest) nested refl m.1 in
    absurd (omega (arith, w, far.2 top, walk_farther s k m.0 q far.0 m.2))

-- of two places on one walk one comes first
pub ordered : (s : Syntax) (n m : ℕ) (p x y : Place) → walk s n p ≡ Some x → walk s m p ≡ Some y → Walks s x y ⊎ Walks s y x
unfolding walk
ordered s zero m p x y e f = let same : p ≡ x = cc in inl (subst (λ (q : Place). Walks s q y) same (m, f))
ordered s (suc n) zero p x y e f = let same : p ≡ y = cc in inr (subst (λ (q : Place). Walks s q x) same (suc n, e))
ordered s (suc n) (suc m) p x y e f =
    let a = first_move s n p x e in
    let b = first_move s m p y f in
    let one : a.0 ≡ b.0 = some_is a.0 b.0 (sym a.1 ∙ b.1) in
    ordered s n m a.0 x y a.2 (subst (λ (q : Place). walk s m q ≡ Some y) (sym one) b.2)
  where
    some_is : (q r : Place) → ◌≡◌ {A = Option Place} (Some q) (Some r) → q ≡ r
    some_is q r h = cc

pub one_element : (s : Syntax) (text : List ℕ) (x y : Element) (a b : List ℕ) → StartsTop s text x a → StartsTop s text y b → (x ≡ y) × (a ≡ b)
one_element s text x y a b p q =
    let u = top_walks s [] text x a p in
    let v = top_walks s [] text y b q in
    elim (ordered s u.0 v.0 (at [] text []) (at [] a (x ∷ [])) (at [] b (y ∷ [])) u.1 v.1) [
      | inl w ↦ parts (same_place s w.0 (at [] a (x ∷ [])) (at [] b (y ∷ [])) refl (omega arith) w.1)
      | inr w ↦ parts (sym (same_place s w.0 (at [] b (y ∷ [])) (at [] a (x ∷ [])) refl (omega arith) w.1))
    ]
  where
    parts : at [] a (x ∷ []) ≡ at [] b (y ∷ []) → (x ≡ y) × (a ≡ b)
    parts e = let done : x ∷ [] ≡ y ∷ [] = ap (λ (p : Place). p.done) e in (cc done, ap (λ (p : Place). p.rest) e)

pub none_where_it_fails : (s : Syntax) (text : List ℕ) (f : DataFault) (e : Element) (rest : List ℕ) → f ≢ Memory → FailsAtOnce s text f → StartsTop s text e rest → ⊥
none_where_it_fails s text f e rest ne (fs, more, o, h) starts =
    let u = opens_walk s fs text [] more o in
    let v = top_walks s [] text e rest starts in
    let w = meet s u.0 v.0 (at [] text []) (at fs more []) (at [] rest (e ∷ [])) u.1 v.1 (fault_is_stuck s fs [] more f (open_at_most s fs text [] more o) ne h) in
    not_nearer fs (walk_farther s w.0 (at [] rest (e ∷ [])) (at fs more []) refl w.1)
  where
    not_nearer : (fs : List OpenSequence) → 2 ≤ 0 + opened fs → ⊥
    not_nearer [] h = omega arith
    not_nearer (f ∷ fs) h = omega arith
