-- Names of a list, and characters.
use Rattle.std.proofs.Common.{◌≡◌, ◌∙◌, ap, sym, subst, refl, ℕ, ◌+◌, ◌<◌, List, [], ◌∷◌, ◌++◌, take, length, get_or, map}
use Rattle.std.specs.Prelude.{Some}
use Rattle.std.proofs.lemmas.List.{take_more}
use Rattle.serde_json.specs.View.{items_view, view}
use Rattle.serde_json.specs.declared.value.Value.{Value}
use Rattle.dr_base.specs.Texts.{Text}
use Rattle.dr_word_audit_at.specs.Saying.{AreNames, name_in}

-- one name more
one_value : (values : List Value) (names : List Text) (value : Value) (name : Text) → AreNames (items_view values) names → name_in (view value) ≡ Some name → AreNames (items_view (values ++ value ∷ [])) (names ++ name ∷ [])
one_value [] [] value name h says = (says, tt)
one_value [] (x ∷ xs) value name h says = absurd h
one_value (v ∷ vs) [] value name h says = absurd h
one_value (v ∷ vs) (x ∷ xs) value name h says = (h.0, one_value vs xs value name h.1 says)

-- the same in a loop
pub one_named : (list : List Value) (i : ℕ) (value : Value) (names : List Text) (name : Text) → i < length list → value ≡ get_or list i value → AreNames (items_view (take i list)) names → name_in (view value) ≡ Some name
    → AreNames (items_view (take (i + 1) list)) (names ++ name ∷ [])
one_named list i value names name lt is h says =
    let e : take i list ++ value ∷ [] ≡ take (i + 1) list = ap (λ (v : Value). take i list ++ v ∷ []) is ∙ sym (take_more list i value lt) in
    subst (λ (vs : List Value). AreNames (items_view vs) (names ++ name ∷ [])) e (one_value (take i list) names value name h says)

-- a list as it is
pub as_it_is : (xs : List ℕ) → map (λ c. c) xs ≡ xs
as_it_is [] = refl
as_it_is (x ∷ xs) = ap (λ more. x ∷ more) (as_it_is xs)
