-- The first value of a tag, behind one more element.
use Rattle.std.proofs.Common.{◌≡◌, ℕ, Bool, true, false, cond, List, [], ◌∷◌, ◌++◌, refl, sym, ap, ◌∙◌, Option, Some, None}
use Rattle.std.specs.Prelude.{option_map, unwrap_or, find}
use Rattle.std.specs.Option.{option_or}
use Rattle.std.proofs.lemmas.List.Folds.{find-append}
use Rattle.dr_dataset.specs.Elements.{Element}
use Rattle.dr_dataset.specs.DataSet.{has_tag, first_value}

value_of : Element → List ℕ
value_of e = unwrap_or e.value []

one_more : (f : Element → List ℕ) (o : Option Element) (b : Bool) (x : Element) → option_map f (option_or o (cond b (Some x) None)) ≡ option_or (option_map f o) (cond b (Some (f x)) None)
one_more f None true x = refl
one_more f None false x = refl
one_more f (Some y) true x = refl
one_more f (Some y) false x = refl

pub first_value_more : (group element : ℕ) (es : List Element) (x : Element) →
    first_value group element (es ++ x ∷ []) ≡ option_or (first_value group element es) (cond (has_tag group element x.tag) (Some (unwrap_or x.value [])) None)
first_value_more group element es x =
    let p : Element → Bool = λ (e : Element). has_tag group element e.tag in
    let f : Element → List ℕ = λ (e : Element). unwrap_or e.value [] in
    ap (option_map f) (find-append p es (x ∷ [])) ∙ one_more f (find p es) (has_tag group element x.tag) x

pub found_more : (group element : ℕ) (es : List Element) (x : Element) (found result : Option (List ℕ)) (is_it : Bool) (bytes : List ℕ) → found ≡ first_value group element es → is_it ≡ has_tag group element x.tag → bytes ≡ unwrap_or x.value []
    → result ≡ option_or found (cond is_it (Some bytes) None) → result ≡ first_value group element (es ++ x ∷ [])
found_more group element es x found result is_it bytes f b v r =
    r ∙ ap (λ (o : Option (List ℕ)). option_or o (cond is_it (Some bytes) None)) f
    ∙ ap (λ (o : Bool). option_or (first_value group element es) (cond o (Some bytes) None)) b
    ∙ ap (λ (o : List ℕ). option_or (first_value group element es) (cond (has_tag group element x.tag) (Some o) None)) v
    ∙ sym (first_value_more group element es x)
