-- Texts that name no value.
use Rattle.std.proofs.Common.{◌≡◌, ◌<◌, ◌≤◌, refl, sym, ◌∙◌, ap, subst, ℕ, [], ◌∷◌, ◌++◌, codes, length, get_or, Contains, arith, length-append, lit<}
use Rattle.std.proofs.lemmas.List.{append_cancel_right, get_or_push}
use Rattle.std.proofs.lemmas.List.Elements.{All-contains}
use Rattle.dr_base.specs.Texts.{Text}
use Rattle.dr_plan_model.specs.Formed.{IsLiteral, IsPrefix}
use Rattle.dr_plan_text.specs.Laws.{StarNamesNone, StarsInsideNameNone, SpacesNameNone}
use Rattle.dr_plan_text.proofs.OfValues.{no_text_named}

-- no literal has an asterisk
pub no_star_within : (text : Text) → Contains text 42 → IsLiteral text → ⊥
no_star_within text among is =
    let plain = All-contains (λ (byte : ℕ). (32 ≤ byte) × (byte < 127) × (byte ≡ 42 → ⊥)) text 42 is.printable among in
    plain.2 refl

-- what stands before the asterisk is the one text that does, so that it is a prefix only if that is
no_other_prefix : (front : Text) → (IsPrefix front → ⊥) → (prefix : Text) → front ++ 42 ∷ [] ≡ prefix ++ 42 ∷ [] → IsPrefix prefix → ⊥
no_other_prefix front none prefix same is = none (subst IsPrefix (sym (append_cancel_right front prefix (42 ∷ []) same)) is)

pub star_alone : StarNamesNone
star_alone = no_text_named (codes "*") (no_star_within (codes "*") (0, lit< tt, refl)) (no_other_prefix [] (λ is. is.some refl))

-- a text of three bytes doesn't end in an asterisk where its third byte is none
no_star_third : (text prefix : Text) → length text ≡ 3 → (get_or text 2 0 ≡ 42 → ⊥) → text ≡ prefix ++ 42 ∷ [] → ⊥
no_star_third text prefix three other same =
    let l : length prefix ≡ 2 = omega (arith, three, ap (λ (t : Text). length t) same, length-append prefix (42 ∷ [])) in
    other (ap (λ (t : Text). get_or t 2 0) same ∙ get_or_push prefix 42 0 2 l)

pub stars_inside : StarsInsideNameNone
stars_inside = (
  no_text_named (codes "C*T") (no_star_within (codes "C*T") (1, lit< tt, refl)) (λ prefix same is. no_star_third (codes "C*T") prefix refl (λ e. omega arith) same),
  no_text_named (codes "CT **") (no_star_within (codes "CT **") (3, lit< tt, refl)) (no_other_prefix (codes "CT *") (λ is. no_star_within (codes "CT *") (3, lit< tt, refl) is.literal)),
)

pub spaces : SpacesNameNone
spaces = (
  no_text_named (codes " CT*") (no_star_within (codes " CT*") (3, lit< tt, refl)) (no_other_prefix (codes " CT") (λ is. (is.literal.trimmed (codes "CT")).0 refl)),
  no_text_named (codes "CT *") (no_star_within (codes "CT *") (3, lit< tt, refl)) (no_other_prefix (codes "CT ") (λ is. (is.literal.trimmed (codes "CT")).1 refl)),
)
