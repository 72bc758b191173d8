-- A set in byte order is one list.
use Rattle.std.proofs.Common.{◌≡◌, refl, sym, ap, subst, ◌∙◌, inl, inr, List, [], ◌∷◌, Contains}
use Rattle.std.specs.Prelude.{◌↔◌}
use Rattle.std.specs.List.{AllByRecursion}
use Rattle.std.specs.List.Sorted.{IsStrictlySortedBy}
use Rattle.std.specs.Ordering.{ordering_reverse}
use Rattle.std.specs.declared.cmp.Ordering.{Ordering}
use Rattle.std.specs.declared.cmp.Ordering.TheVariants.{Less, Equal, Greater}
use Rattle.std.specs.Cmp.{tied_itself}
use Rattle.std.specs.Cmp.Lexicographic.{nat_list_cmp_total}
use Rattle.dr_base.specs.Texts.{Text, text_cmp, IsInByteOrder}
use Rattle.dr_plan_model.proofs.Gathered.{nothing_in_nil, Contains-cons_cases, Contains-there, Contains-here}
use Rattle.dr_plan_text.specs.Fields.{SaysFormed}
use Rattle.dr_plan_text.proofs.OneAnswer.{SaysOne, SaysFormed-one, IsListOf-one}
use Rattle.dr_plan_model.specs.Formed.{IsLiteral}
use Rattle.dr_plan_expand.specs.Fields.{IsSetOf, SaysStations}

below_all_of : (x : Text) (xs : List Text) (y : Text) → AllByRecursion (λ z. text_cmp x z ≡ Less) xs → Contains xs y → text_cmp x y ≡ Less
below_all_of x [] y h among = absurd (nothing_in_nil y among)
below_all_of x (z ∷ xs) y h among = elim (Contains-cons_cases z xs y among) [
  | inl same ↦ subst (λ t. text_cmp x t ≡ Less) same h.0
  | inr later ↦ below_all_of x xs y h.1 later
]

not_less_itself : (x : Text) → text_cmp x x ≡ Less → ⊥
not_less_itself x h = let e : Less ≡ Equal = sym h ∙ tied_itself nat_list_cmp_total x in cc e

not_both_less : (x y : Text) → text_cmp x y ≡ Less → text_cmp y x ≡ Less → ⊥
not_both_less x y a b = let e : Less ≡ Greater = sym a ∙ (nat_list_cmp_total.antisymm x y ∙ ap ordering_reverse b) in cc e

-- lists in byte order with the same texts are equal
one_list : (xs ys : List Text) → IsInByteOrder xs → IsInByteOrder ys → ((t : Text) → Contains xs t ↔ Contains ys t) → xs ≡ ys
unfolding IsStrictlySortedBy
one_list [] [] s t same = refl
one_list [] (y ∷ ys) s t same = absurd (nothing_in_nil y ((same y).1 (Contains-here y ys)))
one_list (x ∷ xs) [] s t same = absurd (nothing_in_nil x ((same x).0 (Contains-here x xs)))
one_list (x ∷ xs) (y ∷ ys) s t same =
    let heads : x ≡ y = elim (Contains-cons_cases y ys x ((same x).0 (Contains-here x xs))) [
      | inl e ↦ sym e
      | inr x_later ↦ elim (Contains-cons_cases x xs y ((same y).1 (Contains-here y ys))) [
        | inl e ↦ e
        | inr y_later ↦ absurd (not_both_less x y (below_all_of x xs y s.0 y_later) (below_all_of y ys x t.0 x_later))
      ]
    ] in
    let tails : xs ≡ ys = one_list xs ys s.1 t.1 (λ z. (
      λ h. elim (Contains-cons_cases y ys z ((same z).0 (Contains-there x xs z h))) [
        | inl e ↦ absurd (not_less_itself x (ap (λ w. text_cmp x w) (heads ∙ e) ∙ below_all_of x xs z s.0 h))
        | inr later ↦ later
      ],
      λ h. elim (Contains-cons_cases x xs z ((same z).1 (Contains-there y ys z h))) [
        | inl e ↦ absurd (not_less_itself y (ap (λ w. text_cmp y w) (sym heads ∙ e) ∙ below_all_of y ys z t.0 h))
        | inr later ↦ later
      ],
    )) in
    ap (λ (z : Text). z ∷ xs) heads ∙ ap (λ (zs : List Text). y ∷ zs) tails

-- the set of some texts is one
set_one : (texts xs ys : List Text) → IsSetOf texts xs → IsSetOf texts ys → xs ≡ ys
set_one texts xs ys a b = one_list xs ys a.ordered b.ordered (λ t. (λ h. (b.same t).1 ((a.same t).0 h), λ h. (a.same t).1 ((b.same t).0 h)))

-- a value says one set of stations
pub SaysStations-one : SaysOne SaysStations
SaysStations-one d xs ys a b =
    let same : a.0 ≡ b.0 = IsListOf-one (SaysFormed IsLiteral) (SaysFormed-one IsLiteral) d a.0 b.0 a.1 b.1 in
    let P : List Text → Type 0 = λ texts. IsSetOf texts xs in
    set_one b.0 xs ys (subst P same a.2) b.2
