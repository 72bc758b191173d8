-- The parts of a field, and their order.
use Rattle.std.proofs.Common.{◌≡◌, suc, ◌⊎◌, inl, inr, refl, sym, ap, ◌∙◌, subst, List, [], ◌∷◌, ◌++◌, Contains, map, get_or, false, arith}
use Rattle.std.specs.Prelude.{All, AllPairs}
use Rattle.std.specs.List.Sorted.{IsPermutation, IsSortedBy}
use Rattle.std.specs.Ordering.{is_lt}
use Rattle.std.specs.Cmp.Lexicographic.{nat_list_cmp_total}
use Rattle.std.proofs.lemmas.Bool.{false≢true}
use Rattle.std.proofs.lemmas.List.{append_assoc}
use Rattle.std.proofs.lemmas.List.Kept.{AllPairs-cons}
use Rattle.std.proofs.lemmas.List.Elements.{Contains-push, Contains-push_cases, Contains-append_left, Contains-append_right, Contains-append_cases, All-map}
use Rattle.std.proofs.lemmas.List.Sorted.{IsPermutation-map, IsPermutation-sym, Contains-permutation, sorted_far, ranks_by, All-permutation}
use Rattle.dr_base.specs.Texts.{Text, text_cmp}
use Rattle.dr_route.specs.declared.cell.OwnedField.{OwnedField}
use Rattle.dr_route.specs.declared.cell.OwnedField.TheVariants as field
use Rattle.dr_route.specs.declared.cell.FieldValues.{FieldValues}
use Rattle.dr_plan_model.proofs.Gathered.{nothing_in_nil, Contains-cons_cases, Contains-here, Contains-there, only_one}
use Rattle.dr_plan_sound.specs.Printed.{printed_field}
use Rattle.dr_plan_entries.specs.declared.fields.ShownPart.{ShownPart}
use Rattle.dr_plan_entries.specs.Entering.{ArePartsOf, HasItsText, part_of}
use Rattle.dr_plan_entries.specs.InOrder.{IsLess, IsInPrintedOrder}

-- what one more of the texts makes
pub made_more : {X : Type 0} (f : Text → X) (first now : List X) (texts : List Text) (text : Text) → now ≡ first ++ map f texts → now ++ f text ∷ [] ≡ first ++ map f (texts ++ text ∷ [])
made_more f first now texts text so_far =
    ap (λ xs. xs ++ f text ∷ []) so_far ∙ (append_assoc first (map f texts) (f text ∷ []) ∙ ap (λ xs. first ++ xs) (sym (pushed texts))) where
      pushed : (ts : List Text) → map f (ts ++ text ∷ []) ≡ map f ts ++ f text ∷ []
      pushed [] = refl
      pushed (t ∷ ts) = ap (λ xs. f t ∷ xs) (pushed ts)

pub map_push : {X Y : Type 0} (f : X → Y) (xs : List X) (x : X) → map f (xs ++ x ∷ []) ≡ map f xs ++ f x ∷ []
map_push f [] x = refl
map_push f (y ∷ xs) x = ap (λ ys. f y ∷ ys) (map_push f xs x)

-- the parts that the three lists make
abbrev pub all_of : FieldValues → List OwnedField
all_of values = map (λ l. field.Literal l) values.literals ++ map (λ p. field.Prefix p) values.prefixes ++ field.Rest ∷ []

in_map : {X : Type 0} (f : Text → X) (texts : List Text) (t : Text) → Contains texts t → Contains (map f texts) (f t)
in_map f [] t has = absurd (nothing_in_nil t has)
in_map f (u ∷ texts) t has = elim (Contains-cons_cases u texts t has) [
  | inl same ↦ (let P : Text → Type 0 = λ x. Contains (f u ∷ map f texts) (f x) in subst P same (Contains-here (f u) (map f texts)))
  | inr later ↦ Contains-there (f u) (map f texts) (f t) (in_map f texts t later)
]

from_map : {X : Type 0} (f : Text → X) (texts : List Text) (x : X) → Contains (map f texts) x → (t : Text) × Contains texts t × (f t ≡ x)
from_map f [] x has = absurd (nothing_in_nil x has)
from_map f (u ∷ texts) x has = elim (Contains-cons_cases (f u) (map f texts) x has) [
  | inl same ↦ (u, Contains-here u texts, same)
  | inr later ↦ let found = from_map f texts x later in (found.0, Contains-there u texts found.0 found.1, found.2)
]

abbrev text_in : OwnedField → List Text
text_in (field.Literal l) = l ∷ []
text_in (field.Prefix p) = p ∷ []
text_in field.Rest = []

abbrev IsLiteralPart : OwnedField → Type 0
IsLiteralPart (field.Literal l) = Unit {0}
IsLiteralPart (field.Prefix p) = ⊥
IsLiteralPart field.Rest = ⊥

abbrev IsPrefixPart : OwnedField → Type 0
IsPrefixPart (field.Literal l) = ⊥
IsPrefixPart (field.Prefix p) = Unit {0}
IsPrefixPart field.Rest = ⊥

one_text : (a b : Text) → (a ∷ []) ≡ (b ∷ []) → a ≡ b
one_text a b e = only_one a b (subst (λ (ts : List Text). Contains ts b) (sym e) (Contains-here b []))

abbrev literals_of : FieldValues → List OwnedField
literals_of values = map (λ l. field.Literal l) values.literals

abbrev prefixes_of : FieldValues → List OwnedField
prefixes_of values = map (λ p. field.Prefix p) values.prefixes

three_cases : (values : FieldValues) (part : OwnedField) → Contains (literals_of values ++ prefixes_of values) part ⊎ (field.Rest ≡ part) →
    (Contains (literals_of values) part ⊎ Contains (prefixes_of values) part) ⊎ (field.Rest ≡ part)
three_cases values part (inl before) = inl (Contains-append_cases (literals_of values) (prefixes_of values) part before)
three_cases values part (inr same) = inr same

-- where a part stands among all of them
three : (values : FieldValues) (part : OwnedField) → Contains (all_of values) part →
    (Contains (literals_of values) part ⊎ Contains (prefixes_of values) part) ⊎ (field.Rest ≡ part)
three values part has = three_cases values part (Contains-push_cases (literals_of values ++ prefixes_of values) field.Rest part has)

is_rest_only : (part : OwnedField) → field.Rest ≡ part → text_in part ≡ []
is_rest_only part same = sym (ap text_in same)

some_text : (t : Text) → (t ∷ []) ≡ [] → ⊥
some_text t e = nothing_in_nil t (subst (λ (ts : List Text). Contains ts t) e (Contains-here t []))

pub all_are_parts : (values : FieldValues) → ArePartsOf values (all_of values)
all_are_parts values (field.Literal l) = (
  λ has. elim (three values (field.Literal l) has) [
    | inl before ↦ elim before [
      | inl x ↦
          let found = from_map (λ t. field.Literal t) values.literals (field.Literal l) x in
          subst (λ (t : Text). Contains values.literals t) (one_text found.0 l (ap text_in found.2)) found.1
      | inr x ↦
          let found = from_map (λ t. field.Prefix t) values.prefixes (field.Literal l) x in
          absurd (subst IsPrefixPart found.2 tt)
    ]
    | inr same ↦ absurd (some_text l (is_rest_only (field.Literal l) same))
  ],
  λ has. Contains-append_left (literals_of values ++ prefixes_of values) (field.Rest ∷ []) (field.Literal l)
      (Contains-append_left (literals_of values) (prefixes_of values) (field.Literal l) (in_map (λ t. field.Literal t) values.literals l has)),
)
all_are_parts values (field.Prefix p) = (
  λ has. elim (three values (field.Prefix p) has) [
    | inl before ↦ elim before [
      | inl x ↦
          let found = from_map (λ t. field.Literal t) values.literals (field.Prefix p) x in
          absurd (subst IsLiteralPart found.2 tt)
      | inr x ↦
          let found = from_map (λ t. field.Prefix t) values.prefixes (field.Prefix p) x in
          subst (λ (t : Text). Contains values.prefixes t) (one_text found.0 p (ap text_in found.2)) found.1
    ]
    | inr same ↦ absurd (some_text p (is_rest_only (field.Prefix p) same))
  ],
  λ has. Contains-append_left (literals_of values ++ prefixes_of values) (field.Rest ∷ []) (field.Prefix p)
      (Contains-append_right (literals_of values) (prefixes_of values) (field.Prefix p) (in_map (λ t. field.Prefix t) values.prefixes p has)),
)
all_are_parts values field.Rest = (λ has. tt, λ is. Contains-push (literals_of values ++ prefixes_of values) field.Rest)

-- sorting keeps the parts
pub sorted_parts : (values : FieldValues) (before after : List ShownPart) → map part_of before ≡ all_of values → IsPermutation before after → ArePartsOf values (map part_of after)
sorted_parts values before after all moved part =
    let is = all_are_parts values part in
    let there : IsPermutation (map part_of before) (map part_of after) = IsPermutation-map part_of before after moved in
    let P : List OwnedField → Type 0 = λ ps. Contains ps part in (
      λ has. is.0 (subst P all (Contains-permutation (map part_of after) (map part_of before) part (IsPermutation-sym (map part_of before) (map part_of after) there) has)),
      λ is_part. Contains-permutation (map part_of before) (map part_of after) part there (subst P (sym all) (is.1 is_part)),
    )

AllPairs-map : {X Y : Type 0} (f : X → Y) (R : Y → Y → Type 0) (xs : List X) → AllPairs (λ a b. R (f a) (f b)) xs → AllPairs R (map f xs)
AllPairs-map f R [] h = λ i j d lt long. absurd (omega (arith, long))
AllPairs-map f R (x ∷ xs) h =
    AllPairs-cons R (f x) (map f xs) (All-map (R (f x)) f xs (λ k d lt. h 0 (suc k) d (omega arith) (omega (arith, lt))))
    (AllPairs-map f R xs (λ i j d lt long. h (suc i) (suc j) d (omega (arith, lt)) (omega (arith, long))))

-- what was sorted by texts that are its own stands in the order in which it is printed
pub sorted_shown : (before after : List ShownPart) → All HasItsText before → IsPermutation before after → IsSortedBy (λ (a b : ShownPart). is_lt (text_cmp a.text b.text)) after →
    IsInPrintedOrder printed_field (map part_of after)
sorted_shown before after texts moved sorted =
    let known : All HasItsText after = All-permutation HasItsText before after moved texts in
    AllPairs-map part_of (λ a b. IsLess (printed_field b) (printed_field a) → ⊥) after
    (λ i j d lt long less.
    let up : is_lt (text_cmp (get_or after j d).text (get_or after i d).text) ≡ false =
    sorted_far (λ (a b : ShownPart). is_lt (text_cmp a.text b.text)) (ranks_by nat_list_cmp_total (λ (s : ShownPart). s.text)) after sorted i j d (omega (arith, lt)) long in
    let none : is_lt (text_cmp (printed_field (get_or after j d).part) (printed_field (get_or after i d).part)) ≡ false =
    rw (← known i d (omega (arith, lt, long)), ← known j d long) up in
    false≢true (sym none ∙ ap is_lt less))
