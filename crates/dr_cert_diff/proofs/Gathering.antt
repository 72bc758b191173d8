-- What is gathered from a list, one element after another.
use Rattle.std.proofs.Common.{◌≡◌, ℕ, ◌+◌, ◌<◌, ◌⊎◌, ◌↔◌, ◌∙◌, inl, inr, refl, ap, sym, subst, List, [], ◌∷◌, ◌++◌, length, get_or, take, Contains}
use Rattle.std.specs.Prelude.{All, map}
use Rattle.std.specs.BTreeSet.{BTreeSet}
use Rattle.std.proofs.lemmas.List.{take_more}
use Rattle.std.proofs.lemmas.List.Elements.{All-push, Contains-push_cases, Contains-push, Contains-append_left, Contains-append_right, Contains-append_cases}
use Rattle.dr_base.specs.Texts.{Text}
use Rattle.dr_route.specs.Names.{HasName}
use Rattle.dr_route.specs.Cells.{SameValues}
use Rattle.dr_route.specs.Laws.{IsPart}
use Rattle.dr_route.specs.declared.cell.FieldValues.{FieldValues}
use Rattle.dr_route.specs.declared.cell.OwnedField.{OwnedField}
use Rattle.dr_route.specs.declared.cell.OwnedField.TheVariants as part
use Rattle.dr_plan_model.proofs.Gathered.{nothing_in_nil, only_one, Contains-cons_cases, Contains-here, Contains-there}
use Rattle.dr_cert_diff.specs.Differing.{values_of_both}

-- one more of which it holds
pub one_more_so : {X : Type 0} (P : X → Type 0) (xs : List X) (i : ℕ) (x : X) → i < length xs → x ≡ get_or xs i x → All P (take i xs) → P x → All P (take (i + 1) xs)
one_more_so {X} P xs i x lt at so_far here =
    let pushed : take (i + 1) xs ≡ take i xs ++ x ∷ [] = take_more xs i x lt ∙ ap (λ (e : X). take i xs ++ e ∷ []) (sym at) in
    subst (All P) (sym pushed) (All-push P (take i xs) x so_far here)

-- ---- names that aren't in a set
pub none_without : (s : BTreeSet Text) (set : List Text) → s.keys ≡ [] → (other : Text) → HasName s other ↔ (Contains [] other × (Contains set other → ⊥))
none_without s set empty other = (
  λ h. absurd (nothing_in_nil other (subst (λ (keys : List Text). Contains keys other) empty h)),
  λ w. absurd (nothing_in_nil other w.0),
)

pub more_without : (old new : BTreeSet Text) (names set : List Text) (i : ℕ) (name : Text) → i < length names → name ≡ get_or names i name →
    ((other : Text) → HasName old other ↔ (Contains (take i names) other × (Contains set other → ⊥))) →
    ((other : Text) → HasName new other ↔ (HasName old other ⊎ ((name ≡ other) × (Contains set name → ⊥)))) →
    (other : Text) → HasName new other ↔ (Contains (take (i + 1) names) other × (Contains set other → ⊥))
more_without old new names set i name lt at so_far step other =
    let pushed : take (i + 1) names ≡ take i names ++ name ∷ [] = take_more names i name lt ∙ ap (λ (e : Text). take i names ++ e ∷ []) (sym at) in (
      λ h. elim ((step other).0 h) [
        | inl earlier ↦ (let w = (so_far other).0 earlier in (subst (λ (xs : List Text). Contains xs other) (sym pushed) (Contains-append_left (take i names) (name ∷ []) other w.0), w.1))
        | inr here ↦ (subst (λ (xs : List Text). Contains xs other) (sym pushed) (subst (λ (t : Text). Contains (take i names ++ name ∷ []) t) here.0 (Contains-push (take i names) name)), subst (λ (t : Text). Contains set t → ⊥) here.0 here.1)
      ],
      λ w. elim (Contains-push_cases (take i names) name other (subst (λ (xs : List Text). Contains xs other) pushed w.0)) [
        | inl earlier ↦ (step other).1 (inl ((so_far other).1 (earlier, w.1)))
        | inr same ↦ (step other).1 (inr (same, λ among. w.1 (subst (Contains set) same among)))
      ],
    )

-- a name, unless it is in the set
pub added_unless : (old new : BTreeSet Text) (name : Text) (one set : List Text) → one ≡ name ∷ [] → (Contains set name → ⊥) → ((other : Text) → HasName new other ↔ (HasName old other ⊎ Contains one other)) →
    (other : Text) → HasName new other ↔ (HasName old other ⊎ ((name ≡ other) × (Contains set name → ⊥)))
added_unless old new name one set is out step other = (
  λ h. elim ((step other).0 h) [
    | inl earlier ↦ inl earlier
    | inr here ↦ inr (only_one name other (subst (λ (xs : List Text). Contains xs other) is here), out)
  ],
  λ h. elim h [
    | inl earlier ↦ (step other).1 (inl earlier)
    | inr here ↦ (step other).1 (inr (subst (λ (xs : List Text). Contains xs other) (sym is) (subst (λ (t : Text). Contains (name ∷ []) t) here.0 (Contains-here name []))))
  ],
)

-- ---- parts
from_map : {X Y : Type 0} (f : X → Y) (xs : List X) (y : Y) → Contains (map f xs) y → (x : X) × Contains xs x × (f x ≡ y)
from_map f [] y among = absurd (nothing_in_nil y among)
from_map f (x ∷ xs) y among = elim (Contains-cons_cases (f x) (map f xs) y among) [
  | inl same ↦ (x, Contains-here x xs, same)
  | inr later ↦ (let m = from_map f xs y later in (m.0, Contains-there x xs m.0 m.1, m.2))
]

to_map : {X Y : Type 0} (f : X → Y) (xs : List X) (x : X) → Contains xs x → Contains (map f xs) (f x)
to_map f [] x among = absurd (nothing_in_nil x among)
to_map f (y ∷ xs) x among = elim (Contains-cons_cases y xs x among) [
  | inl same ↦ subst (λ (e : _). Contains (f y ∷ map f xs) (f e)) same (Contains-here (f y) (map f xs))
  | inr later ↦ Contains-there (f y) (map f xs) (f x) (to_map f xs x later)
]

abbrev text_in : OwnedField → Text
text_in (part.Literal t) = t
text_in (part.Prefix t) = t
text_in part.Rest = []

abbrev IsSingle : OwnedField → Type 0
IsSingle (part.Literal t) = Unit {0}
IsSingle (part.Prefix t) = ⊥
IsSingle part.Rest = ⊥

abbrev IsUnder : OwnedField → Type 0
IsUnder (part.Literal t) = ⊥
IsUnder (part.Prefix t) = Unit {0}
IsUnder part.Rest = ⊥

module _ (values prefixes : List Text) where
  abbrev singles : List OwnedField
  singles = map (λ (s : Text). part.Literal s) values

  abbrev unders : List OwnedField
  unders = map (λ (s : Text). part.Prefix s) prefixes

  -- a part is one of the three kinds
  which : (field : OwnedField) → Contains (singles ++ unders ++ part.Rest ∷ []) field → Contains singles field ⊎ (Contains unders field ⊎ (part.Rest ≡ field))
  which field among = elim (Contains-append_cases (singles ++ unders) (part.Rest ∷ []) field among) [
    | inl front ↦ elim (Contains-append_cases singles unders field front) [ inl one ↦ inl one | inr under ↦ inr (inl under) ]
    | inr rest ↦ inr (inr (only_one part.Rest field rest))
  ]

  pub field_parts : (named : FieldValues) → ((t : Text) → Contains values t ↔ Contains named.literals t) → ((t : Text) → Contains prefixes t ↔ Contains named.prefixes t) → (items : List OwnedField) →
      items ≡ singles ++ unders ++ part.Rest ∷ [] → (field : OwnedField) → Contains items field ↔ IsPart named field
  field_parts named same same_prefixes items are (part.Literal t) = (
    λ among. elim (which (part.Literal t) (subst (λ (xs : List OwnedField). Contains xs (part.Literal t)) are among)) [
      | inl one ↦ (let m = from_map (λ (s : Text). part.Literal s) values (part.Literal t) one in (same t).0 (subst (Contains values) (ap text_in m.2) m.1))
      | inr other ↦ elim other [
        | inl under ↦ (let m = from_map (λ (s : Text). part.Prefix s) prefixes (part.Literal t) under in absurd (subst IsSingle (sym m.2) tt))
        | inr rest ↦ absurd (subst IsSingle (sym rest) tt)
      ]
    ],
    λ is. subst (λ (xs : List OwnedField). Contains xs (part.Literal t)) (sym are)
        (Contains-append_left (singles ++ unders) (part.Rest ∷ []) (part.Literal t) (Contains-append_left singles unders (part.Literal t) (to_map (λ (s : Text). part.Literal s) values t ((same t).1 is)))),
  )
  field_parts named same same_prefixes items are (part.Prefix t) = (
    λ among. elim (which (part.Prefix t) (subst (λ (xs : List OwnedField). Contains xs (part.Prefix t)) are among)) [
      | inl one ↦ (let m = from_map (λ (s : Text). part.Literal s) values (part.Prefix t) one in absurd (subst IsUnder (sym m.2) tt))
      | inr other ↦ elim other [
        | inl under ↦ (let m = from_map (λ (s : Text). part.Prefix s) prefixes (part.Prefix t) under in (same_prefixes t).0 (subst (Contains prefixes) (ap text_in m.2) m.1))
        | inr rest ↦ absurd (subst IsUnder (sym rest) tt)
      ]
    ],
    λ is. subst (λ (xs : List OwnedField). Contains xs (part.Prefix t)) (sym are)
        (Contains-append_left (singles ++ unders) (part.Rest ∷ []) (part.Prefix t) (Contains-append_right singles unders (part.Prefix t) (to_map (λ (s : Text). part.Prefix s) prefixes t ((same_prefixes t).1 is)))),
  )
  field_parts named same same_prefixes items are part.Rest = (
    λ among. tt,
    λ is. subst (λ (xs : List OwnedField). Contains xs part.Rest) (sym are) (Contains-append_right (singles ++ unders) (part.Rest ∷ []) part.Rest (Contains-here part.Rest [])),
  )

-- the lists have the same texts
abbrev pub Same : List Text → List Text → Type 0
Same xs ys = (t : Text) → Contains xs t ↔ Contains ys t

-- what both name, as one list
pub named_by_both : (values one other : List Text) → ((t : Text) → Contains values t ↔ (Contains one t ⊎ Contains other t)) → Same values (one ++ other)
named_by_both values one other merged t = (
  λ h. elim ((merged t).0 h) [ inl a ↦ Contains-append_left one other t a | inr b ↦ Contains-append_right one other t b ],
  λ h. (merged t).1 (Contains-append_cases one other t h),
)

same_through : (xs ys us vs : List Text) → Same xs us → Same ys vs → (t : Text) → Contains (xs ++ ys) t → Contains (us ++ vs) t
same_through xs ys us vs first second t h = elim (Contains-append_cases xs ys t h) [
  | inl a ↦ Contains-append_left us vs t ((first t).0 a)
  | inr b ↦ Contains-append_right us vs t ((second t).0 b)
]

same_both : (xs ys us vs : List Text) → Same xs us → Same ys vs → Same (xs ++ ys) (us ++ vs)
same_both xs ys us vs first second t = (
  same_through xs ys us vs first second t,
  same_through us vs xs ys (λ s. ((first s).1, (first s).0)) (λ s. ((second s).1, (second s).0)) t,
)

-- the parts of what both name, in whatever order they name it
pub parts_alike : (a b c d : FieldValues) → SameValues a c → SameValues b d → (items : List OwnedField) →
    ((field : OwnedField) → Contains items field ↔ IsPart (values_of_both a b) field) → (field : OwnedField) → Contains items field ↔ IsPart (values_of_both c d) field
parts_alike a b c d first second items are (part.Literal t) =
    let same = same_both a.literals b.literals c.literals d.literals first.literals second.literals t in
    (λ h. same.0 ((are (part.Literal t)).0 h), λ h. (are (part.Literal t)).1 (same.1 h))
parts_alike a b c d first second items are (part.Prefix t) =
    let same = same_both a.prefixes b.prefixes c.prefixes d.prefixes first.prefixes second.prefixes t in
    (λ h. same.0 ((are (part.Prefix t)).0 h), λ h. (are (part.Prefix t)).1 (same.1 h))
parts_alike a b c d first second items are part.Rest = are part.Rest
