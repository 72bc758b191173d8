-- Rows of parts that flows list.
use Rattle.std.proofs.Common.{◌≡◌, ℕ, zero, suc, ◌<◌, ◌⊎◌, inl, inr, refl, sym, ◌∙◌, ap, subst, List, [], ◌∷◌, ◌++◌, length, get_or, map, Contains, Some, arith}
use Rattle.std.specs.Prelude.{slice_get, ◌==◌, ◌↔◌, true}
use Rattle.std.proofs.Math.Dec.{eqb-suc-zero}
use Rattle.std.proofs.lemmas.Bool.{false≢true}
use Rattle.std.proofs.lemmas.Option.{same_Some, slice_get_within, get_or_from_slice_get}
use Rattle.std.proofs.lemmas.List.{length-map}
use Rattle.std.proofs.lemmas.List.Elements.{Contains-push_cases}
use Rattle.dr_base.specs.Texts.{Text, IsInByteOrder}
use Rattle.dr_route.specs.declared.cell.OwnedField.{OwnedField}
use Rattle.dr_route.specs.declared.cell.OwnedField.TheVariants as part
use Rattle.dr_route.specs.declared.cell.FieldValues.{FieldValues}
use Rattle.dr_route.specs.Laws.{IsPart}
use Rattle.dr_plan_model.specs.Networks.{Network}
use Rattle.dr_plan_model.specs.declared.plan.Flow.{Flow}
use Rattle.dr_plan_model.specs.declared.plan.Values.{Values}
use Rattle.dr_plan_model.specs.declared.plan.Values.TheVariants as values
use Rattle.dr_plan_model.specs.declared.listed.Listed.{Listed}
use Rattle.dr_plan_model.specs.declared.literals.Attribute.TheVariants as attribute
use Rattle.dr_plan_model.specs.Naming.{listed_literals}
use Rattle.dr_plan_model.specs.Listings.{IsListedBy}
use Rattle.dr_plan_model.specs.Walks.{BeginsOne}
use Rattle.dr_plan_model.proofs.Gathered.{nothing_in_nil, Contains-cons_cases, Contains-here, Contains-there}
use Rattle.dr_plan_model.proofs.WalksAlike.{flow_names}
use Rattle.dr_plan_sound.specs.Printed.{printed_field}
use Rattle.dr_plan_entries.specs.declared.rows.FlowSide.{FlowSide}
use Rattle.dr_plan_entries.specs.declared.rows.FlowSide.TheVariants.{Modality, Station}
use Rattle.dr_plan_entries.specs.Entering.{AdmitsField, IsLiteralOf}
use Rattle.dr_plan_entries.specs.InOrder.{IsLess, IsInPrintedOrder}
use Rattle.dr_plan_entries.specs.Listing.{TakesListed, TakesAtMost, TakesJust, SomeLists, AreNamed, IsRow, values_of, named_of, set_of, listed_of}
use Rattle.dr_plan_entries.proofs.Orders.{byte_order_is_printed}

-- ---- what one flow lists
no_prefix : (prefixes : List Text) (t : Text) → length prefixes ≡ 0 → BeginsOne prefixes t → ⊥
no_prefix prefixes t none begun = let lt : begun.1.0 < length prefixes = begun.1.1 in omega (arith, none, lt)

own_literals : (own : FieldValues) → length own.prefixes ≡ 0 → (one : OwnedField) → AdmitsField (values.Listed own) one → IsLiteralOf own.literals one
own_literals own none (part.Literal literal) (inl h) = h
own_literals own none (part.Literal literal) (inr begun) = absurd (no_prefix own.prefixes literal none begun)
own_literals own none (part.Prefix prefix) begun = absurd (no_prefix own.prefixes prefix none begun)
own_literals own none part.Rest h = h

pub takes_listed : (v : Values) (own : FieldValues) → v ≡ values.Listed own → length own.prefixes ≡ 0 → TakesListed v (listed_literals v)
takes_listed v own is none = let P : Values → Type 0 = λ x. TakesListed x (listed_literals x) in subst P (sym is) (own_literals own none)

pub is_none : (texts : List Text) → (length texts == 0) ≡ true → length texts ≡ 0
is_none [] e = refl
is_none (t ∷ texts) e = absurd (false≢true (sym (eqb-suc-zero (length texts)) ∙ e))

-- ---- more literals
literal_moves : (xs ys : List Text) (one : OwnedField) → ((t : Text) → Contains xs t → Contains ys t) → IsLiteralOf xs one → IsLiteralOf ys one
literal_moves xs ys (part.Literal literal) all h = all literal h
literal_moves xs ys (part.Prefix prefix) all h = h
literal_moves xs ys part.Rest all h = h

pub at_most_moves : (side : FlowSide) (flow : Flow) (xs ys : List Text) → ((t : Text) → Contains xs t → Contains ys t) → TakesAtMost side flow xs → TakesAtMost side flow ys
at_most_moves side flow xs ys all h = λ one admitted. literal_moves xs ys one all (h one admitted)

-- the set of what a flow lists has just that
in_set : (side : FlowSide) (flow : Flow) (sets : Listed) → IsListedBy flow sets → (t : Text) → Contains (set_of side sets) t ↔ Contains (listed_of side flow) t
in_set Modality flow sets by = by.modalities
in_set Station flow sets by = by.stations

pub lists_just : (side : FlowSide) (flow : Flow) (sets : Listed) (texts : List Text) → IsListedBy flow sets → texts ≡ set_of side sets → TakesListed (values_of side flow) (listed_of side flow) → TakesJust side flow texts
lists_just side flow sets texts by same takes =
    let C : Text → List Text → Type 0 = λ t ts. Contains ts t in
    record {
      named = λ t h. (in_set side flow sets by t).0 (subst (C t) same h);
      most = at_most_moves side flow (listed_of side flow) texts (λ t h. subst (C t) (sym same) ((in_set side flow sets by t).1 h)) takes;
    }

-- ---- the flows at one place after another
-- the literals are ones that flows at the places list, and the flows at those passed so far take in no others
pub record AreGathered (side : FlowSide) (flows : List Flow) (among passed : List ℕ) (literals : List Text) : Type 0 where
  pub named : (t : Text) → Contains literals t → SomeLists side flows among t
  pub most : (k : ℕ) (flow : Flow) → Contains passed k → slice_get flows k ≡ Some flow → TakesAtMost side flow literals

pub none_gathered : (side : FlowSide) (flows : List Flow) (among : List ℕ) (literals : List Text) → literals ≡ [] → AreGathered side flows among [] literals
none_gathered side flows among literals none = record {
  named = λ t h. (let C : List Text → Type 0 = λ ts. Contains ts t in absurd (nothing_in_nil t (subst C none h)));
  most = λ k flow has at. absurd (nothing_in_nil k has);
}

pub gathered_more : (side : FlowSide) (flows : List Flow) (among passed : List ℕ) (place : ℕ) (flow : Flow) (old new texts : List Text) → Contains among place → slice_get flows place ≡ Some flow →
    TakesJust side flow texts → ((t : Text) → Contains new t ↔ (Contains old t ⊎ Contains texts t)) → AreGathered side flows among passed old → AreGathered side flows among (passed ++ place ∷ []) new
gathered_more side flows among passed place flow old new texts has_place here just more so_far = record {
  named = λ t h. elim ((more t).0 h) [
    | inl before ↦ so_far.named t before
    | inr added ↦ (place, has_place, (flow, here, just.named t added))
  ];
  most = λ k other has at. elim (Contains-push_cases passed place k has) [
    | inl before ↦ at_most_moves side other old new (λ t h. (more t).1 (inl h)) (so_far.most k other before at)
    | inr same ↦
        let P : ℕ → Type 0 = λ n. slice_get flows n ≡ Some flow in
        let e : flow ≡ other = same_Some _ _ (sym (subst P same here) ∙ at) in
        let T : Flow → Type 0 = λ f. TakesAtMost side f new in
        subst T e (at_most_moves side flow texts new (λ t h. (more t).1 (inr h)) just.most)
  ];
}

pub gathered_all : (side : FlowSide) (flows : List Flow) (among : List ℕ) (literals names : List Text) → ((t : Text) → Contains names t ↔ Contains literals t) → IsInByteOrder names →
    AreGathered side flows among among literals → AreNamed side flows among names
gathered_all side flows among literals names same ordered all = record {
  named = λ t h. all.named t ((same t).0 h);
  most = λ k flow has at. at_most_moves side flow literals names (λ t h. (same t).1 h) (all.most k flow has at);
  ordered = ordered;
}

-- ---- literals as parts
to_mapped : {X Y : Type 0} (f : X → Y) (xs : List X) (x : X) → Contains xs x → Contains (map f xs) (f x)
to_mapped f [] x h = absurd (nothing_in_nil x h)
to_mapped {X} {Y} f (z ∷ xs) x h = elim (Contains-cons_cases z xs x h) [
  | inl same ↦ (let P : X → Type 0 = λ y. Contains (map f (z ∷ xs)) (f y) in subst P same (Contains-here (f z) (map f xs)))
  | inr later ↦ Contains-there (f z) (map f xs) (f x) (to_mapped f xs x later)
]

from_mapped : {X Y : Type 0} (f : X → Y) (xs : List X) (y : Y) → Contains (map f xs) y → (x : X) × Contains xs x × (f x ≡ y)
from_mapped f [] y h = absurd (nothing_in_nil y h)
from_mapped f (z ∷ xs) y h = elim (Contains-cons_cases (f z) (map f xs) y h) [
  | inl same ↦ (z, Contains-here z xs, same)
  | inr later ↦ (let found = from_mapped f xs y later in (found.0, Contains-there z xs found.0 found.1, found.2))
]

get_or_mapped : {X Y : Type 0} (f : X → Y) (xs : List X) (i : ℕ) (d : Y) (e : X) → i < length xs → get_or (map f xs) i d ≡ f (get_or xs i e)
get_or_mapped f [] i d e below = absurd (omega (arith, below))
get_or_mapped f (x ∷ xs) zero d e below = refl
get_or_mapped f (x ∷ xs) (suc i) d e below = get_or_mapped f xs i d e (omega (arith, below))

mapped_order : {X : Type 0} (text : X → Text) (f : Text → X) (names : List Text) → ((t : Text) → text (f t) ≡ t) → IsInByteOrder names → IsInPrintedOrder text (map f names)
mapped_order {X} text f names is ordered = λ i j d lt long less.
    let longer : length (map f names) ≡ length names = length-map names f in
    let below : j < length names = omega (arith, long, longer) in
    let at : (k : ℕ) → k < length names → text (get_or (map f names) k d) ≡ get_or names k [] =
    λ k few. ap text (get_or_mapped f names k d [] few) ∙ is (get_or names k []) in
    let P : Text → Type 0 = λ t. IsLess t (text (get_or (map f names) i d)) in
    let Q : Text → Type 0 = λ t. IsLess (get_or names j []) t in
    byte_order_is_printed names ordered i j [] lt below (subst Q (at i (omega (arith, lt, below))) (subst P (at j below) less))

-- a row for some flows is one for fewer of them
pub fewer_flows : (side : FlowSide) (plan : Network) (among here : List ℕ) (row : List OwnedField) → ((k : ℕ) → Contains here k → Contains among k) → IsRow side plan among row → IsRow side plan here row
fewer_flows side plan among here row of_them is = record { parts = is.parts; whole = λ k flow one has at admitted part. is.whole k flow one (of_them k has) at admitted part; ordered = is.ordered }

-- what a flow lists of an attribute the plan names
flow_names_it : (side : FlowSide) (plan : Network) (flow : Flow) (t : Text) → Contains plan.flows flow → Contains (listed_of side flow) t → Contains (named_of side plan).literals t
flow_names_it Modality plan flow t has = flow_names plan attribute.Modality flow t has
flow_names_it Station plan flow t has = flow_names plan attribute.Station flow t has

-- the literals that flows list are a row of parts
pub named_parts : (side : FlowSide) (plan : Network) (among : List ℕ) (names : List Text) → AreNamed side plan.flows among names → IsRow side plan among (map (λ l. part.Literal l) names)
named_parts side plan among names named = record {
  parts = λ one h.
      let found = from_mapped (λ l. part.Literal l) names one h in
      let lists = named.named found.0 found.1 in
      let flow : Flow = lists.2.0 in
      let among_flows : Contains plan.flows flow = (lists.0, slice_get_within plan.flows lists.0 flow lists.2.1, get_or_from_slice_get plan.flows lists.0 flow flow lists.2.1) in
      let P : OwnedField → Type 0 = λ f. IsPart (named_of side plan) f in
      subst P found.2 (flow_names_it side plan flow found.0 among_flows lists.2.2);
  whole = λ k flow one has at admitted is. in_row one (named.most k flow has at one admitted);
  ordered = mapped_order printed_field (λ l. part.Literal l) names (λ t. refl) named.ordered;
} where
  in_row : (one : OwnedField) → IsLiteralOf names one → Contains (map (λ l. part.Literal l) names) one
  in_row (part.Literal literal) h = to_mapped (λ l. part.Literal l) names literal h
  in_row (part.Prefix prefix) h = absurd h
  in_row part.Rest h = absurd h
