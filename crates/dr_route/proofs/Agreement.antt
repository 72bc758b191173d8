-- Keys of one cell are told apart by no rule of the plan.
use Rattle.std.proofs.Common.{◌≡◌, ℕ, zero, suc, ◌+◌, ◌≤◌, ◌<◌, ◌≢◌, ◌⊎◌, inl, inr, List, [], ◌∷◌, ◌++◌, length, take, ap, Contains, refl, sym, ◌∙◌, subst, arith}
use Rattle.std.specs.Prelude.{All}
use Rattle.std.proofs.lemmas.Bool.{cases_Bool, cases_lt}
use Rattle.std.proofs.lemmas.List.{take-append-le, take_all, append_assoc, length-append}
use Rattle.std.proofs.lemmas.Bool.{false≢true}
use Rattle.std.proofs.lemmas.Slice.Eq.{bytes_eq-Decides}
use Rattle.std.specs.Str.{bytes_eq}
use Rattle.std.proofs.lemmas.List.Elements.{All-head, All-tail, All-contains, Contains-append_left, Contains-append_right, Contains-append_cases, Contains-push, Contains-push_cases}
use Rattle.dr_base.specs.Texts.{Text, Begins}
use Rattle.dr_route.specs.Routes.{Matches, MatchesField, TakesStation, Holds, SendsBy, KeepsBy}
use Rattle.dr_route.specs.Cells.{InField, IsLongest, HasNoPrefix, InCell, SameValues, SameLiterals}
use Rattle.dr_route.specs.Laws.{IsKnown, IsKnownRule, IsPart, ArePlain, ArePlainValues, value_of}
use Rattle.dr_route.specs.declared.key.Key.{Key}
use Rattle.dr_route.specs.declared.rule.Rule.{Rule}
use Rattle.dr_route.specs.declared.cell.FieldValues.{FieldValues}
use Rattle.dr_route.specs.declared.cell.Literals.{Literals}
use Rattle.dr_route.specs.declared.cell.OwnedField.{OwnedField}
use Rattle.dr_route.specs.declared.cell.OwnedField.TheVariants as part
use Rattle.dr_route.specs.declared.rule.FieldPattern.{FieldPattern}
use Rattle.dr_route.specs.declared.rule.FieldPattern.TheVariants as pattern
use Rattle.dr_route.specs.declared.cell.OwnedCell.{OwnedCell}
use Rattle.dr_route.proofs.Finding.{begins_length, beginning, begins_first, all_within, AreWithin, within_less, longest_found, none_begins}

-- of two texts with which a value begins, the longer begins with the shorter
pub begins_shorter : (short long value : Text) → Begins short value → Begins long value → length short ≤ length long → Begins short long
begins_shorter short long value s l few =
    let P : Text → Type 0 = λ v. take (length short) v ≡ short in
    let first : take (length short) (long ++ l.0) ≡ short = subst P l.1 (beginning short value s) in
    let is : take (length short) long ≡ short = sym (take-append-le (length short) long l.0 few) ∙ first in
    let Q : Text → Type 0 = λ p. Begins p long in subst Q is (begins_first (length short) long)

pub begins_through : (short long value : Text) → Begins short long → Begins long value → Begins short value
begins_through short long value s l =
    (s.0 ++ l.0, l.1 ∙ (ap (λ (t : Text). t ++ l.0) s.1 ∙ append_assoc short s.0 l.0))

-- a value of a part with a longest prefix begins with each shorter prefix with which another begins
pub prefix_agrees : (values : FieldValues) (part : OwnedField) (prefix v w : Text) → Contains values.prefixes prefix →
    InField values part v → InField values part w → Begins prefix v → Begins prefix w
prefix_agrees values (part.Literal literal) prefix v w known a b m = let P : Text → Type 0 = λ t. Begins prefix t in subst P (sym a.1 ∙ b.1) m
prefix_agrees values (part.Prefix long) prefix v w known a b m =
    begins_through prefix long w (begins_shorter prefix long v m a.1.begins (a.1.longest prefix known m)) b.1.begins
prefix_agrees values part.Rest prefix v w known a b m = absurd (a.1 prefix known m)

-- a value of a part that is a literal of the plan is the part's only one
pub literal_agrees : (values : FieldValues) (part : OwnedField) (literal v w : Text) → Contains values.literals literal →
    InField values part v → InField values part w → literal ≡ v → literal ≡ w
literal_agrees values (part.Literal l) literal v w known a b m = m ∙ (sym a.1 ∙ b.1)
literal_agrees values (part.Prefix prefix) literal v w known a b m = absurd (a.0 (subst (Contains values.literals) m known))
literal_agrees values part.Rest literal v w known a b m = absurd (a.0 (subst (Contains values.literals) m known))

-- a pattern of the plan admits all values of one part, or none of them
pub patterns_agree : (values : FieldValues) (part : OwnedField) (pattern : FieldPattern) (v w : Text) → IsKnown values pattern →
    InField values part v → InField values part w → MatchesField pattern v → MatchesField pattern w
patterns_agree values part pattern.Any v w known a b m = tt
patterns_agree values part (pattern.Literal literal) v w known a b m = literal_agrees values part literal v w known a b m
patterns_agree values part (pattern.Prefix prefix) v w known a b m = prefix_agrees values part prefix v w known a b m

-- an exception of a rule whose literals are the plan's is a literal, and so alone in its part
pub excepts_agree : (values : FieldValues) (part : OwnedField) (except : List Text) (v w : Text) → All (Contains values.literals) except →
    InField values part v → InField values part w → Contains except w → Contains except v
excepts_agree values part except v w known a b there =
    let same : w ≡ v = literal_agrees values part w w v (All-contains (Contains values.literals) except w known there) b a refl in
    let P : Text → Type 0 = λ t. Contains except t in subst P same there

pub stations_agree : (values : FieldValues) (part : OwnedField) (rule : Rule) (v w : Text) → IsKnown values rule.station → All (Contains values.literals) rule.except →
    InField values part v → InField values part w → TakesStation rule v → TakesStation rule w
stations_agree values part rule v w known each a b h = (
  patterns_agree values part rule.station v w known a b h.0,
  λ there. h.1 (excepts_agree values part rule.except v w each a b there),
)

pub holds_agrees : (literals : Literals) (cell : OwnedCell) (k l : Key) → InCell literals cell k → InCell literals cell l →
    (rule : Rule) → IsKnownRule literals rule → (caller : Text) → Holds rule caller k → Holds rule caller l
holds_agrees literals cell k l a b rule known caller h = (
  h.0,
  h.1,
  let P : Text → Type 0 = λ v. Matches rule.class v in subst P (sym a.class ∙ b.class) h.2,
  patterns_agree literals.modalities cell.modality rule.modality k.modality l.modality known.0 a.modality b.modality h.3,
  stations_agree literals.stations cell.station rule k.station l.station known.1 known.2 a.station b.station h.4,
)

pub sends_agree : (literals : Literals) (cell : OwnedCell) (k l : Key) → InCell literals cell k → InCell literals cell l →
    (rules : List Rule) → All (IsKnownRule literals) rules → (caller name : Text) → SendsBy rules caller k name → SendsBy rules caller l name
sends_agree literals cell k l a b [] known caller name h = h
sends_agree literals cell k l a b (rule ∷ rules) known caller name (inl h) = inl (holds_agrees literals cell k l a b rule (All-head (IsKnownRule literals) rule rules known) caller h.0, h.1)
sends_agree literals cell k l a b (rule ∷ rules) known caller name (inr h) = inr (sends_agree literals cell k l a b rules (All-tail (IsKnownRule literals) rule rules known) caller name h)

pub keeps_agree : (literals : Literals) (cell : OwnedCell) (k l : Key) → InCell literals cell k → InCell literals cell l →
    (rules : List Rule) → All (IsKnownRule literals) rules → (caller : Text) → KeepsBy rules caller k → KeepsBy rules caller l
keeps_agree literals cell k l a b [] known caller h = h
keeps_agree literals cell k l a b (rule ∷ rules) known caller (inl h) = inl (holds_agrees literals cell k l a b rule (All-head (IsKnownRule literals) rule rules known) caller h.0, h.1)
keeps_agree literals cell k l a b (rule ∷ rules) known caller (inr h) = inr (keeps_agree literals cell k l a b rules (All-tail (IsKnownRule literals) rule rules known) caller h)

-- the text of the one byte 128 is no printable literal
pub not_128 : (literals : List Text) → ArePlain literals → Contains literals (128 ∷ []) → ⊥
not_128 literals plain among =
    let P : Text → Type 0 = λ t. All (λ byte. byte < 127) t in
    let bytes : P (128 ∷ []) = All-contains P literals (128 ∷ []) plain among in
    let small : 128 < 127 = All-head (λ byte. byte < 127) 128 [] bytes in omega arith

-- a text with the byte 128 at its end is no printable one
pub not_ending_128 : (texts : List Text) (text : Text) → ArePlain texts → Contains texts (text ++ 128 ∷ []) → ⊥
not_ending_128 texts text plain among =
    let P : Text → Type 0 = λ t. All (λ byte. byte < 127) t in
    let bytes : P (text ++ 128 ∷ []) = All-contains P texts (text ++ 128 ∷ []) plain among in
    let small : 128 < 127 = All-contains (λ byte. byte < 127) (text ++ 128 ∷ []) 128 bytes (Contains-push text 128) in omega arith

-- what begins a text and one more byte, and isn't all of it, begins the text
shorter_or_all : (prefix text : Text) (byte : ℕ) → Begins prefix (text ++ byte ∷ []) → (length prefix ≤ length text) ⊎ (prefix ≡ text ++ byte ∷ [])
shorter_or_all prefix text byte b = elim (cases_lt (length text) (length prefix)) [
  | inl more ↦
      let n = begins_length prefix (text ++ byte ∷ []) b in
      let m = length-append text (byte ∷ []) in
      inr (sym (beginning prefix (text ++ byte ∷ []) b) ∙ take_all (length prefix) (text ++ byte ∷ []) (omega (arith, n, m, more)))
  | inr few ↦ inl (omega (arith, few))
]

pub part_has_value : (values : FieldValues) (part : OwnedField) → ArePlainValues values → IsPart values part → InField values part (value_of part)
part_has_value values (part.Literal literal) plain is = (is, refl)
part_has_value values (part.Prefix prefix) plain is = (
  not_ending_128 values.literals prefix plain.literals,
  record {
    among = is;
    begins = (128 ∷ [], refl);
    longest = λ other there begins. elim (shorter_or_all other prefix 128 begins) [
      | inl few ↦ few
      | inr all ↦ absurd (not_ending_128 values.prefixes prefix plain.prefixes (subst (Contains values.prefixes) all there))
    ];
  },
)
part_has_value values part.Rest plain is = (
  not_128 values.literals plain.literals,
  λ prefix there begins. elim (shorter_or_all prefix [] 128 begins) [
    | inl few ↦ All-contains (λ p. p ≢ []) values.prefixes prefix plain.some there (empty prefix few)
    | inr all ↦ not_128 values.prefixes plain.prefixes (subst (Contains values.prefixes) all there)
  ],
) where
  empty : (t : Text) → length t ≤ 0 → t ≡ []
  empty [] few = refl
  empty (b ∷ t) few = absurd (omega (arith, few))

-- two prefixes of one length with which a value begins are one
pub same_prefix : (a b value : Text) → Begins a value → Begins b value → length a ≡ length b → a ≡ b
same_prefix a b value is_a is_b same = sym (beginning a value is_a) ∙ (ap (λ (n : ℕ). take n value) same ∙ beginning b value is_b)

pub longest_is_one : (prefixes : List Text) (a b value : Text) → IsLongest prefixes a value → IsLongest prefixes b value → a ≡ b
longest_is_one prefixes a b value is_a is_b =
    let one = is_a.longest b is_b.among is_b.begins in
    let two = is_b.longest a is_a.among is_a.begins in
    same_prefix a b value is_a.begins is_b.begins (omega (arith, one, two))

same_text_or_not : (a b : Text) → (a ≡ b) ⊎ (a ≡ b → ⊥)
same_text_or_not a b = elim (cases_Bool (bytes_eq a b)) [
  | inl same ↦ inl ((bytes_eq-Decides a b).0 same)
  | inr other ↦ inr (λ e. false≢true (sym other ∙ (bytes_eq-Decides a b).1 e))
]

-- a text is in the list or not
pub among_or_not : (texts : List Text) (text : Text) → Contains texts text ⊎ (Contains texts text → ⊥)
among_or_not [] text = inr (λ among. let lt : among.0 < 0 = among.1 in absurd (omega arith))
among_or_not (t ∷ texts) text = elim (same_text_or_not t text) [
  | inl same ↦ inl (rw same (Contains-append_left (text ∷ []) texts text (Contains-push [] text)))
  | inr other ↦ elim (among_or_not texts text) [
    | inl among ↦ inl (Contains-append_right (t ∷ []) texts text among)
    | inr not_among ↦ inr (λ among. elim (Contains-append_cases (t ∷ []) texts text among) [
      | inl first ↦ elim (Contains-push_cases [] t text first) [
        | inl none ↦ (let lt : none.0 < 0 = none.1 in absurd (omega arith))
        | inr same ↦ other same
      ]
      | inr later ↦ not_among later
    ])
  ]
]

-- the longest prefix of a value among those of at most that length, or that it has none of them
longest_or_none : (prefixes : List Text) (value : Text) (n : ℕ) → n ≤ length value → AreWithin prefixes value n →
    ((prefix : Text) × IsLongest prefixes prefix value) ⊎ HasNoPrefix prefixes value
longest_or_none prefixes value zero fits within = elim (among_or_not prefixes []) [
  | inl there ↦ inl ([], longest_found prefixes value [] 0 within fits there refl)
  | inr not_there ↦ inr (none_begins prefixes value within not_there)
]
longest_or_none prefixes value (suc n) fits within = elim (among_or_not prefixes (take (suc n) value)) [
  | inl there ↦ inl (take (suc n) value, longest_found prefixes value (take (suc n) value) (suc n) within fits there refl)
  | inr not_there ↦ (
      let one_more : suc n ≡ n + 1 = omega arith in
      let P : ℕ → Type 0 = λ k. Contains prefixes (take k value) in
      longest_or_none prefixes value n (omega (arith, fits))
      (within_less prefixes value n (subst (AreWithin prefixes value) one_more within) (λ there. not_there (subst P (sym one_more) there))))
]

-- each value lies in some part of its field
pub some_part : (values : FieldValues) (value : Text) → (part : OwnedField) × InField values part value
some_part values value = elim (among_or_not values.literals value) [
  | inl among ↦ (part.Literal value, (among, refl))
  | inr not_among ↦ elim (longest_or_none values.prefixes value (length value) (omega arith) (all_within values.prefixes value)) [
    | inl long ↦ (part.Prefix long.0, (not_among, long.1))
    | inr none ↦ (part.Rest, (not_among, none))
  ]
]

-- no value lies in two parts of its field
pub one_part : (values : FieldValues) (a b : OwnedField) (value : Text) → InField values a value → InField values b value → a ≡ b
one_part values (part.Literal l) (part.Literal m) value a b = ap (λ (t : Text). part.Literal t) (a.1 ∙ sym b.1)
one_part values (part.Literal l) (part.Prefix q) value a b = absurd (b.0 (subst (Contains values.literals) a.1 a.0))
one_part values (part.Literal l) part.Rest value a b = absurd (b.0 (subst (Contains values.literals) a.1 a.0))
one_part values (part.Prefix p) (part.Literal m) value a b = absurd (a.0 (subst (Contains values.literals) b.1 b.0))
one_part values (part.Prefix p) (part.Prefix q) value a b = ap (λ (t : Text). part.Prefix t) (longest_is_one values.prefixes p q value a.1 b.1)
one_part values (part.Prefix p) part.Rest value a b = absurd (b.1 p a.1.among a.1.begins)
one_part values part.Rest (part.Literal m) value a b = absurd (a.0 (subst (Contains values.literals) b.1 b.0))
one_part values part.Rest (part.Prefix q) value a b = absurd (a.1 q b.1.among b.1.begins)
one_part values part.Rest part.Rest value a b = refl

-- a part doesn't depend on the order of the values
pub field_alike : (a b : FieldValues) → SameValues a b → (part : OwnedField) (value : Text) → InField a part value → InField b part value
field_alike a b same (part.Literal literal) value h = ((same.literals literal).0 h.0, h.1)
field_alike a b same (part.Prefix prefix) value h = (
  λ among. h.0 ((same.literals value).1 among),
  record {
    among = (same.prefixes prefix).0 h.1.among;
    begins = h.1.begins;
    longest = λ other among begins. h.1.longest other ((same.prefixes other).1 among) begins;
  },
)
field_alike a b same part.Rest value h = (
  λ among. h.0 ((same.literals value).1 among),
  λ prefix among begins. h.1 prefix ((same.prefixes prefix).1 among) begins,
)

-- nor does a cell
pub cell_alike : (a b : Literals) → SameLiterals a b → (cell : OwnedCell) (key : Key) → InCell a cell key → InCell b cell key
cell_alike a b same cell key h = record {
  class = h.class;
  syntax = h.syntax;
  modality = field_alike a.modalities b.modalities same.modalities cell.modality key.modality h.modality;
  station = field_alike a.stations b.stations same.stations cell.station key.station h.station;
}

-- the other way round
pub same_turned : (a b : Literals) → SameLiterals a b → SameLiterals b a
same_turned a b same = record {
  modalities = values_turned a.modalities b.modalities same.modalities;
  stations = values_turned a.stations b.stations same.stations;
} where
  values_turned : (a b : FieldValues) → SameValues a b → SameValues b a
  values_turned a b same = record {
    literals = λ t. ((same.literals t).1, (same.literals t).0);
    prefixes = λ t. ((same.prefixes t).1, (same.prefixes t).0);
  }

-- no key lies in two cells
pub one_cell : (literals : Literals) (key : Key) (a b : OwnedCell) → InCell literals a key → InCell literals b key → a ≡ b
one_cell literals key a b x y =
    let class : a.class ≡ b.class = x.class ∙ sym y.class in
    let syntax : a.syntax ≡ b.syntax = x.syntax ∙ sym y.syntax in
    let modality = one_part literals.modalities a.modality b.modality key.modality x.modality y.modality in
    let station = one_part literals.stations a.station b.station key.station x.station y.station in
    λ i. record { class = class i; syntax = syntax i; modality = modality i; station = station i }
