-- Where a text stands among texts in byte order, and the longest of them with which it begins.
use Rattle.std.proofs.Common.{◌≡◌, ℕ, zero, suc, ◌+◌, ◌≤◌, ◌<◌, inl, inr, refl, sym, ◌∙◌, ap, subst, List, [], ◌∷◌, ◌++◌, length, take, drop, get_or, Contains, false, arith}
use Rattle.std.specs.Prelude.{AllPairs, Option, None, Some, MatchOption}
use Rattle.std.specs.Borrow.{Bor}
use Rattle.std.specs.declared.cmp.Ordering.{Ordering}
use Rattle.std.specs.declared.cmp.Ordering.TheVariants.{Less, Equal, Greater}
use Rattle.std.specs.Ordering.{ordering_reverse, ordering_index, is_lt}
use Rattle.std.specs.Cmp.Lexicographic.{nat_list_cmp_total}
use Rattle.std.specs.List.Sorted.{IsNonDecreasingBy, IsStrictlySortedBy, IsPartitionPoint}
use Rattle.std.proofs.lemmas.Cmp.{tied_itself}
use Rattle.std.proofs.lemmas.Bool.{cases_lt}
use Rattle.std.proofs.lemmas.List.{take-append-drop, take-append-le, take_all, length-append, length-take-le}
use Rattle.std.proofs.lemmas.List.Elements.{All-from_recursion}
use Rattle.std.proofs.lemmas.List.Sorted.{searchable_from_sorted}
use Rattle.std.proofs.lemmas.Map.Lookups.{exact_bytes}
use Rattle.dr_base.specs.Texts.{Text, text_cmp, IsInByteOrder, Begins}
use Rattle.dr_route.specs.Cells.{IsLongest, HasNoPrefix}

pairs_of : {K : Type 0} (R : K → K → Ordering) (ks : List K) → IsStrictlySortedBy R ks → AllPairs (λ a b. R a b ≡ Less) ks
unfolding IsStrictlySortedBy
pairs_of R [] h i j d lt within = absurd (omega (arith, within))
pairs_of R (k ∷ ks) h zero zero d lt within = absurd (omega (arith, lt))
pairs_of R (k ∷ ks) h zero (suc j) d lt within = All-from_recursion (λ y. R k y ≡ Less) ks h.0 j d (omega (arith, within))
pairs_of R (k ∷ ks) h (suc i) zero d lt within = absurd (omega (arith, lt))
pairs_of R (k ∷ ks) h (suc i) (suc j) d lt within = pairs_of R ks h.1 i j d (omega (arith, lt)) (omega (arith, within))

not_back : (a b : Text) → text_cmp a b ≡ Less → is_lt (text_cmp b a) ≡ false
not_back a b less = ap is_lt (nat_list_cmp_total.antisymm b a ∙ ap ordering_reverse less)

rises : (texts : List Text) (text : Text) → IsInByteOrder texts → IsNonDecreasingBy (λ (y : Text). ordering_index (text_cmp y text)) texts
rises texts text ordered =
    let sorted = pairs_of text_cmp texts ordered in
    searchable_from_sorted nat_list_cmp_total (λ (t : Text). t) texts text (λ k d a b. not_back (get_or texts k d) (get_or texts (k + 1) d) (sorted k (k + 1) d (omega arith) (omega (arith, b))))

pub found_text : (texts : List Text) (text : Text) (k : ℕ) → ((d : Text) → text_cmp (get_or texts k d) text ≡ Equal) → (d : Text) → get_or texts k d ≡ text
found_text texts text k equal d = exact_bytes (get_or texts k d) text (equal d)

pub not_found_text : (texts : List Text) (text : Text) (i : ℕ) → IsInByteOrder texts →
    (IsNonDecreasingBy (λ (y : Text). ordering_index (text_cmp y text)) texts → IsPartitionPoint (λ (y : Text). text_cmp y text ≡ Less) (λ (y : Text). text_cmp y text ≡ Greater) texts i) →
    Contains texts text → ⊥
not_found_text texts text i ordered parted has =
    let p = parted (rises texts text ordered) in
    let k : ℕ = has.0 in
    let in_range : k < length texts = has.1 in
    let at : get_or texts k text ≡ text = has.2 in
    let equal : text_cmp (get_or texts k text) text ≡ Equal = ap (λ (t : Text). text_cmp t text) at ∙ tied_itself nat_list_cmp_total text in
    elim (cases_lt k i) [
      | inl before ↦ (let less : text_cmp (get_or texts k text) text ≡ Less = p.0 k text (omega arith) before in let e : Less ≡ Equal = sym less ∙ equal in absurd (cc e))
      | inr after ↦ (let more : text_cmp (get_or texts k text) text ≡ Greater = p.1 k text (omega arith) in_range in let e : Greater ≡ Equal = sym more ∙ equal in absurd (cc e))
    ]

-- ---- beginnings of a value

pub begins_length : (prefix value : Text) → Begins prefix value → length prefix ≤ length value
begins_length prefix value b =
    let n : length value ≡ length (prefix ++ b.0) = ap (λ (t : Text). length t) b.1 in
    let m = length-append prefix b.0 in omega (arith, n, m)

-- what a value begins with is what its first bytes are
pub beginning : (prefix value : Text) → Begins prefix value → take (length prefix) value ≡ prefix
beginning prefix value b =
    let P : Text → Type 0 = λ v. take (length prefix) v ≡ prefix in
    subst P (sym b.1) (take-append-le (length prefix) prefix b.0 (omega arith) ∙ take_all (length prefix) prefix (omega arith))

pub begins_first : (n : ℕ) (value : Text) → Begins (take n value) value
begins_first n value = (drop n value, sym (take-append-drop n value))

-- no prefix of the list with which the value begins is longer
abbrev pub AreWithin : List Text → Text → ℕ → Type 0
AreWithin prefixes value n = (other : Text) → Contains prefixes other → Begins other value → length other ≤ n

pub all_within : (prefixes : List Text) (value : Text) → AreWithin prefixes value (length value)
all_within prefixes value other among begins = begins_length other value begins

pub within_less : (prefixes : List Text) (value : Text) (n : ℕ) → AreWithin prefixes value (n + 1) → (Contains prefixes (take (n + 1) value) → ⊥) → AreWithin prefixes value n
within_less prefixes value n within not_there other among begins = elim (cases_lt n (length other)) [
  | inl more ↦
      let most = within other among begins in
      let exact : length other ≡ n + 1 = omega (arith, more, most) in
      let same : take (n + 1) value ≡ other = ap (λ (k : ℕ). take k value) (sym exact) ∙ beginning other value begins in
      absurd (not_there (subst (Contains prefixes) (sym same) among))
  | inr few ↦ omega (arith, few)
]

pub longest_found : (prefixes : List Text) (value prefix : Text) (n : ℕ) → AreWithin prefixes value n → n ≤ length value → Contains prefixes prefix → prefix ≡ take n value → IsLongest prefixes prefix value
longest_found prefixes value prefix n within fits among is =
    let P : Text → Type 0 = λ p. Begins p value in
    let long : length prefix ≡ n = ap (λ (t : Text). length t) is ∙ length-take-le n value fits in record {
      among = among;
      begins = subst P (sym is) (begins_first n value);
      longest = λ other there begins. (let most = within other there begins in omega (arith, long, most));
    }

pub none_begins : (prefixes : List Text) (value : Text) → AreWithin prefixes value 0 → (Contains prefixes [] → ⊥) → HasNoPrefix prefixes value
none_begins prefixes value within not_there prefix among begins = not_there (subst (Contains prefixes) (empty prefix (within prefix among begins)) among) where
  empty : (t : Text) → length t ≤ 0 → t ≡ []
  empty [] few = refl
  empty (b ∷ t) few = absurd (omega (arith, few))

-- the empty text, looked for last
pub last_answer : (prefixes : List Text) (value : Text) (r : Option (Bor Text)) → AreWithin prefixes value 0 →
    MatchOption r (Contains prefixes [] → ⊥) (λ t. Contains prefixes t.now × (t.now ≡ [])) → MatchOption r (HasNoPrefix prefixes value) (λ p. IsLongest prefixes p.now value)
last_answer prefixes value None within m = none_begins prefixes value within m
last_answer prefixes value (Some t) within m = longest_found prefixes value t.now 0 within (omega arith) m.0 m.1
