-- Keys of waiting rows.
use Rattle.std.proofs.Common.{◌≡◌, ◌≢◌, ℕ, ◌≤◌, ◌<◌, ◌||◌, Bool, true, false, cond, ◌&&◌, nat_le, List, [], ◌∷◌, Option, None, Some, refl, sym, ap, subst, ◌∙◌, arith}
use Rattle.std.specs.declared.cmp.Ordering.{Ordering}
use Rattle.std.specs.declared.cmp.Ordering.TheVariants.{Less, Equal, Greater}
use Rattle.std.specs.declared.ops.Bound.TheVariants.{Included, Unbounded}
use Rattle.std.specs.Ordering.{is_eq, is_le, nat_cmp, ordering_then, ordering_reverse}
use Rattle.std.specs.List.{AllByRecursion, filter, list_any}
use Rattle.std.specs.List.Sorted.{IsStrictlySortedBy}
use Rattle.std.specs.BTreeMap.Range.{range_contains}
use Rattle.std.specs.Cmp.{IsTotalOrder, nat_cmp_total, nat_eq_equiv}
use Rattle.std.specs.BTreeMap.{is_at}
use Rattle.std.specs.BTreeSet as sorted
use Rattle.std.specs.Str.{bytes_eq}
use Rattle.std.proofs.lemmas.Cmp.{nat_list_cmp_total, on_total, ranked, then_total}
use Rattle.std.proofs.lemmas.Map.Lookups.{exact_bytes, exact_pairs, exact_unsigned}
use Rattle.std.proofs.lemmas.Map.Views.{any-filter_same, tells_apart}
use Rattle.std.proofs.lemmas.Map.Keys.{le_from_is_le}
use Rattle.std.proofs.lemmas.List.Kept.{IsStrictlySortedBy-filter}
use Rattle.std.proofs.lemmas.Slice.Eq.{bytes_eq-Decides}
use Rattle.std.proofs.lemmas.Bool.{le-leb}
use Rattle.dr_base.specs.Texts.{Text, text_cmp}
use Rattle.dr_ledger.specs.declared.item.Progress.TheVariants.{Waiting}
use Rattle.dr_ledger.proofs.Maps.{IsExact, texts, ties_itself}
use Rattle.dr_ledger.proofs.Ones.{tied}
use Rattle.dr_ledger_memory.specs.Changes.{Tree, at}
use Rattle.dr_ledger_memory.specs.Dues.{Covers, Due, due_cmp, first_waiting, is_waiting, waits_since}
use Rattle.dr_ledger_memory.specs.Entries.{row_in}

no_both : (b : Bool) → b ≡ true → b ≡ false → ⊥
no_both b t f = cc

abbrev moment_cmp : ℕ × Text → ℕ × Text → Ordering
moment_cmp a b = ordering_then (nat_cmp a.0 b.0) (text_cmp a.1 b.1)

moments : IsTotalOrder moment_cmp
moments = then_total (on_total (λ (m : ℕ × Text). m.0) nat_cmp_total) (on_total (λ (m : ℕ × Text). m.1) nat_list_cmp_total)

pub dues : IsExact due_cmp
dues = record {
  total = then_total (on_total (λ (d : Due). d.0) nat_list_cmp_total) (on_total (λ (d : Due). d.1) moments);
  exact = exact_pairs text_cmp moment_cmp exact_bytes (exact_pairs nat_cmp text_cmp exact_unsigned exact_bytes);
}

-- a waiting row has its key
pub waits_so : (held : Tree) (uid dest : Text) (tries due : ℕ) → row_in (at held uid) dest ≡ Some (Waiting tries due) → is_waiting held (dest, (due, uid)) ≡ true
waits_so held uid dest tries due h = ap (λ o. waits_since o due) h ∙ nat_eq_equiv.refl due

-- a key that no waiting row has is missed by none
pub forgotten : (w v : sorted.BTreeSet Due) (held : Tree) (key : Due) → is_waiting held key ≡ false → ((k : Due) → sorted.contains due_cmp v k ≡ cond (is_at (due_cmp key) k) false (sorted.contains due_cmp w k)) →
    Covers w held → Covers v held
forgotten w v held key idle out covers uid dest tries due h = out (dest, (due, uid)) ∙ by_case (is_at (due_cmp key) (dest, (due, uid))) refl
  where
    by_case : (b : Bool) → is_at (due_cmp key) (dest, (due, uid)) ≡ b → cond b false (sorted.contains due_cmp w (dest, (due, uid))) ≡ true
    by_case true t = absurd (no_both _ (waits_so held uid dest tries due h) (ap (is_waiting held) (sym (tells_apart dues.exact key (dest, (due, uid)) t)) ∙ idle))
    by_case false t = covers uid dest tries due h

-- ---- the first key that is a waiting row's
pub left : (a b : Bool) → (a && b) ≡ true → a ≡ true
left true b h = refl
left false b h = absurd (let e : ⊥ = cc in e)

pub right : (a b : Bool) → (a && b) ≡ true → b ≡ true
right true b h = h
right false b h = absurd (let e : ⊥ = cc in e)

both : (a b : Bool) → a ≡ true → b ≡ true → (a && b) ≡ true
both true b h k = k
both false b h k = h

inside : {X : Type 0} (x y : X) → Some x ≡ Some y → x ≡ y
inside x y e = cc

nothing : {X : Type 0} (x : X) → None ≡ Some x → ⊥
nothing x e = cc

module _ (held : Tree) (dest : Text) (now : ℕ) where
  abbrev pub passes : Due → Bool
  passes key = bytes_eq key.0 dest && nat_le key.1.0 now

  -- what is found goes there, is due and waits
  pub found_is : (keys : List Due) (key : Due) → first_waiting held dest now keys ≡ Some key → (passes key ≡ true) × (is_waiting held key ≡ true)
  found_is [] key h = absurd (nothing key h)
  found_is (x ∷ xs) key h = by_case (found_is xs key) (passes x) refl (is_waiting held x) refl h
    where
      by_case : (first_waiting held dest now xs ≡ Some key → (passes key ≡ true) × (is_waiting held key ≡ true)) → (a : Bool) → passes x ≡ a → (b : Bool) → is_waiting held x ≡ b → cond a (cond b (Some x) (first_waiting held dest now xs)) None ≡ Some key → (passes key ≡ true) × (is_waiting held key ≡ true)
      by_case later true p true w e = (let same : x ≡ key = inside x key e in (sym (ap passes same) ∙ p, sym (ap (is_waiting held) same) ∙ w))
      by_case later true p false w e = later e
      by_case later false p b w e = absurd (nothing key e)

-- ---- keys of one destination
not_after : (r s : Ordering) → ordering_then r s ≢ Greater → r ≢ Greater
not_after Less s h e = absurd (let f : ⊥ = cc in f)
not_after Equal s h e = absurd (let f : ⊥ = cc in f)
not_after Greater s h e = h refl

not_greater : (r : Ordering) → r ≡ Less → r ≢ Greater
not_greater r h e = let f : ⊥ = cc in f

is_not_greater : (r : Ordering) → r ≡ Equal → r ≢ Greater
is_not_greater r h e = let f : ⊥ = cc in f

then_after : (r s : Ordering) → r ≡ Equal → ordering_then r s ≡ Less → s ≡ Less
then_after Less s e h = absurd (let f : ⊥ = cc in f)
then_after Equal s e h = h
then_after Greater s e h = absurd (let f : ⊥ = cc in f)

or_less : (r : Ordering) → is_le r ≡ true → r ≢ Greater
or_less r h e = no_both (is_le r) h (ap is_le e)

less_or : (r : Ordering) → r ≢ Greater → is_le r ≡ true
less_or Less h = refl
less_or Equal h = refl
less_or Greater h = absurd (h refl)

is_equal : (r : Ordering) → is_eq r ≡ true → r ≡ Equal
is_equal Less h = absurd (let f : ⊥ = cc in f)
is_equal Equal h = refl
is_equal Greater h = absurd (let f : ⊥ = cc in f)

no_more : (a b : ℕ) → nat_cmp a b ≢ Greater → a ≤ b
no_more a b h = le_from_is_le a b (less_or (nat_cmp a b) h)

from_zero : (n : ℕ) (r : Ordering) → nat_cmp 0 n ≡ r → r ≢ Greater
from_zero n Less e h = absurd (let f : ⊥ = cc in f)
from_zero n Equal e h = absurd (let f : ⊥ = cc in f)
from_zero n Greater e h = (let l : n < 0 = ranked 0 n Greater (sym e) in omega (arith, l))

from_nothing : (uid : Text) → text_cmp [] uid ≢ Greater
from_nothing [] h = let f : ⊥ = cc in f
from_nothing (x ∷ uid) h = let f : ⊥ = cc in f

and_then : (r s : Ordering) → r ≢ Greater → s ≢ Greater → ordering_then r s ≢ Greater
and_then Less s h k e = absurd (let f : ⊥ = cc in f)
and_then Equal s h k e = k e
and_then Greater s h k e = h refl

pub ties : (d : Text) → text_cmp d d ≡ Equal
ties d = is_equal (text_cmp d d) (ties_itself texts d)

abbrev pub start : Text → Due
start dest = (dest, (0, []))

abbrev in_range : Text → Due → Bool
in_range dest key = range_contains due_cmp (Included (start dest)) Unbounded key

abbrev IsFrom : Text → Due → Type 0
IsFrom dest key = due_cmp (start dest) key ≢ Greater

of_range : (dest : Text) (key : Due) → in_range dest key ≡ true → IsFrom dest key
of_range dest key h = or_less (due_cmp (start dest) key) (left _ _ h)

to_range : (dest : Text) (key : Due) → key.0 ≡ dest → in_range dest key ≡ true
to_range dest key goes =
    let P : Text → Type 0 = λ d. text_cmp dest d ≢ Greater in
    both (is_le (due_cmp (start dest) key)) true (less_or (due_cmp (start dest) key) (and_then (text_cmp dest key.0) (moment_cmp (0, []) key.1)
    (subst P (sym goes) (is_not_greater (text_cmp dest dest) (ties dest)))
    (and_then (nat_cmp 0 key.1.0) (text_cmp [] key.1.1) (from_zero key.1.0 (nat_cmp 0 key.1.0) refl) (from_nothing key.1.1)))) refl

from_filter : (dest : Text) (keys : List Due) → AllByRecursion (IsFrom dest) (filter (in_range dest) keys)
from_filter dest [] = tt
from_filter dest (x ∷ xs) = by_case (from_filter dest xs) (in_range dest x) refl
  where
    by_case : AllByRecursion (IsFrom dest) (filter (in_range dest) xs) → (b : Bool) → in_range dest x ≡ b → AllByRecursion (IsFrom dest) (cond b (x ∷ filter (in_range dest) xs) (filter (in_range dest) xs))
    by_case later true e = (of_range dest x e, later)
    by_case later false e = later

-- a key between the earliest and one of the destination is of the destination, and no later
between : (dest : Text) (x key : Due) → IsFrom dest x → due_cmp x key ≡ Less → key.0 ≡ dest → (x.0 ≡ dest) × (x.1.0 ≤ key.1.0)
between dest x key from less same =
    let P : Text → Type 0 = λ d. text_cmp x.0 d ≢ Greater in
    let up : text_cmp x.0 dest ≢ Greater = subst P same (not_after (text_cmp x.0 key.0) (moment_cmp x.1 key.1) (not_greater (due_cmp x key) less)) in
    let down : text_cmp dest x.0 ≢ Greater = not_after (text_cmp dest x.0) (moment_cmp (0, []) x.1) from in
    let equal : text_cmp x.0 dest ≡ Equal = tied (text_cmp x.0 dest) (text_cmp dest x.0) (nat_list_cmp_total.antisymm dest x.0) up down in
    let Q : Text → Type 0 = λ d. text_cmp x.0 d ≡ Equal in
    let sooner : moment_cmp x.1 key.1 ≡ Less = then_after (text_cmp x.0 key.0) (moment_cmp x.1 key.1) (subst Q (sym same) equal) less in
    (exact_bytes x.0 dest equal, no_more x.1.0 key.1.0 (not_after (nat_cmp x.1.0 key.1.0) (text_cmp x.1.1 key.1.1) (not_greater (moment_cmp x.1 key.1) sooner)))

less_in : (x key : Due) (xs : List Due) → AllByRecursion (λ y. due_cmp x y ≡ Less) xs → list_any (is_at (due_cmp key)) xs ≡ true → due_cmp x key ≡ Less
less_in x key [] h m = absurd (let e : ⊥ = cc in e)
less_in x key (y ∷ ys) h m = by_case (λ later. less_in x key ys h.1 later) (is_at (due_cmp key) y) refl m
  where
    by_case : (list_any (is_at (due_cmp key)) ys ≡ true → due_cmp x key ≡ Less) → (b : Bool) → is_at (due_cmp key) y ≡ b → (b || list_any (is_at (due_cmp key)) ys) ≡ true → due_cmp x key ≡ Less
    by_case later true t m = ap (due_cmp x) (tells_apart dues.exact key y t) ∙ h.0
    by_case later false t m = later m

-- nothing is found only where nothing waits, and what is found comes first
abbrev pub IsFirst : Option Due → Due → Type 0
IsFirst None key = ⊥
IsFirst (Some found) key = due_cmp found key ≢ Greater

module _ (held : Tree) (dest : Text) (now : ℕ) (key : Due) (goes : key.0 ≡ dest) (early : key.1.0 ≤ now) (waits : is_waiting held key ≡ true) where
  pass : (x : Due) → x.0 ≡ dest → x.1.0 ≤ key.1.0 → passes held dest now x ≡ true
  pass x same le = both (bytes_eq x.0 dest) (nat_le x.1.0 now) ((bytes_eq-Decides x.0 dest).1 same) (le-leb x.1.0 now (omega (arith, le, early)))

  found_first : (keys : List Due) → IsStrictlySortedBy due_cmp keys → AllByRecursion (IsFrom dest) keys → list_any (is_at (due_cmp key)) keys ≡ true → IsFirst (first_waiting held dest now keys) key
  unfolding IsStrictlySortedBy
  found_first [] h f m = absurd (let e : ⊥ = cc in e)
  found_first (x ∷ xs) h f m = by_case (λ later. found_first xs h.1 f.1 later) (is_at (due_cmp key) x) refl m
    where
      itself : is_at (due_cmp key) x ≡ true → IsFirst (first_waiting held dest now (x ∷ xs)) key
      itself t =
          let same : key ≡ x = tells_apart dues.exact key x t in
          let P : Option Due → Type 0 = λ o. IsFirst o key in
          let is : first_waiting held dest now (x ∷ xs) ≡ Some x =
          (λ j. cond (passes held dest now (sym same j)) (cond (is_waiting held (sym same j)) (Some x) (first_waiting held dest now xs)) None)
          ∙ (ap (λ b. cond b (cond (is_waiting held key) (Some x) (first_waiting held dest now xs)) None) (pass key goes (omega arith))
          ∙ ap (λ b. cond b (Some x) (first_waiting held dest now xs)) waits) in
          subst P (sym is) (is_not_greater (due_cmp x key) (dues.total.antisymm x key ∙ ap ordering_reverse (is_equal (due_cmp key x) t)))

      earlier : IsFirst (first_waiting held dest now xs) key → due_cmp x key ≡ Less → IsFirst (first_waiting held dest now (x ∷ xs)) key
      earlier later less =
          let b = between dest x key f.0 less goes in
          let P : Option Due → Type 0 = λ o. IsFirst o key in
          subst P (sym (ap (λ c. cond c (cond (is_waiting held x) (Some x) (first_waiting held dest now xs)) None) (pass x b.0 b.1))) (chosen (is_waiting held x))
        where
          chosen : (c : Bool) → IsFirst (cond c (Some x) (first_waiting held dest now xs)) key
          chosen true = not_greater (due_cmp x key) less
          chosen false = later

      by_case : (list_any (is_at (due_cmp key)) xs ≡ true → IsFirst (first_waiting held dest now xs) key) → (b : Bool) → is_at (due_cmp key) x ≡ b → (b || list_any (is_at (due_cmp key)) xs) ≡ true →
          IsFirst (first_waiting held dest now (x ∷ xs)) key
      by_case later true t m = itself t
      by_case later false t m = earlier (later m) (less_in x key xs h.0 m)

  -- among all keys of the destination
  pub first_of_all : (w : sorted.BTreeSet Due) → sorted.IsOrdered due_cmp w → sorted.contains due_cmp w key ≡ true →
      IsFirst (first_waiting held dest now (sorted.keys_between due_cmp (Included (start dest)) Unbounded w)) key
  first_of_all w order there =
      found_first (filter (in_range dest) w.keys) (IsStrictlySortedBy-filter due_cmp (in_range dest) w.keys order) (from_filter dest w.keys)
      (any-filter_same (is_at (due_cmp key)) (in_range dest) true (λ k t. ap (in_range dest) (sym (tells_apart dues.exact key k t)) ∙ to_range dest key goes) w.keys ∙ there)
