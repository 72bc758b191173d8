-- What leaves where all that is of one uid leaves.
use Rattle.std.proofs.Common.{◌≡◌, ◌⊎◌, inl, inr, ℕ, ◌<◌, ◌≤◌, ◌+◌, Bool, true, false, cond, not, is_some, ◌&&◌, ◌||◌}
use Rattle.std.proofs.Common.{List, [], ◌∷◌, ◌++◌, Option, None, Some, IfSome, length}
use Rattle.std.proofs.Common.{refl, sym, ap, subst, ◌∙◌, arith, slice_get}
use Rattle.std.specs.declared.cmp.Ordering.{Ordering}
use Rattle.std.specs.declared.cmp.Ordering.TheVariants.{Less, Equal, Greater}
use Rattle.std.specs.declared.ops.Bound.TheVariants.{Included, Unbounded}
use Rattle.std.specs.Cmp.{eq_by_cmp_equiv}
use Rattle.std.specs.Ordering.{eq_by_cmp, is_eq, is_gt, is_le, is_lt, nat_cmp, ordering_reverse, ordering_then}
use Rattle.std.specs.List.{filter, list_any}
use Rattle.std.specs.Set.{remove_key}
use Rattle.std.specs.BTreeMap.{is_at}
use Rattle.std.specs.BTreeMap as tree
use Rattle.std.specs.BTreeMap.Range.{IsEntryInRange, IsInRange, IsLeBy, IsRangeOf}
use Rattle.std.specs.BTreeSet as sorted
use Rattle.std.specs.FinMap as map
use Rattle.std.specs.FinSet as set
use Rattle.std.proofs.lemmas.Map.Views.{tells_apart}
use Rattle.std.proofs.lemmas.Cmp.{ranked}
use Rattle.dr_base.specs.Texts.{Text, text_cmp}
use Rattle.dr_ledger.specs.declared.item.Progress.{Progress}
use Rattle.dr_ledger.specs.Books.{is_other, is_queued}
use Rattle.dr_ledger.specs.Pairs.{Pair, pair_cmp}
use Rattle.dr_ledger.proofs.Maps.{same_or_not, text_pairs, texts, ties_itself}
use Rattle.dr_ledger_history.specs.Leaving.{AreLetGo, AreOver, IsCallerFrom, IsRowOf, RowMap, is_from}
use Rattle.dr_ledger_history.specs.Trees.{as_map, as_set}
use Rattle.dr_ledger_history.proofs.Mapped.{get_at, has_at}

pub no_both : (b : Bool) → b ≡ true → b ≡ false → ⊥
no_both b t f = cc

no_row : (row : Progress) → Some row ≡ None → ⊥
no_row row e = cc

inside : (x y : Progress) → Some x ≡ Some y → x ≡ y
inside x y e = cc

-- ---- rows
-- a row stood at the key, and was done or dropped
abbrev pub WasOver : RowMap → Pair → Type 0
WasOver rows at = (row : Progress) × (map.get rows at ≡ Some row) × (is_queued row ≡ false)

abbrev pub HaveLeft : Text → RowMap → RowMap → Type 0
HaveLeft uid old new = (at : Pair) → (map.get new at ≡ map.get old at)
    ⊎ ((at.0 ≡ uid) × (map.get new at ≡ None) × WasOver old at)

pub none_has_left : (uid : Text) (m : RowMap) → HaveLeft uid m m
none_has_left uid m at = inl refl

module _ (uid : Text) (old : RowMap) where
  -- what stands at a key stood there
  stood : (new : RowMap) (at : Pair) (row : Progress) → HaveLeft uid old new →
      map.get new at ≡ Some row → map.get old at ≡ Some row
  stood new at row left h = elim (left at) [
    | inl stays ↦ sym stays ∙ h
    | inr went ↦ absurd (no_row row (sym h ∙ went.1))
  ]

  -- one more row leaves that is done or dropped
  pub one_more_leaves : (m n : tree.BTreeMap Pair Progress) (at : Pair) (row : Progress) → HaveLeft uid old (as_map pair_cmp m) →
      at.0 ≡ uid → map.get (as_map pair_cmp m) at ≡ Some row → is_queued row ≡ false →
      ((q : Pair) → tree.get pair_cmp n q ≡ cond (is_at (pair_cmp at) q) None (tree.get pair_cmp m q)) →
      HaveLeft uid old (as_map pair_cmp n)
  one_more_leaves m n at row left own there over u q = by_case (is_at (pair_cmp at) q) refl
    where
      now_is : map.get (as_map pair_cmp n) q ≡ cond (is_at (pair_cmp at) q) None (map.get (as_map pair_cmp m) q)
      now_is = get_at text_pairs n q
          ∙ (u q ∙ ap (cond (is_at (pair_cmp at) q) None) (sym (get_at text_pairs m q)))

      by_case : (b : Bool) → is_at (pair_cmp at) q ≡ b →
          (map.get (as_map pair_cmp n) q ≡ map.get old q)
          ⊎ ((q.0 ≡ uid) × (map.get (as_map pair_cmp n) q ≡ None) × WasOver old q)
      by_case true t =
          let same : at ≡ q = tells_apart text_pairs.exact at q t in
          let was = stood (as_map pair_cmp m) at row left there in inr (
            ap (λ (p : Pair). p.0) (sym same) ∙ own,
            now_is ∙ ap (λ (b : Bool). cond b None (map.get (as_map pair_cmp m) q)) t,
            (row, subst (λ (p : Pair). map.get old p ≡ Some row) same was, over),
          )
      by_case false f =
          let stays = now_is ∙ ap (λ (b : Bool). cond b None (map.get (as_map pair_cmp m) q)) f in
          elim (left q) [
            | inl as_it_was ↦ inl (stays ∙ as_it_was)
            | inr went ↦ inr (went.0, stays ∙ went.1, went.2)
          ]

  -- a row that waits or is held
  pub one_is_open : (new : RowMap) (last : RowMap) (at : Pair) (row : Progress) → HaveLeft uid old new →
      at.0 ≡ uid → map.get new at ≡ Some row → is_queued row ≡ true →
      AreLetGo uid old false last
  one_is_open new last at row left own there queued = λ over.
      let h = stood new at row left there in
      no_both _ queued (over at.1 row (subst (λ (u : Text). map.get old (u, at.1) ≡ Some row) own h))

  -- none is left
  pub all_have_left : (new : RowMap) → HaveLeft uid old new → IsRowOf uid new None →
      AreLetGo uid old true new
  all_have_left new left none = (were_over, map.same_map text_pairs.total text_pairs.exact new _ same)
    where
      were_over : AreOver uid old
      were_over dest row h = elim (left (uid, dest)) [
        | inl stays ↦ absurd (no_row row (sym h ∙ (sym stays ∙ none dest)))
        | inr went ↦ ap is_queued (inside row went.2.0 (sym h ∙ went.2.1)) ∙ went.2.2
      ]

      left_is : (q : Pair) → map.get (map.retain_keys old (λ at. is_other uid at.0)) q
          ≡ cond (is_other uid q.0) (map.get old q) None
      left_is q = map.get-retain_keys old (λ at. is_other uid at.0) q
          (λ x tie. ap (λ (p : Pair). is_other uid p.0) (sym (text_pairs.exact q x tie)))

      same : (q : Pair) → map.get new q ≡ map.get (map.retain_keys old (λ at. is_other uid at.0)) q
      same q = elim (same_or_not texts q.0 uid) [
        | inl own ↦
            let gone : map.get new q ≡ None =
            subst (λ (u : Text). map.get new (u, q.1) ≡ None) (sym own) (none q.1) in
            let other : is_other uid q.0 ≡ false =
            ap (λ (u : Text). is_other uid u) own ∙ ap not (ties_itself texts uid) in
            gone ∙ sym (left_is q ∙ ap (λ (b : Bool). cond b (map.get old q) None) other)
        | inr apart ↦
            let there = left_is q ∙ ap (λ (b : Bool). cond (not b) (map.get old q) None) apart in
            elim (left q) [
              | inl stays ↦ stays ∙ sym there
              | inr went ↦ absurd (no_both _
                  (ap (λ (u : Text). eq_by_cmp text_cmp u uid) went.0 ∙ ties_itself texts uid) apart)
            ]
      ]

-- ---- where pairs stand that begin with a text
not_first : (r s : Ordering) → is_gt (ordering_then r s) ≡ false → is_gt r ≡ false
not_first Less s h = refl
not_first Equal s h = refl
not_first Greater s h = h

from_nothing : (text : Text) → is_gt (text_cmp [] text) ≡ false
from_nothing [] = refl
from_nothing (x ∷ text) = refl

begins : (r s : Ordering) → is_gt r ≡ false → is_gt s ≡ false → is_gt (ordering_then r s) ≡ false
begins Less s h k = refl
begins Equal s h k = k
begins Greater s h k = h

le_is : (r : Ordering) → is_le r ≡ not (is_gt r)
le_is Less = refl
le_is Equal = refl
le_is Greater = refl

gt_of : (r : Ordering) → is_le r ≡ true → is_gt r ≡ false
gt_of Less h = refl
gt_of Equal h = refl
gt_of Greater h = absurd (let e : ⊥ = cc in e)

-- the pairs from (start, nothing) on are those whose first text is from start on
pub in_range : (start : Text) (at : Pair) → is_from start at.0 ≡ true →
    IsInRange pair_cmp (Included (start, [])) Unbounded at
in_range start at h = (begins (text_cmp start at.0) (text_cmp [] at.1) (gt_of _ h) (from_nothing at.1), tt)

le_of : (r : Ordering) → is_gt r ≡ false → is_le r ≡ true
le_of Less h = refl
le_of Equal h = refl
le_of Greater h = absurd (let e : ⊥ = cc in e)

pub of_range : (start : Text) (at : Pair) → IsInRange pair_cmp (Included (start, [])) Unbounded at →
    is_from start at.0 ≡ true
of_range start at h = le_of _ (not_first (text_cmp start at.0) (text_cmp [] at.1) h.0)

pub later_first : (at other : Pair) → is_gt (pair_cmp at other) ≡ false → is_from at.0 other.0 ≡ true
later_first at other h = le_of _ (not_first (text_cmp at.0 other.0) (text_cmp at.1 other.1) h)

equal_both : (r s : Ordering) → r ≡ ordering_reverse s → is_le r ≡ true → is_le s ≡ true → is_eq r ≡ true
equal_both Less Less e h k = absurd (let f : ⊥ = cc in f)
equal_both Less Equal e h k = absurd (let f : ⊥ = cc in f)
equal_both Less Greater e h k = k
equal_both Equal s e h k = refl
equal_both Greater s e h k = absurd (let f : ⊥ = cc in f)

-- two texts, each from the other on, are one
pub one_text : (a b : Text) → is_from a b ≡ true → is_from b a ≡ true → a ≡ b
one_text a b h k = tells_apart texts.exact a b
    (equal_both (text_cmp a b) (text_cmp b a) (texts.total.antisymm a b) h k)

itself_from : (a : Text) → is_from a a ≡ true
itself_from a = le_of_eq (text_cmp a a) (ties_itself texts a)
  where
    le_of_eq : (r : Ordering) → is_eq r ≡ true → is_le r ≡ true
    le_of_eq Less h = refl
    le_of_eq Equal h = refl
    le_of_eq Greater h = absurd (let e : ⊥ = cc in e)

-- ---- the first row from one on
abbrev Range : Pair → tree.BTreeMap Pair Progress → List (Pair × Progress) → Type 0
Range start rows r = IsRangeOf pair_cmp (Included start) Unbounded rows r

start_in : (start at : Pair) (from : Text) → start.0 ≡ from → start.1 ≡ [] → is_from from at.0 ≡ true →
    IsInRange pair_cmp (Included start) Unbounded at
start_in start at from s0 s1 h =
    let same : (from, []) ≡ start = λ j. (sym s0 j, sym s1 j) in
    subst (λ (p : Pair). IsInRange pair_cmp (Included p) Unbounded at) same (in_range from at h)

from_start : (start at : Pair) (from : Text) → start.0 ≡ from → start.1 ≡ [] →
    IsInRange pair_cmp (Included start) Unbounded at → is_from from at.0 ≡ true
from_start start at from s0 s1 h =
    let same : start ≡ (from, []) = λ j. (s0 j, s1 j) in
    of_range from at (subst (λ (p : Pair). IsInRange pair_cmp (Included p) Unbounded at) same h)

module _ (rows : tree.BTreeMap Pair Progress) (start : Pair) (uid : Text) (s0 : start.0 ≡ uid) (s1 : start.1 ≡ [])
    (r : List (Pair × Progress)) (h : Range start rows r) where
  pub no_row_from : r ≡ [] → IsRowOf uid (as_map pair_cmp rows) None
  no_row_from e dest = get_at text_pairs rows (uid, dest)
      ∙ h.5 e (uid, dest) (start_in start (uid, dest) uid s0 s1 (itself_from uid))

  module _ (at : Pair) (row : Progress) (first : slice_get r 0 ≡ Some (at, row)) where
    there : IsEntryInRange pair_cmp (Included start) Unbounded rows (at, row)
    there = subst (λ (o : Option (Pair × Progress)).
        IfSome o (IsEntryInRange pair_cmp (Included start) Unbounded rows)) first h.1

    pub row_from : map.get (as_map pair_cmp rows) at ≡ Some row
    row_from = get_at text_pairs rows at ∙ there.1

    -- where the first row from there on is of another uid, there is none of that one
    pub other_row_from : (at.0 ≡ uid → ⊥) → IsRowOf uid (as_map pair_cmp rows) None
    other_row_from other dest = get_at text_pairs rows (uid, dest) ∙ by_case (tree.get pair_cmp rows (uid, dest)) refl
      where
        before : is_some (tree.get pair_cmp rows (uid, dest)) ≡ true → at.0 ≡ uid
        before some =
            let le = subst (λ (o : Option (Pair × Progress)). IfSome o (λ e. IsLeBy pair_cmp e.0 (uid, dest))) first
            (h.2 (uid, dest) (start_in start (uid, dest) uid s0 s1 (itself_from uid)) some) in
            one_text at.0 uid (later_first at (uid, dest) le) (from_start start at uid s0 s1 there.0)

        by_case : (o : Option Progress) → tree.get pair_cmp rows (uid, dest) ≡ o →
            tree.get pair_cmp rows (uid, dest) ≡ None
        by_case None e = e
        by_case (Some found) e = absurd (other (before (ap is_some e)))

-- ---- the first caller from one on
abbrev Set : Type 0
Set = sorted.BTreeSet Pair

module _ (arrivals : Set) (start : Pair) (from : Text) (s0 : start.0 ≡ from) (s1 : start.1 ≡ [])
    (r : List Pair) (h : sorted.IsKeyRangeOf pair_cmp (Included start) Unbounded arrivals r) where
  pub no_caller_from : r ≡ [] → IsCallerFrom from arrivals None
  no_caller_from e at has = by_case (is_from from at.0) refl
    where
      by_case : (b : Bool) → is_from from at.0 ≡ b → is_from from at.0 ≡ false
      by_case true t = absurd (no_both _ has (h.5 e at (start_in start at from s0 s1 t)))
      by_case false f = f

  pub first_from : (first : Pair) (caller : Text) → slice_get r 0 ≡ Some first → caller ≡ first.0 →
      IsCallerFrom from arrivals (Some caller)
  first_from first caller e same =
      subst (λ (c : Text). IsCallerFrom from arrivals (Some c)) (sym same) (
        from_start start first from s0 s1 there.0,
        (first.1, there.1),
        λ at has k. later_first first at (subst (λ (o : Option Pair). IfSome o (λ p. IsLeBy pair_cmp p at)) e
            (h.2 at (start_in start at from s0 s1 k) has)),
      )
    where
      there : sorted.IsKeyInRange pair_cmp (Included start) Unbounded arrivals first
      there = subst (λ (o : Option Pair).
          IfSome o (sorted.IsKeyInRange pair_cmp (Included start) Unbounded arrivals)) e h.1

-- ---- the text right after one
from_zero : (n : ℕ) (r : Ordering) → nat_cmp 0 n ≡ r → is_gt r ≡ false
from_zero n Less e = refl
from_zero n Equal e = refl
from_zero n Greater e = absurd (let l : n < 0 = ranked 0 n Greater (sym e) in omega (arith, l))

next_then : (r s t : Ordering) → is_le s ≡ is_lt t → is_le (ordering_then r s) ≡ is_lt (ordering_then r t)
next_then Less s t h = refl
next_then Equal s t h = h
next_then Greater s t h = refl

-- what is from it on is what is later than the one before it
pub next_from : (text other : Text) → is_from (text ++ 0 ∷ []) other ≡ is_lt (text_cmp text other)
next_from [] [] = refl
next_from [] (y ∷ ys) = le_of _ (begins (nat_cmp 0 y) (text_cmp [] ys) (from_zero y (nat_cmp 0 y) refl) (from_nothing ys))
next_from (x ∷ xs) [] = refl
next_from (x ∷ xs) (y ∷ ys) = next_then (nat_cmp x y) _ _ (next_from xs ys)

less_of : (r : Ordering) → is_lt r ≡ true → r ≡ Less
less_of Less h = refl
less_of Equal h = absurd (let e : ⊥ = cc in e)
less_of Greater h = absurd (let e : ⊥ = cc in e)

-- what is later than a text that is from another on is so, too
later_from : (a b c : Text) → is_from a b ≡ true → is_lt (text_cmp b c) ≡ true → is_from a c ≡ true
later_from a b c h k = by_case (text_cmp a b) refl h
  where
    then_less : text_cmp b c ≡ Less
    then_less = less_of (text_cmp b c) k

    by_case : (r : Ordering) → text_cmp a b ≡ r → is_le r ≡ true → is_from a c ≡ true
    by_case Less e l = ap is_le (texts.total.trans a b c e then_less)
    by_case Equal e l = ap is_le (texts.total.congr a b c e ∙ then_less)
    by_case Greater e l = absurd (let f : ⊥ = cc in f)

same_of : (r : Ordering) → is_le r ≡ true → is_lt r ≡ false → r ≡ Equal
same_of Less h k = absurd (let e : ⊥ = cc in e)
same_of Equal h k = refl
same_of Greater h k = absurd (let e : ⊥ = cc in e)

less_apart : (r s : Ordering) → is_lt r ≡ true → is_eq (ordering_then r s) ≡ false
less_apart Less s h = refl
less_apart Equal s h = absurd (let e : ⊥ = cc in e)
less_apart Greater s h = refl

-- ---- arrivals
abbrev pub HavePassed : Text → Text → Set → Set → Type 0
HavePassed uid from old new = (at : Pair) → sorted.contains pair_cmp new at
    ≡ cond (is_from from at.0) (sorted.contains pair_cmp old at)
    (sorted.contains pair_cmp old at && is_other uid at.1)

-- all that are left from a caller on
abbrev pub left_from : Text → Set → ℕ
left_from from arrivals = length (filter (λ (at : Pair). is_from from at.0) arrivals.keys)

pub none_has_passed : (uid from : Text) (old : Set) → from ≡ [] → HavePassed uid from old old
none_has_passed uid from old e at = sym (ap (λ (b : Bool). cond b (sorted.contains pair_cmp old at)
    (sorted.contains pair_cmp old at && is_other uid at.1))
    (ap (λ (t : Text). is_from t at.0) e ∙ le_of _ (from_nothing at.0)))

neither : (b : Bool) → (false && b) ≡ false
neither b = refl

one_not : (b : Bool) → cond b false true ≡ (true && not b)
one_not true = refl
one_not false = refl

never : (b : Bool) → cond b false false ≡ false
never true = refl
never false = refl

module _ (uid from caller : Text) (old m n : Set) (passed : HavePassed uid from old m)
    (is : IsCallerFrom from m (Some caller))
    (gone : (q : Pair) → sorted.contains pair_cmp n q
    ≡ cond (is_at (pair_cmp (caller, uid)) q) false (sorted.contains pair_cmp m q)) where
  abbrev has : Set → Pair → Bool
  has s q = sorted.contains pair_cmp s q

  abbrev taken : Pair → Bool
  taken q = is_at (pair_cmp (caller, uid)) q

  untouched : (q : Pair) → taken q ≡ false → has n q ≡ has m q
  untouched q f = gone q ∙ ap (λ (b : Bool). cond b false (has m q)) f

  was : (q : Pair) (b : Bool) → is_from from q.0 ≡ b → has m q ≡ cond b (has old q) (has old q && is_other uid q.1)
  was q b e = passed q ∙ ap (λ (x : Bool). cond x (has old q) (has old q && is_other uid q.1)) e

  -- a later caller
  later : (q : Pair) → is_lt (text_cmp caller q.0) ≡ true → has n q ≡ has old q
  later q l = untouched q (less_apart (text_cmp caller q.0) (text_cmp uid q.1) l)
      ∙ was q true (later_from from caller q.0 is.0 l)

  -- one whose turn has come before
  before : (q : Pair) → is_from from q.0 ≡ false → has n q ≡ (has old q && is_other uid q.1)
  before q f = untouched q (by_case (taken q) refl) ∙ was q false f
    where
      by_case : (b : Bool) → taken q ≡ b → taken q ≡ false
      by_case true t =
          let same : (caller, uid) ≡ q = tells_apart text_pairs.exact (caller, uid) q t in
          absurd (no_both _ (ap (λ (p : Pair). is_from from p.0) (sym same) ∙ is.0) f)
      by_case false t = t

  -- the caller whose turn it is, and those in between, who brought nothing
  here : (q : Pair) → is_lt (text_cmp caller q.0) ≡ false → is_from from q.0 ≡ true →
      has n q ≡ (has old q && is_other uid q.1)
  here q l f = by_case (has m q) refl
    where
      old_is : has old q ≡ has m q
      old_is = sym (was q true f)

      by_case : (b : Bool) → has m q ≡ b → has n q ≡ (has old q && is_other uid q.1)
      by_case true t =
          let tie : text_cmp caller q.0 ≡ Equal = same_of (text_cmp caller q.0) (is.2 q t f) l in
          let one : taken q ≡ eq_by_cmp text_cmp q.1 uid =
          ap (λ (r : Ordering). is_eq (ordering_then r (text_cmp uid q.1))) tie
          ∙ (eq_by_cmp_equiv texts.total).symm uid q.1 in
          gone q ∙ (ap (λ (b : Bool). cond b false (has m q)) one
          ∙ (ap (cond (eq_by_cmp text_cmp q.1 uid) false) t
          ∙ (one_not (eq_by_cmp text_cmp q.1 uid) ∙ ap (λ (b : Bool). b && is_other uid q.1) (sym (old_is ∙ t)))))
      by_case false t =
          gone q ∙ (ap (cond (taken q) false) t
          ∙ (never (taken q) ∙ ap (λ (b : Bool). b && is_other uid q.1) (sym (old_is ∙ t))))

  pub one_more_passes : HavePassed uid (caller ++ 0 ∷ []) old n
  one_more_passes q = by_case (is_lt (text_cmp caller q.0)) refl (is_from from q.0) refl
      ∙ sym (ap (λ (b : Bool). cond b (has old q) (has old q && is_other uid q.1)) (next_from caller q.0))
    where
      by_case : (b : Bool) → is_lt (text_cmp caller q.0) ≡ b → (d : Bool) → is_from from q.0 ≡ d →
          has n q ≡ cond (is_lt (text_cmp caller q.0)) (has old q) (has old q && is_other uid q.1)
      by_case true l d f = later q l
          ∙ sym (ap (λ (b : Bool). cond b (has old q) (has old q && is_other uid q.1)) l)
      by_case false l true f = here q l f
          ∙ sym (ap (λ (b : Bool). cond b (has old q) (has old q && is_other uid q.1)) l)
      by_case false l false f = before q f
          ∙ sym (ap (λ (b : Bool). cond b (has old q) (has old q && is_other uid q.1)) l)

-- all have passed
pub all_have_passed : (uid from : Text) (old new : Set) → HavePassed uid from old new →
    IsCallerFrom from new None →
    as_set pair_cmp new ≡ set.retain (as_set pair_cmp old) (λ at. is_other uid at.1)
all_have_passed uid from old new passed none = set.same_set text_pairs.total text_pairs.exact (as_set pair_cmp new) _ (λ q.
    has_at text_pairs new q ∙ (by_case q (is_from from q.0) refl ∙ sym (left_is q)))
  where
    left_is : (q : Pair) → set.contains (set.retain (as_set pair_cmp old) (λ at. is_other uid at.1)) q
        ≡ (sorted.contains pair_cmp old q && is_other uid q.1)
    left_is q = set.contains-retain (as_set pair_cmp old) (λ at. is_other uid at.1) q
        (λ x tie. ap (λ (p : Pair). is_other uid p.1) (sym (text_pairs.exact q x tie)))
        ∙ ap (λ (b : Bool). b && is_other uid q.1) (has_at text_pairs old q)

    was_none : (q : Pair) → is_from from q.0 ≡ true → (b : Bool) → sorted.contains pair_cmp new q ≡ b →
        sorted.contains pair_cmp new q ≡ false
    was_none q f true t = absurd (no_both _ f (none q t))
    was_none q f false t = t

    by_case : (q : Pair) (b : Bool) → is_from from q.0 ≡ b →
        sorted.contains pair_cmp new q ≡ (sorted.contains pair_cmp old q && is_other uid q.1)
    by_case q true f =
        let gone = was_none q f (sorted.contains pair_cmp new q) refl in
        let was : sorted.contains pair_cmp new q ≡ sorted.contains pair_cmp old q =
        passed q ∙ ap (λ (b : Bool). cond b (sorted.contains pair_cmp old q)
        (sorted.contains pair_cmp old q && is_other uid q.1)) f in
        gone ∙ ap (λ (b : Bool). b && is_other uid q.1) (sym gone ∙ was)
    by_case q false f = passed q ∙ ap (λ (b : Bool). cond b (sorted.contains pair_cmp old q)
        (sorted.contains pair_cmp old q && is_other uid q.1)) f

-- ---- the callers that are left are fewer
module _ (p q : Pair → Bool) where
  abbrev count : (Pair → Bool) → List Pair → ℕ
  count t ks = length (filter t ks)

  pushed : (b : Bool) (k : Pair) (ks : List Pair) → length (cond b (k ∷ ks) ks) ≡ cond b (length ks + 1) (length ks)
  pushed true k ks = omega arith
  pushed false k ks = refl

  no_more : ((k : Pair) → p k ≡ true → q k ≡ true) → (ks : List Pair) → count p ks ≤ count q ks
  no_more each [] = omega arith
  no_more each (k ∷ ks) = by_case (p k) refl (q k) refl (no_more each ks)
    where
      by_case : (a : Bool) → p k ≡ a → (b : Bool) → q k ≡ b → count p ks ≤ count q ks →
          length (cond (p k) (k ∷ filter p ks) (filter p ks)) ≤ length (cond (q k) (k ∷ filter q ks) (filter q ks))
      by_case true s true t h =
          let a = pushed (p k) k (filter p ks) ∙ ap (λ (b : Bool). cond b (count p ks + 1) (count p ks)) s in
          let b = pushed (q k) k (filter q ks) ∙ ap (λ (b : Bool). cond b (count q ks + 1) (count q ks)) t in
          omega (arith, a, b, h)
      by_case true s false t h = absurd (no_both _ (each k s) t)
      by_case false s true t h =
          let a = pushed (p k) k (filter p ks) ∙ ap (λ (b : Bool). cond b (count p ks + 1) (count p ks)) s in
          let b = pushed (q k) k (filter q ks) ∙ ap (λ (b : Bool). cond b (count q ks + 1) (count q ks)) t in
          omega (arith, a, b, h)
      by_case false s false t h =
          let a = pushed (p k) k (filter p ks) ∙ ap (λ (b : Bool). cond b (count p ks + 1) (count p ks)) s in
          let b = pushed (q k) k (filter q ks) ∙ ap (λ (b : Bool). cond b (count q ks + 1) (count q ks)) t in
          omega (arith, a, b, h)

  fewer : (t : Pair → Bool) → ((k : Pair) → p k ≡ true → q k ≡ true) →
      ((k : Pair) → t k ≡ true → (q k ≡ true) × (p k ≡ false)) →
      (ks : List Pair) → list_any t ks ≡ true → count p ks < count q ks
  fewer t each this [] some = absurd (let e : ⊥ = cc in e)
  fewer t each this (k ∷ ks) some =
      by_case (fewer t each this ks) (t k) refl (p k) refl (q k) refl some
    where
      a : (b : Bool) → p k ≡ b → length (cond (p k) (k ∷ filter p ks) (filter p ks)) ≡ cond b (count p ks + 1) (count p ks)
      a b e = pushed (p k) k (filter p ks) ∙ ap (λ (x : Bool). cond x (count p ks + 1) (count p ks)) e

      b : (x : Bool) → q k ≡ x → length (cond (q k) (k ∷ filter q ks) (filter q ks)) ≡ cond x (count q ks + 1) (count q ks)
      b x e = pushed (q k) k (filter q ks) ∙ ap (λ (x : Bool). cond x (count q ks + 1) (count q ks)) e

      by_case : (list_any t ks ≡ true → count p ks < count q ks) →
          (x : Bool) → t k ≡ x → (y : Bool) → p k ≡ y → (z : Bool) → q k ≡ z → (x || list_any t ks) ≡ true →
          length (cond (p k) (k ∷ filter p ks) (filter p ks)) < length (cond (q k) (k ∷ filter q ks) (filter q ks))
      by_case later true e y f z g h =
          let both = this k e in
          let c = a false both.1 in
          let d = b true both.0 in
          let l = no_more each ks in omega (arith, c, d, l)
      by_case later false e true f z g h =
          let c = a true f in
          let d = b true (each k f) in
          let l = later h in omega (arith, c, d, l)
      by_case later false e false f true g h =
          let c = a false f in
          let d = b true g in
          let l = later h in omega (arith, c, d, l)
      by_case later false e false f false g h =
          let c = a false f in
          let d = b false g in
          let l = later h in omega (arith, c, d, l)

  removed : (u : Pair → Bool) (ks : List Pair) → count p (remove_key u ks) ≤ count p ks
  removed u [] = omega arith
  removed u (k ∷ ks) = by_case (u k) (removed u ks)
    where
      more : (b : Bool) (xs : List Pair) → length xs ≤ length (cond b (k ∷ xs) xs)
      more true xs = omega arith
      more false xs = omega arith

      both : (b : Bool) (xs ys : List Pair) → length xs ≤ length ys →
          length (cond b (k ∷ xs) xs) ≤ length (cond b (k ∷ ys) ys)
      both true xs ys h = omega (arith, h)
      both false xs ys h = h

      by_case : (b : Bool) → count p (remove_key u ks) ≤ count p ks →
          count p (cond b ks (k ∷ remove_key u ks)) ≤ length (cond (p k) (k ∷ filter p ks) (filter p ks))
      by_case true h = more (p k) (filter p ks)
      by_case false h = both (p k) (filter p (remove_key u ks)) (filter p ks) h

not_less_itself : (r : Ordering) → is_eq r ≡ true → is_lt r ≡ false
not_less_itself Less h = absurd (let e : ⊥ = cc in e)
not_less_itself Equal h = refl
not_less_itself Greater h = refl

pub fewer_left : (from caller : Text) (m n : Set) (u : Pair → Bool) → IsCallerFrom from m (Some caller) →
    n.keys ≡ remove_key u m.keys → left_from (caller ++ 0 ∷ []) n < left_from from m
fewer_left from caller m n u is gone =
    let p : Pair → Bool = λ at. is_from (caller ++ 0 ∷ []) at.0 in
    let q : Pair → Bool = λ at. is_from from at.0 in
    let one : Pair = (caller, is.1.0) in
    let each : (k : Pair) → p k ≡ true → q k ≡ true =
    λ k h. later_from from caller k.0 is.0 (sym (next_from caller k.0) ∙ h) in
    let this : (k : Pair) → is_at (pair_cmp one) k ≡ true → (q k ≡ true) × (p k ≡ false) = λ k t.
    let same : one ≡ k = tells_apart text_pairs.exact one k t in
    subst (λ (x : Pair). (is_from from x.0 ≡ true) × (is_from (caller ++ 0 ∷ []) x.0 ≡ false)) same (
      is.0,
      next_from caller caller ∙ not_less_itself (text_cmp caller caller) (ties_itself texts caller),
    ) in
    let less = fewer p q (is_at (pair_cmp one)) each this m.keys is.1.1 in
    let few = removed p p u m.keys in
    let now = ap (λ (ks : List Pair). length (filter p ks)) gone in omega (arith, less, few, now)

-- ---- what a loop over rows finds
pub one_less : (n m : ℕ) (b : Bool) → b ≡ true → n + cond b 1 0 ≡ m → n < m
one_less n m true h e = omega (arith, e)
one_less n m false h e = absurd (let f : ⊥ = cc in f)
