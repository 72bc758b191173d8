-- One response more is counted for its caller, by its status.
use Rattle.std.proofs.Common.{◌≡◌, ◌+◌, ◌-◌, ◌<◌, ◌≤◌, ◌&&◌, ◌||◌, ℕ, Bool, true, false, min, cond, eqb-true, List, [], ◌∷◌, ◌++◌, length, map, get_or, nat_lt, position, Option, Some, None, Result, Ok, Err, refl, sym, ap, subst, ◌∙◌, arith, bytes_eq, sum_by, take}
use Rattle.std.specs.Prelude.{IfNone, MatchBool, nat_eq}
use Rattle.std.specs.Option.{option_eq}
use Rattle.std.specs.List.{IsDistinct, list_any}
use Rattle.std.specs.Cmp.{IsEquivalence}
use Rattle.std.proofs.Math.ListN.{set}
use Rattle.std.proofs.Math.Seq.{map-set_same}
use Rattle.std.proofs.lemmas.Cmp.{and_equiv, nat_eq_equiv, nat_list_eq_equiv, on_equiv}
use Rattle.std.proofs.lemmas.List.{map-append, take_all, take_more}
use Rattle.std.proofs.lemmas.List.Quantifiers.{position-Some}
use Rattle.std.proofs.lemmas.List.Sums.{sum_by-append, sum_by-cons}
use Rattle.std.proofs.lemmas.Map.Keys.{IsDistinct-push}
use Rattle.std.proofs.lemmas.Slice.Eq.{bytes_eq-Decides}
use Rattle.dr_base.specs.Texts.{Text}
use Rattle.dr_run_answer.specs.Intakes.{if_so, most}
use Rattle.dr_run_answer.specs.Responses.{CountsStatus, IsCountedUnder, counted_as, counted_for, has_own, is_kind_of, is_line_of, kinds_of, names_of, same_names, same_status}
use Rattle.dr_run_answer.specs.declared.responses.ResponseCount.{ResponseCount}
use Rattle.dr_run_answer.proofs.Totals.{added_sum, is_none, none_before, raised_sum}

abbrev pub raised_count : ResponseCount → ResponseCount
raised_count line = record { caller = line.caller; status = line.status; count = min most (line.count + 1) }

abbrev pub first_count : Text → Option ℕ → ResponseCount
first_count caller status = record { caller = caller; status = status; count = 1 }

both : (a b : Bool) → (a && b) ≡ true → (a ≡ true) × (b ≡ true)
both true b h = (refl, h)
both false b h = absurd cc

pub option_same : (a b : Option ℕ) → same_status a b ≡ true → a ≡ b
option_same None None h = refl
option_same None (Some b) h = absurd cc
option_same (Some a) None h = absurd cc
option_same (Some a) (Some b) h = ap (λ (n : ℕ). Some n) (eqb-true a b h)

status_equiv : IsEquivalence same_status
status_equiv = record { refl = itself; symm = turned; congr = λ a b c h. ap (λ (o : Option ℕ). same_status o c) (option_same a b h) }
  where
    itself : (a : Option ℕ) → same_status a a ≡ true
    itself None = refl
    itself (Some a) = nat_eq_equiv.refl a

    turned : (a b : Option ℕ) → same_status a b ≡ same_status b a
    turned None None = refl
    turned None (Some b) = refl
    turned (Some a) None = refl
    turned (Some a) (Some b) = nat_eq_equiv.symm a b

names_equal : IsEquivalence same_names
names_equal = and_equiv (on_equiv (λ (k : Text × Option ℕ). k.0) nat_list_eq_equiv) (on_equiv (λ (k : Text × Option ℕ). k.1) status_equiv)

-- ---- how many statuses have a line

pub one_kind_more : (caller : Text) (lines : List ResponseCount) (i : ℕ) (d line : ResponseCount) (old more new : ℕ) → i < length lines → line ≡ get_or lines i d → old ≡ min most (kinds_of caller (take i lines))
    → more ≡ if_so (is_kind_of caller line) 1 → new ≡ min (old + more) most → new ≡ min most (kinds_of caller (take (i + 1) lines))
one_kind_more caller lines i d line old more new within same so_far one sum =
    let f : ResponseCount → ℕ = λ line. if_so (is_kind_of caller line) 1 in
    let step : kinds_of caller (take (i + 1) lines) ≡ kinds_of caller (take i lines) + (f (get_or lines i d) + 0) =
    ap (sum_by f) (take_more lines i d within) ∙ sum_by-append f (take i lines) (get_or lines i d ∷ []) ∙ ap (λ n. sum_by f (take i lines) + n) (sum_by-cons f (get_or lines i d) []) in
    let its : more ≡ f (get_or lines i d) = one ∙ ap f same in
    omega (arith, so_far, sum, step, its)

pub all_kinds : (caller : Text) (lines : List ResponseCount) (i count : ℕ) → length lines ≤ i → count ≡ min most (kinds_of caller (take i lines)) → count ≡ min most (kinds_of caller lines)
all_kinds caller lines i count end so_far = so_far ∙ ap (λ (l : List ResponseCount). min most (kinds_of caller l)) (take_all i lines end)

-- ---- under what a response is counted

pub under_own : (caller : Text) (status : ℕ) (lines : List ResponseCount) (place : ℕ) → position (is_line_of caller (Some status)) lines ≡ Some place → IsCountedUnder caller status lines (Some status)
under_own caller status lines place there =
    let P : Option ℕ → Type 0 = λ o. IfNone o (kinds_of caller lines < 16) in
    (refl, subst P (sym there) tt)

pub under_new : (caller : Text) (status : ℕ) (lines : List ResponseCount) (kinds : ℕ) → kinds ≡ min most (kinds_of caller lines) → kinds < 16 → IsCountedUnder caller status lines (Some status)
under_new caller status lines kinds are less = (refl, few (position (is_line_of caller (Some status)) lines))
  where
    few : (o : Option ℕ) → IfNone o (kinds_of caller lines < 16)
    few None = omega (arith, are, less)
    few (Some place) = tt

pub under_others : (caller : Text) (status : ℕ) (lines : List ResponseCount) (kinds : ℕ) → position (is_line_of caller (Some status)) lines ≡ None → kinds ≡ min most (kinds_of caller lines) → 16 ≤ kinds → IsCountedUnder caller status lines None
under_others caller status lines kinds none are enough = (none, omega (arith, are, enough))

-- ---- a line is raised

module _ (caller : Text) (status : ℕ) (under : Option ℕ) (xs : List ResponseCount) (rule : IsCountedUnder caller status xs under) where
  abbrev here : ResponseCount → Bool
  here = is_line_of caller under

  -- the line is of that caller and status
  named : (x : ResponseCount) → here x ≡ true → (x.caller ≡ caller) × (x.status ≡ under)
  named x h = let parts = both (bytes_eq x.caller caller) _ h in ((bytes_eq-Decides x.caller caller).0 parts.0, option_same x.status under parts.1)

  pub told_at : (i : ℕ) (y d : ResponseCount) → position here xs ≡ Some i → y ≡ raised_count (get_or xs i d) → CountsStatus caller status xs (set xs i y)
  told_at i y d found same =
      let at = position-Some here xs i d found in
      let x = get_or xs i d in
      let own = named x at.1 in
      let says : y.count ≡ min most (x.count + 1) = ap (λ (line : ResponseCount). line.count) same in
      record {
        under = under;
        rule = rule;
        apart = λ apart. subst (IsDistinct same_names) (sym (map-set_same (λ (line : ResponseCount). (line.caller, line.status)) xs i y d (ap (λ (line : ResponseCount). (line.caller, line.status)) same))) apart;
        few = λ other few.
            let f : ResponseCount → Bool = is_kind_of other in
            let small : kinds_of other xs + if_so (f x) 0 ≤ most = let z = no_more_than_none (f x) in omega (arith, few, z) in
            let kept = raised_sum f (λ line. 1) xs i y d 0 at.0 (ap f same) (omega arith) small in
            let z = no_more_than_none (f x) in
            omega (arith, few, kept, z);
        whole = λ other small.
            let f : ResponseCount → Bool = λ line. bytes_eq line.caller other in
            let Sum : ℕ = counted_for other xs in
            let P : Text → Type 0 = λ name. Sum + if_so (bytes_eq name other) 1 ≤ most in
            raised_sum f (λ line. line.count) xs i y d 1 at.0 (ap f same) says (subst P (sym own.0) small) ∙ ap (λ name. Sum + if_so (bytes_eq name other) 1) own.0;
        one = λ other kind small.
            let f : ResponseCount → Bool = is_line_of other kind in
            let Sum : ℕ = counted_as other kind xs in
            let its : f x ≡ (bytes_eq caller other && same_status under kind) = λ j. bytes_eq (own.0 j) other && same_status (own.1 j) kind in
            let P : Bool → Type 0 = λ b. Sum + if_so b 1 ≤ most in
            raised_sum f (λ line. line.count) xs i y d 1 at.0 (ap f same) says (subst P (sym its) small) ∙ ap (λ b. Sum + if_so b 1) its;
      }
    where
      no_more_than_none : (b : Bool) → if_so b 0 ≡ 0
      no_more_than_none true = refl
      no_more_than_none false = refl

  -- ---- a line is added

  same_any : (ys : List ResponseCount) → list_any here ys ≡ list_any (same_names (caller, under)) (names_of ys)
  same_any [] = refl
  same_any (x ∷ ys) = λ i. names_equal.symm (x.caller, x.status) (caller, under) i || same_any ys i

  -- a status gets a line of its own only where fewer than 16 have one
  still_few : (u : Option ℕ) → IsCountedUnder caller status xs u → position (is_line_of caller u) xs ≡ None → (other : Text) → kinds_of other xs ≤ 16 → kinds_of other xs + if_so (bytes_eq caller other && has_own u) 1 ≤ 16
  still_few None r none other few = let n = nothing (bytes_eq caller other) in omega (arith, few, n)
    where
      nothing : (b : Bool) → if_so (b && false) 1 ≡ 0
      nothing true = refl
      nothing false = refl
  still_few (Some own) r none other few =
      let Q : ℕ → Type 0 = λ s. position (is_line_of caller (Some s)) xs ≡ None in
      let gone : position (is_line_of caller (Some status)) xs ≡ None = subst Q r.0 none in
      let P : Option ℕ → Type 0 = λ o. IfNone o (kinds_of caller xs < 16) in
      let less : kinds_of caller xs < 16 = subst P gone r.1 in
      by_name (bytes_eq caller other) refl less
    where
      by_name : (b : Bool) → bytes_eq caller other ≡ b → kinds_of caller xs < 16 → kinds_of other xs + if_so (b && true) 1 ≤ 16
      by_name true is less =
          let whose : caller ≡ other = (bytes_eq-Decides caller other).0 is in
          let same : kinds_of caller xs ≡ kinds_of other xs = ap (λ (t : Text). kinds_of t xs) whose in
          omega (arith, less, same)
      by_name false is less = omega (arith, few)

  pub told_new : (ys : List ResponseCount) → position here xs ≡ None → ys ≡ xs ++ first_count caller under ∷ [] → CountsStatus caller status xs ys
  told_new ys none all =
      let Counts : List ResponseCount → Type 0 = λ zs. CountsStatus caller status xs zs in
      let y = first_count caller under in
      let names : names_of (xs ++ y ∷ []) ≡ names_of xs ++ (caller, under) ∷ [] = map-append (λ (line : ResponseCount). (line.caller, line.status)) xs (y ∷ []) in
      let absent : list_any (same_names (caller, under)) (names_of xs) ≡ false = sym (same_any xs) ∙ none_before here xs (is_none _ _ none) in
      subst Counts (sym all)
      (record {
        under = under;
        rule = rule;
        apart = λ apart. subst (IsDistinct same_names) (sym names) (IsDistinct-push names_equal (names_of xs) (caller, under) apart absent);
        few = λ other few.
            let kept = added_sum (is_kind_of other) (λ line. 1) xs y in
            let room = still_few under rule none other few in
            omega (arith, kept, room);
        whole = λ other small. added_sum (λ (line : ResponseCount). bytes_eq line.caller other) (λ line. line.count) xs y;
        one = λ other kind small. added_sum (is_line_of other kind) (λ line. line.count) xs y;
      })

  pub told_first : (ys : List ResponseCount) (b : Bool) → position here xs ≡ None → MatchBool b (ys ≡ xs ++ first_count caller under ∷ []) (ys ≡ xs) → MatchBool b (CountsStatus caller status xs ys) (ys ≡ xs)
  told_first ys true none all = told_new ys none all
  told_first ys false none all = all
