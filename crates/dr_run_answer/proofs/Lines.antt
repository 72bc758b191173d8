-- Lines of what came lately: raised, added, and summed up.
use Rattle.std.proofs.Common.{◌≡◌, ◌+◌, ◌-◌, ◌<◌, ◌≤◌, ◌&&◌, ◌||◌, ℕ, Bool, true, false, min, cond, eqb-true, List, [], ◌∷◌, ◌++◌, length, map, get_or, nat_lt, not, position, Option, Some, None, Result, Ok, Err, refl, sym, ap, subst, ◌∙◌, arith, bytes_eq, sum_by, take}
use Rattle.std.specs.Prelude.{MatchBool, nat_eq}
use Rattle.std.specs.List.{IsDistinct, list_any}
use Rattle.std.specs.Cmp.{IsEquivalence}
use Rattle.std.proofs.Math.ListN.{set}
use Rattle.std.proofs.Math.Seq.{map-set_same}
use Rattle.std.proofs.lemmas.Cmp.{and_equiv, nat_list_eq_equiv, on_equiv}
use Rattle.std.proofs.lemmas.List.{map-append, take_all, take_more}
use Rattle.std.proofs.lemmas.List.Quantifiers.{position-Some}
use Rattle.std.proofs.lemmas.List.Sums.{sum_by-append, sum_by-cons, sum_by_more_le}
use Rattle.std.proofs.lemmas.Map.Keys.{IsDistinct-push}
use Rattle.std.proofs.lemmas.Slice.Eq.{bytes_eq-Decides}
use Rattle.dr_base.specs.Texts.{Text}
use Rattle.dr_run_answer.specs.Intakes.{AddsAt, AddsRecentLine, AddsRecent, AreRecent, GrowsAt, SumsUp, if_so, is_by, is_of_hour, is_within, most, names_of, said_by, said_within, same_names}
use Rattle.dr_run_answer.specs.declared.intake.Recent.{Recent}
use Rattle.dr_run_answer.specs.declared.noted.Minute.{Minute}
use Rattle.dr_run_answer.proofs.Totals.{added_sum, is_none, none_before, raised_sum}

abbrev pub raised_line : Recent → ℕ → ℕ → Recent
raised_line line stored refused = record { caller = line.caller; modality = line.modality; stored = min most (line.stored + stored); refused = min most (line.refused + refused) }

both : (a b : Bool) → (a && b) ≡ true → (a ≡ true) × (b ≡ true)
both true b h = (refl, h)
both false b h = absurd cc

-- of that caller and modality: its names are these
named : (caller modality : Text) (r : Recent) → is_by caller modality r ≡ true → (r.caller ≡ caller) × (r.modality ≡ modality)
named caller modality r h = let parts = both (bytes_eq r.caller caller) _ h in ((bytes_eq-Decides r.caller caller).0 parts.0, (bytes_eq-Decides r.modality modality).0 parts.1)

names_equal : IsEquivalence same_names
names_equal = and_equiv (on_equiv (λ (k : Text × Text). k.0) nat_list_eq_equiv) (on_equiv (λ (k : Text × Text). k.1) nat_list_eq_equiv)

-- ---- by caller and modality

module _ (line : Recent) where
  abbrev here : Recent → Bool
  here = is_by line.caller line.modality

  pub by_line : (xs : List Recent) (i : ℕ) (y d : Recent) → position here xs ≡ Some i → y ≡ raised_line (get_or xs i d) line.stored line.refused → AddsRecentLine line xs (set xs i y)
  by_line xs i y d found same =
      let at = position-Some here xs i d found in
      let x = get_or xs i d in
      let own = named line.caller line.modality x at.1 in
      let alike : (caller modality : Text) → is_by caller modality y ≡ is_by caller modality x = λ caller modality. ap (is_by caller modality) same in
      let grown : (figure : Recent → ℕ) (more : ℕ) → figure y ≡ min most (figure x + more) → (caller modality : Text)
      → sum_by (λ (r : Recent). if_so (is_by caller modality r) (figure r)) xs + if_so (is_by caller modality line) more ≤ most
      → sum_by (λ (r : Recent). if_so (is_by caller modality r) (figure r)) (set xs i y) ≡ sum_by (λ (r : Recent). if_so (is_by caller modality r) (figure r)) xs + if_so (is_by caller modality line) more =
      λ figure more says caller modality small.
      let Sum : ℕ = sum_by (λ (r : Recent). if_so (is_by caller modality r) (figure r)) xs in
      let its : is_by caller modality x ≡ is_by caller modality line = λ j. bytes_eq (own.0 j) caller && bytes_eq (own.1 j) modality in
      let P : Bool → Type 0 = λ b. Sum + if_so b more ≤ most in
      raised_sum (is_by caller modality) figure xs i y d more at.0 (alike caller modality) says (subst P (sym its) small) ∙ ap (λ b. Sum + if_so b more) its in
      record {
        apart = λ apart. subst (IsDistinct same_names) (sym (map-set_same (λ (r : Recent). (r.caller, r.modality)) xs i y d (ap (λ (r : Recent). (r.caller, r.modality)) same))) apart;
        stored = grown (λ r. r.stored) line.stored (ap (λ (r : Recent). r.stored) same);
        refused = grown (λ r. r.refused) line.refused (ap (λ (r : Recent). r.refused) same);
      }

  same_any : (xs : List Recent) → list_any here xs ≡ list_any (same_names (line.caller, line.modality)) (names_of xs)
  same_any [] = refl
  same_any (x ∷ xs) = λ i. names_equal.symm (x.caller, x.modality) (line.caller, line.modality) i || same_any xs i

  pub new_line : (xs ys : List Recent) (y : Recent) → position here xs ≡ None → y ≡ line → ys ≡ xs ++ y ∷ [] → AddsRecentLine line xs ys
  new_line xs ys y none same all =
      let Adds : List Recent → Type 0 = λ zs. AddsRecentLine line xs zs in
      let whole : ys ≡ xs ++ line ∷ [] = all ∙ ap (λ (z : Recent). xs ++ z ∷ []) same in
      let names : names_of (xs ++ line ∷ []) ≡ names_of xs ++ (line.caller, line.modality) ∷ [] = map-append (λ (r : Recent). (r.caller, r.modality)) xs (line ∷ []) in
      let absent : list_any (same_names (line.caller, line.modality)) (names_of xs) ≡ false = sym (same_any xs) ∙ none_before here xs (is_none _ _ none) in
      subst Adds (sym whole)
      (record {
        apart = λ apart. subst (IsDistinct same_names) (sym names) (IsDistinct-push names_equal (names_of xs) (line.caller, line.modality) apart absent);
        stored = λ caller modality small. added_sum (is_by caller modality) (λ r. r.stored) xs line;
        refused = λ caller modality small. added_sum (is_by caller modality) (λ r. r.refused) xs line;
      })

-- ---- by minute, caller and modality

module _ (minute : ℕ) (line : Recent) where
  abbrev pub then : Minute → Bool
  then one = nat_eq one.minute minute && is_by line.caller line.modality one.recent

  abbrev pub raised_minute : Minute → Minute
  raised_minute one = record { minute = one.minute; recent = raised_line one.recent line.stored line.refused }

  pub by_minute : (xs : List Minute) (i : ℕ) (y d : Minute) → position then xs ≡ Some i → y ≡ raised_minute (get_or xs i d) → AddsAt minute line xs (set xs i y)
  by_minute xs i y d found same =
      let at = position-Some then xs i d found in
      let x = get_or xs i d in
      let parts = both (nat_eq x.minute minute) _ at.1 in
      let when : x.minute ≡ minute = eqb-true x.minute minute parts.0 in
      let own = named line.caller line.modality x.recent parts.1 in
      let grown : (figure : Recent → ℕ) (more : ℕ) → figure y.recent ≡ min most (figure x.recent + more) → GrowsAt figure minute line.caller line.modality more xs (set xs i y) =
      λ figure more says other kind now small.
      let within : Minute → Bool = is_within other kind now in
      let told : Minute → ℕ = λ one. figure one.recent in
      let Sum : ℕ = sum_by (λ (one : Minute). if_so (within one) (told one)) xs in
      let its : within x ≡ (is_of_hour now minute && (bytes_eq line.caller other && bytes_eq line.modality kind)) = λ j. is_of_hour now (when j) && (bytes_eq (own.0 j) other && bytes_eq (own.1 j) kind) in
      let P : Bool → Type 0 = λ b. Sum + if_so b more ≤ most in
      raised_sum within told xs i y d more at.0 (ap within same) says (subst P (sym its) small) ∙ ap (λ b. Sum + if_so b more) its in
      record { stored = grown (λ r. r.stored) line.stored (ap (λ (one : Minute). one.recent.stored) same); refused = grown (λ r. r.refused) line.refused (ap (λ (one : Minute). one.recent.refused) same) }

  pub new_minute : (xs ys : List Minute) → ys ≡ xs ++ (record { minute = minute; recent = line }) ∷ [] → AddsAt minute line xs ys
  new_minute xs ys all =
      let Adds : List Minute → Type 0 = λ zs. AddsAt minute line xs zs in
      let y : Minute = record { minute = minute; recent = line } in
      subst Adds (sym all)
      (record {
        stored = λ other kind now small. added_sum (is_within other kind now) (λ (one : Minute). one.recent.stored) xs y;
        refused = λ other kind now small. added_sum (is_within other kind now) (λ (one : Minute). one.recent.refused) xs y;
      })

  pub added_minute : (b : Bool) (xs ys : List Minute) → MatchBool b (ys ≡ xs ++ (record { minute = minute; recent = line }) ∷ []) (ys ≡ xs) → MatchBool b (AddsAt minute line xs ys) (ys ≡ xs)
  added_minute true xs ys all = new_minute xs ys all
  added_minute false xs ys all = all

-- ---- summed up

module _ (figure : Recent → ℕ) (now : ℕ) (caller modality : Text) where
  abbrev of_hour : Minute → ℕ
  of_hour one = if_so (is_within caller modality now one) (figure one.recent)

  -- one minute more
  pub one_more_minute : (xs : List Minute) (i : ℕ) (d one : Minute) (old new : ℕ) → i < length xs → one ≡ get_or xs i d → (sum_by of_hour xs ≤ most → old ≡ sum_by of_hour (take i xs))
      → (old + of_hour one ≤ most → new ≡ old + of_hour one) → sum_by of_hour xs ≤ most → new ≡ sum_by of_hour (take (i + 1) xs)
  one_more_minute xs i d one old new within is before step small =
      let so_far = before small in
      let part : sum_by of_hour (take i xs) + of_hour (get_or xs i d) ≤ sum_by of_hour xs = sum_by_more_le of_hour xs i d within in
      let same : of_hour one ≡ of_hour (get_or xs i d) = ap of_hour is in
      let low : old + of_hour one ≤ most = omega (arith, so_far, part, same, small) in
      let more : sum_by of_hour (take (i + 1) xs) ≡ sum_by of_hour (take i xs) + (of_hour (get_or xs i d) + 0) =
      ap (sum_by of_hour) (take_more xs i d within) ∙ sum_by-append of_hour (take i xs) (get_or xs i d ∷ []) ∙ ap (λ n. sum_by of_hour (take i xs) + n) (sum_by-cons of_hour (get_or xs i d) []) in
      let added = step low in
      omega (arith, so_far, same, more, added)

-- what the first minutes amount to
abbrev pub Sums : (Recent → ℕ) → ℕ → List Minute → ℕ → List Recent → Type 0
Sums figure now minutes i lines =
    (caller modality : Text)
    → said_within figure caller modality now minutes ≤ most
    → said_by figure caller modality lines ≡ said_within figure caller modality now (take i minutes)

pub record SoFar (now : ℕ) (minutes : List Minute) (i : ℕ) (lines : List Recent) : Type 0 where
  pub apart : IsDistinct same_names (names_of lines)
  pub stored : Sums (λ r. r.stored) now minutes i lines
  pub refused : Sums (λ r. r.refused) now minutes i lines

pub none_yet : (now : ℕ) (minutes : List Minute) (lines : List Recent) → lines ≡ [] → SoFar now minutes 0 lines
unfolding IsDistinct
none_yet now minutes lines none =
    let So : List Recent → Type 0 = SoFar now minutes 0 in
    subst So (sym none) (record { apart = tt; stored = λ caller modality small. refl; refused = λ caller modality small. refl })

pub next : (now : ℕ) (minutes : List Minute) (i : ℕ) (d one : Minute) (old new : List Recent) → i < length minutes → one ≡ get_or minutes i d
    → SoFar now minutes i old → AddsRecent now one old new → SoFar now minutes (i + 1) new
next now minutes i d one old new within is so adds = record {
  apart = adds.apart so.apart;
  stored = λ caller modality small. one_more_minute (λ r. r.stored) now caller modality minutes i d one _ _ within is (so.stored caller modality) (adds.stored caller modality) small;
  refused = λ caller modality small. one_more_minute (λ r. r.refused) now caller modality minutes i d one _ _ within is (so.refused caller modality) (adds.refused caller modality) small;
}

pub all_summed : (now : ℕ) (minutes : List Minute) (i : ℕ) (lines : List Recent) → length minutes ≤ i → SoFar now minutes i lines → AreRecent now minutes lines
all_summed now minutes i lines end so =
    let whole : take i minutes ≡ minutes = take_all i minutes end in
    let its : (figure : Recent → ℕ) → Sums figure now minutes i lines → SumsUp figure now minutes lines = λ figure sums caller modality small. sums caller modality small ∙ ap (said_within figure caller modality now) whole in
    record { apart = so.apart; stored = its (λ r. r.stored) so.stored; refused = its (λ r. r.refused) so.refused }
