-- One instance more is counted for its caller.
use Rattle.std.proofs.Common.{◌≡◌, ◌+◌, ◌-◌, ◌*◌, ◌^◌, ◌<◌, ◌≤◌, ◌&&◌, ℕ, zero, suc, Bool, true, false, min, cond, List, [], ◌∷◌, ◌++◌, length, map, get_or, nat_lt, not, ◌||◌, position, Option, Some, None, Result, Ok, Err, refl, sym, ap, subst, ◌∙◌, arith, bytes_eq, sum_by, take}
use Rattle.std.specs.List.{IsDistinct, list_any, position_or_len}
use Rattle.std.proofs.Math.ListN.{set}
use Rattle.std.proofs.Math.Seq.{map-set_same}
use Rattle.std.proofs.lemmas.List.Quantifiers.{position-Some}
use Rattle.std.proofs.lemmas.List.Sums.{sum_by-append, sum_by-cons, sum_by-set, sum_by_more_le}
use Rattle.std.proofs.lemmas.Bool.{lt-ltb, ltb-true}
use Rattle.std.proofs.lemmas.Cmp.{nat_list_eq_equiv}
use Rattle.std.proofs.lemmas.List.{map-append}
use Rattle.std.proofs.lemmas.Map.Keys.{IsDistinct-push}
use Rattle.std.proofs.lemmas.Slice.Eq.{bytes_eq-Decides}
use Rattle.std.specs.Prelude.{MatchResult}
use Rattle.std.specs.declared.alloc.AllocError.{AllocError}
use Rattle.dr_base.specs.Texts.{Text}
use Rattle.dr_run_answer.specs.Intakes.{CountsOne, Grows, IsShare, callers_of, if_so, most}
use Rattle.dr_ledger.specs.Replies.{Reply}
use Rattle.dr_run_answer.specs.declared.intake.Brought.{Brought}
use Rattle.dr_run_answer.specs.declared.noted.CallerShare.{CallerShare}

-- the line of that caller, raised
abbrev pub raised : Brought → CallerShare → Brought
raised b share = record {
  caller = b.caller;
  stored = min most (b.stored + share.stored);
  again = min most (b.again + share.again);
  refused = min most (b.refused + share.refused);
  bytes = min most (b.bytes + share.bytes);
}

pub fits : (a b : ℕ) → a + b ≤ most → min most (a + b) ≡ a + b
fits a b small = omega (arith, small)

-- ---- a line is raised, or added

module _ {X : Type 0} (weight : X → Bool) (figure : X → ℕ) where
  abbrev weighed : X → ℕ
  weighed x = if_so (weight x) (figure x)

  one_line : (x y : X) (more : ℕ) → weight y ≡ weight x → (weight x ≡ true → figure y ≡ figure x + more) → weighed y ≡ weighed x + if_so (weight x) more
  one_line x y more same grown = go (weight x) refl
    where
      go : (b : Bool) → weight x ≡ b → weighed y ≡ weighed x + if_so (weight x) more
      go true is = ap (λ b. if_so b (figure y)) (same ∙ is) ∙ grown is ∙ ap (λ n. n + more) (sym (ap (λ b. if_so b (figure x)) is)) ∙ ap (λ n. weighed x + n) (sym (ap (λ b. if_so b more) is))
      go false is = ap (λ b. if_so b (figure y)) (same ∙ is) ∙ ap (λ n. n + 0) (sym (ap (λ b. if_so b (figure x)) is)) ∙ ap (λ n. weighed x + n) (sym (ap (λ b. if_so b more) is))

  pub raised_sum : (xs : List X) (i : ℕ) (y d : X) (more : ℕ) → i < length xs → weight y ≡ weight (get_or xs i d) → figure y ≡ min most (figure (get_or xs i d) + more)
      → sum_by weighed xs + if_so (weight (get_or xs i d)) more ≤ most → sum_by weighed (set xs i y) ≡ sum_by weighed xs + if_so (weight (get_or xs i d)) more
  raised_sum xs i y d more within same says small =
      let x = get_or xs i d in
      let part : sum_by weighed (take i xs) + weighed x ≤ sum_by weighed xs = sum_by_more_le weighed xs i d within in
      let low : weight x ≡ true → figure x + more ≤ most = λ is.
      let own : weighed x ≡ figure x = ap (λ b. if_so b (figure x)) is in
      let its : if_so (weight x) more ≡ more = ap (λ b. if_so b more) is in
      omega (arith, part, small, own, its) in
      let line = one_line x y more same (λ is. says ∙ fits (figure x) more (low is)) in
      let whole = sum_by-set weighed xs i y d within in
      omega (arith, line, whole)

  pub added_sum : (xs : List X) (y : X) → sum_by weighed (xs ++ y ∷ []) ≡ sum_by weighed xs + weighed y
  added_sum xs y =
      let one : sum_by weighed (y ∷ []) ≡ weighed y + 0 = sum_by-cons weighed y [] in
      let whole = sum_by-append weighed xs (y ∷ []) in
      omega (arith, one, whole)

module _ (figure : Brought → ℕ) (more : ℕ) (caller : Text) where
  abbrev is : Text → Brought → Bool
  is other b = bytes_eq b.caller other

  raised_at : (xs : List Brought) (i : ℕ) (y d : Brought) → i < length xs → (get_or xs i d).caller ≡ caller → y.caller ≡ (get_or xs i d).caller
      → figure y ≡ min most (figure (get_or xs i d) + more) → Grows figure caller more xs (set xs i y)
  raised_at xs i y d within own same says other small =
      let Sum : ℕ = sum_by (weighed (is other) figure) xs in
      let P : Text → Type 0 = λ name. Sum + if_so (bytes_eq name other) more ≤ most in
      raised_sum (is other) figure xs i y d more within (ap (λ name. bytes_eq name other) same) says (subst P (sym own) small)
      ∙ ap (λ name. Sum + if_so (bytes_eq name other) more) own

  added : (xs : List Brought) (y : Brought) → y.caller ≡ caller → figure y ≡ more → Grows figure caller more xs (xs ++ y ∷ [])
  added xs y own says other small =
      added_sum (is other) figure xs y ∙ (λ i. sum_by (weighed (is other) figure) xs + if_so (bytes_eq (own i) other) (says i))

-- which line is raised: the first one of that caller
named : (caller : Text) (xs : List Brought) (i : ℕ) (d : Brought) → position (λ b. bytes_eq b.caller caller) xs ≡ Some i → (i < length xs) × ((get_or xs i d).caller ≡ caller)
named caller xs i d found =
    let at = position-Some (λ (b : Brought). bytes_eq b.caller caller) xs i d found in
    (at.0, (bytes_eq-Decides (get_or xs i d).caller caller).0 at.1)

pub counted_at : (caller : Text) (answer : Reply) (size : ℕ) (share : CallerShare) (xs : List Brought) (i : ℕ) (y d : Brought) → IsShare answer size share
    → position (λ b. bytes_eq b.caller caller) xs ≡ Some i → y ≡ raised (get_or xs i d) share → CountsOne caller answer size xs (set xs i y)
counted_at caller answer size share xs i y d is found same =
    let at = named caller xs i d found in
    let x = get_or xs i d in
    let own : y.caller ≡ x.caller = ap (λ (b : Brought). b.caller) same in
    record {
      apart = λ apart. subst (IsDistinct bytes_eq) (sym (map-set_same (λ (b : Brought). b.caller) xs i y d own)) apart;
      stored = raised_at (λ b. b.stored) _ caller xs i y d at.0 at.1 own (ap (λ (b : Brought). b.stored) same ∙ ap (λ n. min most (x.stored + n)) is.0);
      again = raised_at (λ b. b.again) _ caller xs i y d at.0 at.1 own (ap (λ (b : Brought). b.again) same ∙ ap (λ n. min most (x.again + n)) is.1);
      refused = raised_at (λ b. b.refused) _ caller xs i y d at.0 at.1 own (ap (λ (b : Brought). b.refused) same ∙ ap (λ n. min most (x.refused + n)) is.2);
      bytes = raised_at (λ b. b.bytes) _ caller xs i y d at.0 at.1 own (ap (λ (b : Brought). b.bytes) same ∙ ap (λ n. min most (x.bytes + n)) is.3);
    }

abbrev pub line_of : Text → CallerShare → Brought
line_of caller share = record { caller = caller; stored = share.stored; again = share.again; refused = share.refused; bytes = share.bytes }

-- a caller that has no line is none of those that have
less_more : (a b : ℕ) → nat_lt (1 + a) (suc b) ≡ false → nat_lt a b ≡ false
less_more a b h = go (nat_lt a b) refl
  where
    go : (t : Bool) → nat_lt a b ≡ t → t ≡ false
    go true is = let less : a < b = ltb-true a b is in sym (lt-ltb (1 + a) (suc b) (omega (arith, less))) ∙ h
    go false is = refl

pub none_before : {X : Type 0} (p : X → Bool) (xs : List X) → nat_lt (position_or_len p xs) (length xs) ≡ false → list_any p xs ≡ false
none_before p [] h = refl
none_before p (x ∷ xs) h = go (p x) h (none_before p xs)
  where
    go : (b : Bool) → nat_lt (cond (not b) (1 + position_or_len p xs) 0) (suc (length xs)) ≡ false → (nat_lt (position_or_len p xs) (length xs) ≡ false → list_any p xs ≡ false) → (b || list_any p xs) ≡ false
    go true h later = sym (lt-ltb 0 (suc (length xs)) (omega arith)) ∙ h
    go false h later = later (less_more (position_or_len p xs) (length xs) h)

-- the same test, of the names
same_any : (caller : Text) (xs : List Brought) → list_any (λ (b : Brought). bytes_eq b.caller caller) xs ≡ list_any (bytes_eq caller) (callers_of xs)
same_any caller [] = refl
same_any caller (x ∷ xs) = λ i. nat_list_eq_equiv.symm x.caller caller i || same_any caller xs i

pub is_none : {X : Type 0} (b : Bool) (x : X) → cond b (Some x) None ≡ None → b ≡ false
is_none true x h = absurd (let e : Some x ≡ None = h in cc)
is_none false x h = refl

none_there : (caller : Text) (xs : List Brought) → position (λ b. bytes_eq b.caller caller) xs ≡ None → list_any (bytes_eq caller) (callers_of xs) ≡ false
none_there caller xs none = sym (same_any caller xs) ∙ none_before (λ (b : Brought). bytes_eq b.caller caller) xs (is_none _ _ none)

pub counted_first : (caller : Text) (answer : Reply) (size : ℕ) (share : CallerShare) (xs ys : List Brought) → IsShare answer size share
    → position (λ b. bytes_eq b.caller caller) xs ≡ None → ys ≡ xs ++ line_of caller share ∷ [] → CountsOne caller answer size xs ys
counted_first caller answer size share xs ys is none all =
    let Counts : List Brought → Type 0 = λ zs. CountsOne caller answer size xs zs in
    let y = line_of caller share in
    let names : callers_of (xs ++ y ∷ []) ≡ callers_of xs ++ caller ∷ [] = map-append (λ (b : Brought). b.caller) xs (y ∷ []) in
    subst Counts (sym all)
    (record {
      apart = λ apart. subst (IsDistinct bytes_eq) (sym names) (IsDistinct-push nat_list_eq_equiv (callers_of xs) caller apart (none_there caller xs none));
      stored = added (λ b. b.stored) _ caller xs y refl is.0;
      again = added (λ b. b.again) _ caller xs y refl is.1;
      refused = added (λ b. b.refused) _ caller xs y refl is.2;
      bytes = added (λ b. b.bytes) _ caller xs y refl is.3;
    })

-- what came of adding the line
pub told_first : (caller : Text) (answer : Reply) (size : ℕ) (share : CallerShare) (xs ys : List Brought) (r : Result (Unit {0}) AllocError) → IsShare answer size share
    → position (λ b. bytes_eq b.caller caller) xs ≡ None → MatchResult r (λ done. ys ≡ xs ++ line_of caller share ∷ []) (λ why. ys ≡ xs)
    → MatchResult r (λ done. CountsOne caller answer size xs ys) (λ why. ys ≡ xs)
told_first caller answer size share xs ys (Ok done) is none all = counted_first caller answer size share xs ys is none all
told_first caller answer size share xs ys (Err why) is none all = all
