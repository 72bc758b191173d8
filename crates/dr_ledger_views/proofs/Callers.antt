-- Who brought an instance.
use Rattle.std.proofs.Common.{◌≡◌, inl, inr, ◌++◌, Bool, true, false, cond, List, [], ◌∷◌, refl, sym, ap, subst, ◌∙◌, length, eqb, true≢false, codes}
use Rattle.std.specs.declared.cmp.Ordering.{Ordering}
use Rattle.std.specs.declared.cmp.Ordering.TheVariants.{Less, Equal, Greater}
use Rattle.std.specs.Ordering.{is_eq, ordering_reverse, ordering_then}
use Rattle.std.specs.Cmp.{IsTotalOrder}
use Rattle.std.specs.FinSet as set
use Rattle.std.specs.FinSet.{FinSet}
use Rattle.std.specs.List.{AllByRecursion}
use Rattle.std.specs.List.Sorted.{IsStrictlySortedBy}
use Rattle.std.specs.Str.{bytes_eq}
use Rattle.std.proofs.lemmas.Cmp.{eq_by_cmp_equiv, nat_list_cmp_total, tied_itself}
use Rattle.std.proofs.lemmas.Map.Views.{Contains-from_any, list_any-from_Contains}
use Rattle.std.proofs.lemmas.Slice.Eq.{bytes_eq-Decides}
use Rattle.dr_base.specs.Texts.{Text, text_cmp}
use Rattle.dr_ledger.specs.Pairs.{Pair, pair_cmp}
use Rattle.dr_ledger.specs.Replies.{Lists}
use Rattle.dr_ledger_views.specs.Laws.{CallersAreOne, CallersAreRight, NobodyBringsNothing, some_arrivals}
use Rattle.dr_ledger_views.specs.Views.{AreCallers, callers_among}
use Rattle.dr_ledger_views.proofs.Asked.{Has}
use Rattle.dr_ledger_views.proofs.Ordered.{contains_has, has_contains}
use Rattle.dr_ledger_views.proofs.Pairs.{pairs_exact, pairs_total}

-- ---- who is among the callers

among_has : (uid caller : Text) (all : List Pair) → Has (callers_among all uid) caller → Has all (caller, uid)
among_has uid caller [] h = absurd h
among_has uid caller (a ∷ more) h = go (bytes_eq a.1 uid) refl h (among_has uid caller more)
  where
    go : (b : Bool) → bytes_eq a.1 uid ≡ b → Has (cond b (a.0 ∷ []) [] ++ callers_among more uid) caller → (Has (callers_among more uid) caller → Has more (caller, uid)) → Has (a ∷ more) (caller, uid)
    go true is (inl same) later = inl (λ i. (same i, sym ((bytes_eq-Decides a.1 uid).0 is) i))
    go true is (inr there) later = inr (later there)
    go false is there later = inr (later there)

has_among : (uid caller : Text) (all : List Pair) → Has all (caller, uid) → Has (callers_among all uid) caller
has_among uid caller [] h = absurd h
has_among uid caller (a ∷ more) (inl same) =
    let own : bytes_eq a.1 uid ≡ true = (bytes_eq-Decides a.1 uid).1 (sym (ap (λ (k : Pair). k.1) same)) in
    subst (λ b. Has (cond b (a.0 ∷ []) [] ++ callers_among more uid) caller) (sym own) (inl (ap (λ (k : Pair). k.0) same))
has_among uid caller (a ∷ more) (inr later) = go (bytes_eq a.1 uid) (has_among uid caller more later)
  where
    go : (b : Bool) → Has (callers_among more uid) caller → Has (cond b (a.0 ∷ []) [] ++ callers_among more uid) caller
    go true h = inr h
    go false h = h

-- ---- their order

less_first : (o p : Ordering) → p ≡ Equal → ordering_then o p ≡ Less → o ≡ Less
less_first Less p e h = refl
less_first Equal p e h = sym e ∙ h
less_first Greater p e h = h

below : (uid : Text) (a : Pair) → a.1 ≡ uid → (more : List Pair) → AllByRecursion (λ y. pair_cmp a y ≡ Less) more → AllByRecursion (λ c. text_cmp a.0 c ≡ Less) (callers_among more uid)
below uid a own [] h = tt
below uid a own (y ∷ ys) h = go (bytes_eq y.1 uid) refl (below uid a own ys h.1)
  where
    go : (b : Bool) → bytes_eq y.1 uid ≡ b → AllByRecursion (λ c. text_cmp a.0 c ≡ Less) (callers_among ys uid) → AllByRecursion (λ c. text_cmp a.0 c ≡ Less) (cond b (y.0 ∷ []) [] ++ callers_among ys uid)
    go true is later =
        let tied : text_cmp a.1 y.1 ≡ Equal = (λ i. text_cmp (own i) ((bytes_eq-Decides y.1 uid).0 is i)) ∙ tied_itself nat_list_cmp_total uid in
        (less_first (text_cmp a.0 y.0) (text_cmp a.1 y.1) tied h.0, later)
    go false is later = later

sorted_among : (uid : Text) (all : List Pair) → IsStrictlySortedBy pair_cmp all → IsStrictlySortedBy text_cmp (callers_among all uid)
unfolding IsStrictlySortedBy
sorted_among uid [] h = tt
sorted_among uid (a ∷ more) h = go (bytes_eq a.1 uid) refl (sorted_among uid more h.1)
  where
    go : (b : Bool) → bytes_eq a.1 uid ≡ b → IsStrictlySortedBy text_cmp (callers_among more uid) → IsStrictlySortedBy text_cmp (cond b (a.0 ∷ []) [] ++ callers_among more uid)
    go true is later = (below uid a ((bytes_eq-Decides a.1 uid).0 is) more h.0, later)
    go false is later = later

-- ---- those of a list of arrivals are those of the arrivals

pub listed_callers : (arrivals : FinSet pair_cmp) (uid : Text) (all : List Pair) → Lists pair_cmp arrivals all → AreCallers arrivals uid (callers_among all uid)
listed_callers arrivals uid all is = record {
  ordered = sorted_among uid all is.ordered;
  each = λ caller. (
    (λ h. (is.each (caller, uid)).0 (has_contains all (caller, uid) (among_has uid caller all (contains_has (callers_among all uid) caller h)))),
    (λ h. has_contains (callers_among all uid) caller (has_among uid caller all (contains_has all (caller, uid) ((is.each (caller, uid)).1 h)))),
  );
}

-- ---- laws

equal_is : (o : Ordering) → is_eq o ≡ true → o ≡ Equal
equal_is Less h = absurd cc
equal_is Equal h = refl
equal_is Greater h = absurd cc

own_list : (all : List Pair) → IsStrictlySortedBy pair_cmp all → Lists pair_cmp (set.from_list all) all
own_list all sorted = record {
  ordered = sorted;
  each = λ x. (
    (λ h. set.contains-from_list pairs_total all x ∙ list_any-from_Contains (eq_by_cmp_equiv pairs_total) x all h),
    (λ h. Contains-from_any (λ a b tied. pairs_exact a b (equal_is (pair_cmp a b) tied)) x all (sym (set.contains-from_list pairs_total all x) ∙ h)),
  );
}

every : {X : Type 0} (P : X → Type 0) (xs : List X) (x : X) → AllByRecursion P xs → Has xs x → P x
every P [] x all h = absurd h
every P (y ∷ ys) x all (inl same) = subst P (sym same) all.0
every P (y ∷ ys) x all (inr later) = every P ys x all.1 later

module _ {K : Type 0} {R : K → K → Ordering} (total : IsTotalOrder R) where
  both_less : (x y : K) → R x y ≡ Less → R y x ≡ Less → ⊥
  both_less x y a b = let e : Less ≡ Greater = sym a ∙ (total.antisymm x y ∙ ap ordering_reverse b) in cc e

  itself_less : (x : K) → R x x ≡ Less → ⊥
  itself_less x a = let e : Less ≡ Equal = sym a ∙ tied_itself total x in cc e

  one_head : (x y : K) (xs ys : List K) → AllByRecursion (λ k. R x k ≡ Less) xs → AllByRecursion (λ k. R y k ≡ Less) ys → Has (y ∷ ys) x → Has (x ∷ xs) y → x ≡ y
  one_head x y xs ys s t (inl e) there = e
  one_head x y xs ys s t (inr later) (inl e) = sym e
  one_head x y xs ys s t (inr later) (inr again) = absurd (both_less x y (every (λ k. R x k ≡ Less) xs y s again) (every (λ k. R y k ≡ Less) ys x t later))

  its_tail : (x : K) (xs ys : List K) (z : K) → AllByRecursion (λ k. R x k ≡ Less) xs → Has xs z → Has (x ∷ ys) z → Has ys z
  its_tail x xs ys z s h (inl e) = absurd (itself_less x (ap (λ k. R x k) (sym e) ∙ every (λ k. R x k ≡ Less) xs z s h))
  its_tail x xs ys z s h (inr later) = later

  one_sorted : (xs ys : List K) → IsStrictlySortedBy R xs → IsStrictlySortedBy R ys → ((x : K) → Has xs x → Has ys x) → ((x : K) → Has ys x → Has xs x) → xs ≡ ys
  unfolding IsStrictlySortedBy
  one_sorted [] [] s t to back = refl
  one_sorted [] (y ∷ ys) s t to back = absurd (back y (inl refl))
  one_sorted (x ∷ xs) [] s t to back = absurd (to x (inl refl))
  one_sorted (x ∷ xs) (y ∷ ys) s t to back =
      let e : x ≡ y = one_head x y xs ys s.0 t.0 (to x (inl refl)) (back y (inl refl)) in
      let To : K → K → Type 0 = λ k z. Has (k ∷ ys) z in
      let Back : K → K → Type 0 = λ k z. Has (k ∷ xs) z in
      let tails : xs ≡ ys = one_sorted xs ys s.1 t.1
      (λ z h. its_tail x xs ys z s.0 h (subst (λ k. To k z) (sym e) (to z (inr h))))
      (λ z h. its_tail y ys xs z t.0 h (subst (λ k. Back k z) e (back z (inr h)))) in
      λ i. e i ∷ tails i

pub callers_are_one : CallersAreOne
callers_are_one arrivals uid one other a b = one_sorted nat_list_cmp_total one other a.ordered b.ordered
    (λ x h. contains_has other x ((b.each x).1 ((a.each x).0 (has_contains one x h))))
    (λ x h. contains_has one x ((a.each x).1 ((b.each x).0 (has_contains other x h))))

pub nobody_brings_nothing : NobodyBringsNothing
unfolding IsStrictlySortedBy
nobody_brings_nothing uid = record { ordered = tt; each = λ caller. ((λ h. absurd (contains_has [] caller h)), (λ h. absurd (true≢false (sym h ∙ set.contains-empty pair_cmp (caller, uid))))) }

sorted_some : IsStrictlySortedBy pair_cmp some_arrivals
unfolding IsStrictlySortedBy
sorted_some = ((refl, (refl, tt)), ((refl, tt), (tt, tt)))

of_some : (uid : Text) → AreCallers (set.from_list some_arrivals) uid (callers_among some_arrivals uid)
of_some uid = listed_callers (set.from_list some_arrivals) uid some_arrivals (own_list some_arrivals sorted_some)

abbrev is_long : List Text → Bool
is_long callers = eqb (length callers) 2

pub callers_are_right : CallersAreRight
unfolding IsStrictlySortedBy
callers_are_right = record {
  both = of_some (codes "1.2");
  one = of_some (codes "1.1");
  none = of_some (codes "1.3");
  not_the_other = λ is. true≢false (ap is_long (callers_are_one (set.from_list some_arrivals) (codes "1.1") (codes "CT1" ∷ codes "MR2" ∷ []) (codes "CT1" ∷ []) is (of_some (codes "1.1"))));
  not_in_any_order = λ is. let e : Greater ≡ Less = is.ordered.0.0 in cc e;
}
