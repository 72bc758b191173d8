-- Where lines go on to, by the list of all goals.
use Rattle.std.proofs.Common.{◌≡◌, ◌==◌, inl, inr, ℕ, List, [], ◌∷◌, filter, map as mapped, Bool, true, false, not, ◌&&◌, ◌||◌, cond, T, Option, None, Some, is_some, refl, sym, ap, subst, ◌∙◌, true≢false}
use Rattle.std.specs.declared.cmp.Ordering.{Ordering}
use Rattle.std.specs.declared.cmp.Ordering.TheVariants.{Less, Equal}
use Rattle.std.specs.Ordering.{eq_by_cmp, is_lt, nat_cmp, ordering_then}
use Rattle.std.specs.Cmp.{eq_by_cmp_equiv, nat_cmp_total}
use Rattle.std.specs.Cmp.Lexicographic.{nat_list_cmp_total}
use Rattle.std.specs.FinMap as map
use Rattle.std.specs.FinMap.{find}
use Rattle.std.specs.FinMap.Entries.{below_all, is_sorted, same_entries}
use Rattle.std.specs.FinSet as set
use Rattle.std.specs.List.{AllByRecursion, list_any}
use Rattle.std.specs.List.Sorted.{IsStrictlySortedBy}
use Rattle.std.proofs.lemmas.Bool.{eqb-true}
use Rattle.std.proofs.lemmas.Cmp.{tied_itself}
use Rattle.std.proofs.lemmas.Map.Lookups.{exact_bytes}
use Rattle.std.proofs.lemmas.Map.Views.{Contains-from_any, list_any-from_Contains}
use Rattle.sqlite.specs.Tree.{Trees}
use Rattle.dr_base.specs.Texts.{Text, text_cmp}
use Rattle.dr_route.specs.Routes.{local}
use Rattle.dr_ledger.specs.Replies.{Lists}
use Rattle.dr_ledger.proofs.Maps.{same_or_not, texts, ties_itself}
use Rattle.dr_store_schema.specs.Books.{keeps_in, names_in, targets_in}
use Rattle.dr_store_lists.specs.Lists.{Goal, goal_cmp, goals_of}
use Rattle.dr_store_writes.proofs.Maps.{equal}
use Rattle.dr_store_lists.proofs.Alike.{both_tied, goals_are_names, tied_number}
use Rattle.dr_store_lists.proofs.Lists.{goals_exact, goals_total}
use Rattle.dr_store_audit.specs.Goals.{is_at, is_mark, keep_by, keep_of, to_by, to_of}

-- the names of these, but for that which stands for keeping
abbrev pub named_by : List Goal → List (Text × Unit {0})
named_by [] = []
named_by (g ∷ goals) = cond (is_mark g.1) (named_by goals) ((g.1, tt) ∷ named_by goals)

names_are : (goals : List Goal) → mapped (λ (e : Text × Unit {0}). e.0) (named_by goals) ≡ to_by goals
names_are [] = refl
names_are (g ∷ goals) = go (is_mark g.1) (names_are goals)
  where
    go : (b : Bool) → mapped (λ (e : Text × Unit {0}). e.0) (named_by goals) ≡ to_by goals
        → mapped (λ (e : Text × Unit {0}). e.0) (cond b (named_by goals) ((g.1, tt) ∷ named_by goals)) ≡ cond b (to_by goals) (g.1 ∷ to_by goals)
    go true later = later
    go false later = ap (λ xs. g.1 ∷ xs) later

-- whether a goal is the one of line n with that name
goal_ties : (n : ℕ) (name : Text) (g : Goal) (b : Bool) → (g.0 == n) ≡ b → eq_by_cmp goal_cmp (n, name) g ≡ (b && eq_by_cmp text_cmp name g.1)
goal_ties n name g b is = both_tied (nat_cmp n g.0) (text_cmp name g.1) ∙ ap (λ c. c && eq_by_cmp text_cmp name g.1) (tied_number n g.0 b is)

no_and : (b : Bool) → (b && false) ≡ false
no_and true = refl
no_and false = refl

yes_or : (b : Bool) → (b || true) ≡ true
yes_or true = refl
yes_or false = refl

kept_is : (n : ℕ) (goals : List Goal) → keep_by (filter (is_at n) goals) ≡ list_any (eq_by_cmp goal_cmp (n, local)) goals
kept_is n [] = refl
kept_is n (g ∷ goals) = go (g.0 == n) refl (kept_is n goals)
  where
    go : (b : Bool) → (g.0 == n) ≡ b → keep_by (filter (is_at n) goals) ≡ list_any (eq_by_cmp goal_cmp (n, local)) goals
        → keep_by (cond b (g ∷ filter (is_at n) goals) (filter (is_at n) goals)) ≡ (eq_by_cmp goal_cmp (n, local) g || list_any (eq_by_cmp goal_cmp (n, local)) goals)
    go true is later = ap (λ b. is_mark g.1 || b) later ∙ ap (λ b. b || list_any (eq_by_cmp goal_cmp (n, local)) goals) (sym (goal_ties n local g true is))
    go false is later = later ∙ ap (λ b. b || list_any (eq_by_cmp goal_cmp (n, local)) goals) (sym (goal_ties n local g false is))

-- a name that isn't the mark is found just where it is a goal of the line
name_found : (n : ℕ) (q : Text) (goals : List Goal) → is_some (find text_cmp q (named_by (filter (is_at n) goals))) ≡ (not (is_mark q) && list_any (eq_by_cmp goal_cmp (n, q)) goals)
name_found n q [] = sym (no_and (not (is_mark q)))
name_found n q (g ∷ goals) = go (g.0 == n) refl (name_found n q goals)
  where
    any : Bool
    any = list_any (eq_by_cmp goal_cmp (n, q)) goals

    found : Bool
    found = is_some (find text_cmp q (named_by (filter (is_at n) goals)))

    -- the goal has the name, or it hasn't
    with_name : (mark : Bool) → is_mark g.1 ≡ mark → found ≡ (not (is_mark q) && any)
        → is_some (find text_cmp q (cond mark (named_by (filter (is_at n) goals)) ((g.1, tt) ∷ named_by (filter (is_at n) goals)))) ≡ (not (is_mark q) && (eq_by_cmp text_cmp q g.1 || any))
    with_name true is later = elim (same_or_not texts q g.1) [
      | inl same ↦ (
          let marked : is_mark q ≡ true = ap is_mark same ∙ is in
          later ∙ ap (λ b. not b && any) marked ∙ sym (ap (λ b. not b && (eq_by_cmp text_cmp q g.1 || any)) marked)
          )
      | inr other ↦ later ∙ ap (λ b. not (is_mark q) && (b || any)) (sym other)
    ]
    with_name false is later = elim (same_or_not texts q g.1) [
      | inl same ↦ (
          let unmarked : is_mark q ≡ false = ap is_mark same ∙ is in
          let hit : eq_by_cmp text_cmp q g.1 ≡ true = ap (eq_by_cmp text_cmp q) (sym same) ∙ ties_itself texts q in
          ap (λ b. is_some (cond b (Some tt) (find text_cmp q (named_by (filter (is_at n) goals))))) hit
          ∙ sym (ap (λ b. not b && (eq_by_cmp text_cmp q g.1 || any)) unmarked ∙ ap (λ b. b || any) hit)
          )
      | inr other ↦ ap (λ b. is_some (cond b (Some tt) (find text_cmp q (named_by (filter (is_at n) goals))))) other ∙ later ∙ ap (λ b. not (is_mark q) && (b || any)) (sym other)
    ]

    go : (b : Bool) → (g.0 == n) ≡ b → found ≡ (not (is_mark q) && any)
        → is_some (find text_cmp q (named_by (cond b (g ∷ filter (is_at n) goals) (filter (is_at n) goals)))) ≡ (not (is_mark q) && (eq_by_cmp goal_cmp (n, q) g || any))
    go true is later = with_name (is_mark g.1) refl later ∙ ap (λ b. not (is_mark q) && (b || any)) (sym (goal_ties n q g true is))
    go false is later = later ∙ ap (λ b. not (is_mark q) && (b || any)) (sym (goal_ties n q g false is))

-- ---- names rise

less_T : (o : Ordering) → o ≡ Less → T (is_lt o)
less_T o e = subst (λ (p : Ordering). T (is_lt p)) (sym e) tt

and_T : (a b : Bool) → T a → T b → T (a && b)
and_T true b s t = t
and_T false b s t = absurd s

same_line : (n : ℕ) (name : Text) (g : Goal) → (g.0 == n) ≡ true → goal_cmp (n, name) g ≡ Less → text_cmp name g.1 ≡ Less
same_line n name g is less =
    let line : g.0 ≡ n = eqb-true g.0 n is in
    let tie : nat_cmp n g.0 ≡ Equal = ap (nat_cmp n) line ∙ tied_itself nat_cmp_total n in
    sym (ap (λ o. ordering_then o (text_cmp name g.1)) tie) ∙ less

names_above : (n : ℕ) (name : Text) (goals : List Goal) → AllByRecursion (λ x. goal_cmp (n, name) x ≡ Less) goals → T (below_all text_cmp name (named_by (filter (is_at n) goals)))
names_above n name [] h = tt
names_above n name (g ∷ goals) h = go (g.0 == n) refl (is_mark g.1) (names_above n name goals h.1)
  where
    go : (b : Bool) → (g.0 == n) ≡ b → (mark : Bool) → T (below_all text_cmp name (named_by (filter (is_at n) goals))) → T (below_all text_cmp name (named_by (cond b (g ∷ filter (is_at n) goals) (filter (is_at n) goals))))
    go true is mark later = marked (is_mark g.1)
      where
        marked : (m : Bool) → T (below_all text_cmp name (cond m (named_by (filter (is_at n) goals)) ((g.1, tt) ∷ named_by (filter (is_at n) goals))))
        marked true = later
        marked false = and_T (is_lt (text_cmp name g.1)) _ (less_T _ (same_line n name g is h.0)) later
    go false is mark later = later

head_low : (g : Goal) (goals : List Goal) → IsStrictlySortedBy goal_cmp (g ∷ goals) → AllByRecursion (λ x. goal_cmp g x ≡ Less) goals
unfolding IsStrictlySortedBy
head_low g goals h = h.0

tail_rises : (g : Goal) (goals : List Goal) → IsStrictlySortedBy goal_cmp (g ∷ goals) → IsStrictlySortedBy goal_cmp goals
unfolding IsStrictlySortedBy
tail_rises g goals h = h.1

names_rise : (n : ℕ) (goals : List Goal) → IsStrictlySortedBy goal_cmp goals → T (is_sorted text_cmp (named_by (filter (is_at n) goals)))
names_rise n [] h = tt
names_rise n (g ∷ goals) h = go (g.0 == n) refl (names_rise n goals (tail_rises g goals h))
  where
    go : (b : Bool) → (g.0 == n) ≡ b → T (is_sorted text_cmp (named_by (filter (is_at n) goals))) → T (is_sorted text_cmp (named_by (cond b (g ∷ filter (is_at n) goals) (filter (is_at n) goals))))
    go true is later = marked (is_mark g.1)
      where
        low : AllByRecursion (λ x. goal_cmp (n, g.1) x ≡ Less) goals
        low = subst (λ m. AllByRecursion (λ x. goal_cmp (m, g.1) x ≡ Less) goals) (eqb-true g.0 n is) (head_low g goals h)

        marked : (m : Bool) → T (is_sorted text_cmp (cond m (named_by (filter (is_at n) goals)) ((g.1, tt) ∷ named_by (filter (is_at n) goals))))
        marked true = later
        marked false = and_T (below_all text_cmp g.1 (named_by (filter (is_at n) goals))) _ (names_above n g.1 goals low) later
    go false is later = later

-- ---- and so the goals tell the tables' targets

one_unit : (a b : Option (Unit {0})) → is_some a ≡ is_some b → a ≡ b
one_unit None None h = refl
one_unit (Some x) (Some y) h = refl
one_unit None (Some y) h = absurd (true≢false (sym h))
one_unit (Some x) None h = absurd (true≢false h)

some_but : (b : Bool) (o : Option (Unit {0})) → is_some (cond b None o) ≡ (not b && is_some o)
some_but true o = refl
some_but false o = refl

module _ (db : Trees) (goals : List Goal) (are : Lists goal_cmp (goals_of db) goals) where
  same_bool : (a b : Bool) → (a ≡ true → b ≡ true) → (b ≡ true → a ≡ true) → a ≡ b
  same_bool true b f h = sym (f refl)
  same_bool false true f h = absurd (true≢false (sym (h refl)))
  same_bool false false f h = refl

  -- a goal is in the list just where it is in the table
  listed : (g : Goal) → list_any (eq_by_cmp goal_cmp g) goals ≡ set.contains (goals_of db) g
  listed g = same_bool _ _ (λ any. (are.each g).0 (Contains-from_any (λ a b tied. goals_exact a b (equal (goal_cmp a b) tied)) g goals any)) (λ has. list_any-from_Contains (eq_by_cmp_equiv goals_total) g goals ((are.each g).1 has))

  names_has : (n : ℕ) (q : Text) → list_any (eq_by_cmp goal_cmp (n, q)) goals ≡ map.contains_key (names_in (db 12) n) q
  names_has n q = listed (n, q) ∙ goals_are_names db n q

  pub keeps : (n : ℕ) → keep_of goals n ≡ keeps_in (db 12) n
  keeps n = kept_is n goals ∙ names_has n local

  pub targets : (n : ℕ) → to_of goals n ≡ targets_in (db 12) n
  targets n =
      let names = names_in (db 12) n in
      sym (names_are (filter (is_at n) goals))
      ∙ ap (mapped (λ (e : Text × Unit {0}). e.0))
      (same_entries text_cmp nat_list_cmp_total exact_bytes (named_by (filter (is_at n) goals)) (map.entries (map.remove names local)) (names_rise n goals are.ordered) (map.entries_sorted (map.remove names local)) (λ q.
      one_unit _ _ (name_found n q goals ∙ ap (λ b. not (is_mark q) && b) (names_has n q)
      ∙ ap (λ b. not b && is_some (map.get names q)) ((eq_by_cmp_equiv nat_list_cmp_total).symm local q)
      ∙ sym (some_but (eq_by_cmp text_cmp q local) (map.get names q))
      ∙ ap is_some (sym (map.get-remove nat_list_cmp_total names local q)) ∙ ap is_some (map.get-entries (map.remove names local) q))))
