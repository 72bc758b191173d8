-- The goals of a line stand together where goals are in the order of their lines.
use Rattle.std.proofs.Common.{◌≡◌, ℕ, suc, ◌+◌, ◌<◌, ◌≤◌, List, [], ◌∷◌, ◌++◌, filter, cond, length, get_or, get_or-take, get_or-drop, length-take-le, length-drop, take, drop, Bool, true, false, ltb, leb, refl, sym, ap, subst, ◌∙◌, arith}
use Rattle.std.specs.List.Sorted.{IsPartitionPoint}
use Rattle.std.proofs.lemmas.List.{append-nil, take-append-drop}
use Rattle.std.proofs.lemmas.List.Elements.{filter-append}
use Rattle.std.proofs.lemmas.Bool.Decides.{nat_tests}
use Rattle.dr_store_lists.specs.Lists.{Goal}
use Rattle.dr_store_audit.specs.Goals.{is_at}

abbrev pub is_before : ℕ → Goal → Bool
is_before n goal = ltb goal.0 n

abbrev pub is_up_to : ℕ → Goal → Bool
is_up_to n goal = leb goal.0 n

abbrev pub Parts : (Goal → Bool) → List Goal → ℕ → Type 0
Parts p goals i = IsPartitionPoint (λ goal. p goal ≡ true) (λ goal. p goal ≡ false) goals i

-- where none is of the line, or each
none_there : (n : ℕ) (goals : List Goal) → ((k : ℕ) (d : Goal) → k < length goals → is_at n (get_or goals k d) ≡ false) → filter (is_at n) goals ≡ []
none_there n [] h = refl
none_there n (g ∷ goals) h = ap (λ b. cond b (g ∷ filter (is_at n) goals) (filter (is_at n) goals)) (h 0 g (omega arith)) ∙ none_there n goals (λ k d lt. h (suc k) d (omega (arith, lt)))

all_there : (n : ℕ) (goals : List Goal) → ((k : ℕ) (d : Goal) → k < length goals → is_at n (get_or goals k d) ≡ true) → filter (is_at n) goals ≡ goals
all_there n [] h = refl
all_there n (g ∷ goals) h = ap (λ b. cond b (g ∷ filter (is_at n) goals) (filter (is_at n) goals)) (h 0 g (omega arith)) ∙ ap (λ gs. g ∷ gs) (all_there n goals (λ k d lt. h (suc k) d (omega (arith, lt))))

-- which is of the line, by its number
earlier : (n : ℕ) (g : Goal) → is_before n g ≡ true → is_at n g ≡ false
earlier n g h = grind (arith, nat_tests)

later : (n : ℕ) (g : Goal) → is_up_to n g ≡ false → is_at n g ≡ false
later n g h = grind (arith, nat_tests)

between : (n : ℕ) (g : Goal) → is_before n g ≡ false → is_up_to n g ≡ true → is_at n g ≡ true
between n g h up_to = grind (arith, nat_tests)

-- The goals up to a place, of those from another one on, are the line's.
pub together : (goals : List Goal) (n first end : ℕ) → Parts (is_before n) goals first → first ≤ length goals → Parts (is_up_to n) (drop first goals) end → end ≤ length (drop first goals)
    → take end (drop first goals) ≡ filter (is_at n) goals
together goals n first end before low up_to high =
    sym (ap (filter (is_at n)) (sym (take-append-drop first goals)) ∙ filter-append (is_at n) (take first goals) rest ∙ ap (λ xs. xs ++ filter (is_at n) rest) front
    ∙ ap (filter (is_at n)) (sym (take-append-drop end rest)) ∙ filter-append (is_at n) (take end rest) (drop end rest) ∙ ap (λ xs. filter (is_at n) (take end rest) ++ xs) back
    ∙ append-nil (filter (is_at n) (take end rest)) ∙ own)
  where
    rest : List Goal
    rest = drop first goals

    front : filter (is_at n) (take first goals) ≡ []
    front = none_there n (take first goals) (λ k d lt.
        let fewer : k < first = (let l = length-take-le first goals low in omega (arith, l, lt)) in
        subst (λ g. is_at n g ≡ false) (sym (get_or-take first goals k d fewer)) (earlier n (get_or goals k d) (before.0 k d (omega arith) fewer)))

    back : filter (is_at n) (drop end rest) ≡ []
    back = none_there n (drop end rest) (λ k d lt.
        let fewer : end + k < length rest = (let l = length-drop end rest in omega (arith, l, lt, high)) in
        subst (λ g. is_at n g ≡ false) (sym (get_or-drop end rest k d)) (later n (get_or rest (end + k) d) (up_to.1 (end + k) d (omega arith) fewer)))

    own : filter (is_at n) (take end rest) ≡ take end rest
    own = all_there n (take end rest) (λ k d lt.
        let fewer : k < end = (let l = length-take-le end rest high in omega (arith, l, lt)) in
        let there : first + k < length goals = (let l = length-drop first goals in omega (arith, l, fewer, high, low)) in
        let from : is_before n (get_or rest k d) ≡ false = subst (λ g. is_before n g ≡ false) (sym (get_or-drop first goals k d)) (before.1 (first + k) d (omega arith) there) in
        subst (λ g. is_at n g ≡ true) (sym (get_or-take end rest k d fewer)) (between n (get_or rest k d) from (up_to.0 k d (omega arith) fewer)))
