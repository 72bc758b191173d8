-- Where lines go on to, by the list of all goals.
use Rattle.std.specs.Prelude.{◌==◌, ◌||◌, ℕ, Bool, false, cond, List, [], ◌∷◌, filter}
use Rattle.std.specs.List.Sorted.{IsNonDecreasingBy}
use Rattle.std.specs.Ordering.{eq_by_cmp}
use Rattle.dr_base.specs.Texts.{Text, text_cmp}
use Rattle.dr_route.specs.Routes.{local}
use Rattle.dr_store_lists.specs.Lists.{Goal}

-- goals are in the order of their lines
abbrev pub AreByLine : List Goal → Type 0
AreByLine goals = IsNonDecreasingBy (λ (goal : Goal). goal.0) goals

-- the goal is of line n
abbrev pub is_at : ℕ → Goal → Bool
is_at n goal = goal.0 == n

-- the name stands for keeping
abbrev pub is_mark : Text → Bool
is_mark name = eq_by_cmp text_cmp local name

-- where these go on to
abbrev pub to_by : List Goal → List Text
to_by [] = []
to_by (goal ∷ goals) = cond (is_mark goal.1) (to_by goals) (goal.1 ∷ to_by goals)

-- whether one of these stands for keeping
abbrev pub keep_by : List Goal → Bool
keep_by [] = false
keep_by (goal ∷ goals) = is_mark goal.1 || keep_by goals

abbrev pub to_of : List Goal → ℕ → List Text
to_of goals n = to_by (filter (is_at n) goals)

abbrev pub keep_of : List Goal → ℕ → Bool
keep_of goals n = keep_by (filter (is_at n) goals)
