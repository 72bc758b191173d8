-- The rows to a next node that wait: which is told as the oldest, and from where on they are looked
-- up.
use Rattle.std.specs.Prelude.{[], ◌∷◌, ◌||◌, ℕ, Bool, true, false, List, Option, None, Some}
use Rattle.dr_base.specs.Texts.{Text}
use Rattle.dr_run_control.specs.declared.console.RowSearch.{RowSearch}

-- the row that waits longest, of rows in the order of their moments
abbrev pub longest_of : List (ℕ × Text) → Option (Text × ℕ)
longest_of [] = None
longest_of (age ∷ ages) = Some (age.1, age.0)

-- no place is left behind which rows are to be looked up
abbrev pub is_none_left : Option Text → Bool
is_none_left None = true
is_none_left (Some after) = false

-- all rows are looked up again: none is noted, though some wait; and there was no room for one, or
-- none is left to be looked up
abbrev pub begins_anew : List (ℕ × Text) → Bool → Option Text → Bool
begins_anew [] is_full after = is_full || is_none_left after
begins_anew (age ∷ ages) is_full after = false

-- in which round rows are looked up, and behind which UID
abbrev pub search_from : ℕ → Option Text → Option RowSearch
search_from round None = None
search_from round (Some after) = Some (record { round = round; after = after })
