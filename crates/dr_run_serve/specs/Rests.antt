-- How long a hop is left alone, and when its next visit is.
use Rattle.std.specs.Prelude.{◌≡◌, ◌⊎◌, ◌≤◌, ◌<◌, ◌+◌, ◌*◌, ℕ, Bool, false, true, max, min}
use Rattle.dr_session.specs.declared.ends.Ended.{Ended as End}
use Rattle.dr_session.specs.declared.ends.Ended.TheVariants as end
use Rattle.dr_run_serve.specs.declared.rest.Rest.{Rest}
use Rattle.dr_run_serve.specs.declared.resting.Noted.{Noted}
use Rattle.dr_run_serve.specs.declared.visit.Visit.{Visit}
use Rattle.dr_run_serve.specs.declared.visit.Visit.TheVariants as visit

-- How long a rest is. Where a row was made meanwhile, it is 5 s long at most.
abbrev pub rest_length : Bool → ℕ → ℕ
rest_length true wait = min 5000 wait
rest_length false wait = wait

-- The moment at which it ends.
abbrev pub rest_end : Rest → ℕ
rest_end rest = rest.since + rest_length rest.short rest.wait

-- Nothing keeps anybody from the next visit, and the first rest will be the shortest one.
abbrev pub IsNoRest : Rest → Type 0
IsNoRest rest = (rest.since ≡ 0) × (rest.wait ≡ 0) × (rest.short ≡ false)

-- A visit failed at that moment. Its rest is twice as long as the one before, from 1 s to 300 s.
-- It is 1 s where more than one outcome was noted, since then the next node had taken something;
-- and where a row was passed over, since then the node ended it by itself, and the hop goes on.
abbrev pub IsRestOfFailure : Rest → Noted → ℕ → Rest → Type 0
IsRestOfFailure rest noted now after =
    (after.since ≡ now)
    × (after.short ≡ false)
    × (1 < noted.settled → after.wait ≡ 1000)
    × (noted.passed ≡ true → after.wait ≡ 1000)
    × (noted.settled ≤ 1
    → noted.passed ≡ false
    → after.wait ≡ max 1000 (min 300000 (2 * rest.wait)))

-- The rest behind an association that ended so.
abbrev pub IsRestAfterEnd : Rest → End → Noted → ℕ → Rest → Type 0
IsRestAfterEnd rest end.Released noted now after = IsNoRest after
IsRestAfterEnd rest (end.Rejected _) noted now after = IsRestOfFailure rest noted now after
IsRestAfterEnd rest end.Aborted noted now after = IsRestOfFailure rest noted now after
IsRestAfterEnd rest end.Closed noted now after = IsRestOfFailure rest noted now after

-- The rest behind a visit that ended at that moment, at which that was noted. One at which nothing
-- was due says nothing of the next node.
abbrev pub IsRestAfter : Rest → Visit → Noted → ℕ → Rest → Type 0
IsRestAfter rest visit.Idle noted now after = after ≡ rest
IsRestAfter rest (visit.Unreached _) noted now after = IsRestOfFailure rest noted now after
IsRestAfter rest (visit.Ended ended) noted now after =
    IsRestAfterEnd rest ended noted now after
IsRestAfter rest (visit.Failed _) noted now after = IsRestOfFailure rest noted now after

-- A hop whose first row is due at that moment, and that has this rest, is visited now: the row is
-- due and the rest is over, or it is the last visit of all.
abbrev pub IsVisited : ℕ → Rest → Bool → ℕ → Type 0
IsVisited due rest last now = (last ≡ true) ⊎ (max due (rest_end rest) ≤ now)
