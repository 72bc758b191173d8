-- Lines of a journal by their numbers.
use Rattle.std.specs.Prelude.{◌≡◌, ℕ, ◌+◌, ◌-◌, ◌^◌, min, Bool, ◌&&◌, List, [], ◌∷◌, filter}
use Rattle.std.specs.Ordering.{is_gt, is_le, nat_cmp}
use Rattle.dr_ledger.specs.Books.{Line}

-- these lines with the numbers that follow that one
abbrev pub counted : ℕ → List Line → List (ℕ × Line)
counted after [] = []
counted after (line ∷ lines) = (after + 1, line) ∷ counted (after + 1) lines

-- the lines of a journal, each with its number: they count up from 1
abbrev pub HaveNumbers : List Line → List (ℕ × Line) → Type 0
HaveNumbers lines all = all ≡ counted 0 lines

-- the number lies behind the one, and not behind the other
abbrev pub is_within : ℕ → ℕ → ℕ → Bool
is_within after last n = is_gt (nat_cmp n after) && is_le (nat_cmp n last)

-- the last of so many numbers behind that one; none is 2^63 or above
abbrev pub last_of : ℕ → ℕ → ℕ
last_of after limit = min (after + limit) (2 ^ 63 - 1)

-- those of the numbered lines whose numbers lie there
abbrev pub lines_within : ℕ → ℕ → List (ℕ × Line) → List (ℕ × Line)
lines_within after last all = filter (λ (e : ℕ × Line). is_within after last e.0) all

-- The lines are those of the numbers behind that one, up to so many: each of its own number, and of
-- the numbers between them none is missing.
abbrev pub AreBehind : ℕ → ℕ → List (ℕ × Line) → List Line → Type 0
AreBehind after limit all lines =
    counted after lines ≡ lines_within after (last_of after limit) all
