-- What the answers of these queries say.
use Rattle.std.specs.Prelude.{◌≡◌, ◌<◌, ◌-◌, ◌^◌, ℕ, List, Option, None, Some}
use Rattle.sqlite.specs.Order.{Row, column}
use Rattle.dr_store_schema.specs.Cells.{number_in}
use Rattle.dr_store_reads.specs.Queries.{first_of}
use Rattle.dr_ledger_views.specs.declared.stage.Stage.{Stage}
use Rattle.dr_ledger_views.specs.Views.{number_of}

-- The first row says this number, and it is below the one at which the database stops to count.
pub record IsCount (rows : List Row) (count : ℕ) : Type 0 where
  pub first : first_of (λ (row : Row). number_in (column row 0)) rows ≡ Some count
  pub below : count < 2 ^ 63 - 1

-- the number of the first row, if there is one
abbrev pub IsMoment : List Row → Option ℕ → Type 0
IsMoment rows due = due ≡ first_of (λ (row : Row). number_in (column row 0)) rows

-- the states from which and to which rows are wanted: all, where no stage is named
abbrev pub least_state : Option Stage → ℕ
least_state None = 0
least_state (Some stage) = number_of stage

abbrev pub greatest_state : Option Stage → ℕ
greatest_state None = 3
greatest_state (Some stage) = number_of stage
