-- A checker between two entries.
use Rattle.std.specs.Prelude.{◌≡◌, ℕ, [], Contains}
use Rattle.dr_base.specs.Texts.{Text}
use Rattle.dr_route.specs.Routes.{local}
use Rattle.dr_route.specs.declared.cell.OwnedCell.{OwnedCell}
use Rattle.dr_plan_model.specs.Plans.{IsWellFormed}
use Rattle.dr_plan_sound.specs.Ranked.{line_at}
use Rattle.dr_check.specs.declared.checker.Checker.{Checker}
use Rattle.dr_check.specs.declared.checker.Stopped.{Stopped}
use Rattle.dr_check.specs.Searching.{IsSearching}
use Rattle.dr_check.specs.Stopping.{IsStoppedAt}

-- the checker stands on no walk, and can search any cell
pub record CheckerIsReady (c : Checker) : Type 0 where
  pub formed : IsWellFormed c.plan.now
  pub local_caller : c.local ≡ local
  pub no_walk : c.search.path.items ≡ []
  pub searching : (cell : OwnedCell) → IsSearching c.plan.now cell c.search

-- the checker has a line for what enters at the site in the cell
abbrev pub HasVisited : Checker → Text → OwnedCell → Type 0
HasVisited c site cell = (rank : ℕ) × Contains c.search.lines.items (line_at local site cell rank)

-- what stops the checker is true of its plan, at the entry
abbrev pub ShowsStopped : Checker → Stopped → Text → OwnedCell → Type 0
ShowsStopped c stopped site cell = IsStoppedAt c.plan.now stopped site cell
