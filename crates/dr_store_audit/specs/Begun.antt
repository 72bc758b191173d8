-- What a ledger had before the lines of its tables.
use Rattle.std.specs.Prelude.{◌≡◌, ◌+◌, List, length}
use Rattle.dr_ledger.specs.Books.{Line}
use Rattle.dr_ledger_history.specs.Contents.{content}
use Rattle.dr_ledger_history.specs.Told.{IsTold}
use Rattle.dr_store_audit.specs.declared.begun.Begun.{Begun}

-- it is what the lines of that past made, and the first line behind them has the next number
pub record HasBegun (past : List Line) (begun : Begun) : Type 0 where
  pub told : IsTold past (content begun.history.parts)
  pub next : begun.first ≡ length past + 1
