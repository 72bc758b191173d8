use Rattle.std.proofs.Common.{◌≡◌, ◌++◌, ℕ, List, length}
use Rattle.dr_dataset.specs.declared.fault.DataFault.{DataFault}
use Rattle.dr_base.specs.declared.syntax.Syntax.{Syntax}
use Rattle.dr_dataset.specs.Hearing.{Hears, HasFailed}
use Rattle.dr_dataset.proofs.hearing.Scan.feed.Given as goal

abbrev pub invariant-pieces : goal.invariant-pieces
invariant-pieces l = (taken : List ℕ) × (l.piece ≡ taken ++ l.rest) × ((s : Syntax) (text : List ℕ) → Hears s text l.fn.self → Hears s (text ++ taken) l.self)
    × ((f : DataFault) → HasFailed l.fn.self f → HasFailed l.self f)

abbrev pub decreases-pieces : goal.decreases-pieces
decreases-pieces l = length l.rest
