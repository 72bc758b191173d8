use Rattle.std.proofs.Common.{ℕ, List, ap, arith, length}
use Rattle.dr_ledger_read.proofs.Listed.{comma_there, no_comma}
use Rattle.dr_ledger_read.proofs.names.behind_comma.Goals as goal

pub returns-in-Some-clause-names : goal.returns-in-Some-clause-names
returns-in-Some-clause-names c = comma_there c.args.text.now c.in-Some.behind.now c.in-Some.ensures

pub returns-in-Some-clause-shorter : goal.returns-in-Some-clause-shorter
returns-in-Some-clause-shorter c = omega (arith, ap (λ (l : List ℕ). length l) c.in-Some.ensures)

pub returns-in-None-clause-names : goal.returns-in-None-clause-names
returns-in-None-clause-names c = no_comma c.args.text.now c.in-None.ensures

pub returns-in-None-clause-shorter : goal.returns-in-None-clause-shorter
returns-in-None-clause-shorter c = omega arith
