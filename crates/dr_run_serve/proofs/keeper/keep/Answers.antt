use Rattle.std.proofs.Common.{refl}
use Rattle.dr_run_serve.specs.Sweeps.{sweeping}
use Rattle.dr_run_serve.proofs.keeper.keep.Goals as goal

pub returns : goal.returns
returns g c =
    let new = c.new-sweeper.ensures in
    let all = c.keep_on.ensures in
    let terms = rw new.terms.1 at all.2 in
    let next = rw new.terms.2 at terms in
    let none = rw new.read.1 at next in
    let pass = rw new.terms.0 at none in
    let left = c.keep_on.new.sweeper in
    (c.new-sweeper.result.past, all.0, all.1, sweeping left.next left.sweep left.past left.pass.made.count left.pass.receipts.items, new.read.0, pass, rw c.into_pass.ensures refl, all.3)
