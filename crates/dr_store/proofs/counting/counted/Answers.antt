use Rattle.std.proofs.Common.{arith}
use Rattle.dr_store.proofs.Writes.{counts}
use Rattle.dr_store.proofs.counting.counted.Goals as goal

pub returns-clause-counts : goal.returns-clause-counts
returns-clause-counts g c = counts c.args.answer.now c.args.failures c.count_of.result c.count_of.ensures (omega (arith, c.ranges.failures.fits))
