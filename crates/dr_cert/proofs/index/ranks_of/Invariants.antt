use Rattle.std.proofs.Common.{take}
use Rattle.dr_cert.specs.Indexing.{AreRanksOf}
use Rattle.dr_cert.proofs.index.ranks_of.Given as goal

abbrev pub invariant-loop-line : goal.invariant-loop-line
invariant-loop-line l = AreRanksOf (take l.line-index l.lines) l.ranks
