use Rattle.std.proofs.Common.{length}
use Rattle.dr_pdu.specs.Items.{StartsPdv}
use Rattle.dr_base.specs.Runs.{Run}
use Rattle.dr_pdu.proofs.pdvs.pdvs_of.Given as goal

abbrev pub invariant-loop-rest : goal.invariant-loop-rest
invariant-loop-rest l = Run StartsPdv l.found.items l.text l.rest

abbrev pub decreases-loop-rest : goal.decreases-loop-rest
decreases-loop-rest l = length l.rest
