use Rattle.dr_store_reads.proofs.Outcomes.{reads_map}
use Rattle.dr_store_open.proofs.Reread.{not_own, own_if}
use Rattle.dr_store_open.proofs.bodies.is_own.Goals as goal

pub returns-in-Ok : goal.returns-in-Ok
returns-in-Ok c = own_if c.args.job c.in-Ok.item c.args.print.now c.is_of.result c.in-Ok.ensures c.is_of.ensures

pub returns : goal.returns
returns c = reads_map c.not_read.result (λ own says. not_own c.args.job c.args.print.now c.in-Err.fault own c.in-Err.ensures says) c.not_read.ensures
