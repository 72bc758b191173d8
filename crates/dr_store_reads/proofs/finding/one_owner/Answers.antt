use Rattle.std.proofs.Common.{arith}
use Rattle.dr_store_reads.proofs.Outcomes.{reads_map}
use Rattle.dr_store_reads.proofs.Owned.{one_row, owner_of_row}
use Rattle.dr_store_reads.proofs.finding.one_owner.Goals as goal

pub returns : goal.returns
returns c = reads_map c.owner_in.result (owner_of_row c.args.rows.now c.in-Some.row.now (one_row c.args.rows.now c.in-Some.row.now (let one = c.if-rows-ne1.false in omega (arith, one)) c.in-Some.ensures.value)) c.owner_in.ensures
