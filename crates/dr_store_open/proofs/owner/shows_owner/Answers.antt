use Rattle.std.proofs.Common.{arith}
use Rattle.dr_store_reads.proofs.Owned.{one_row}
use Rattle.dr_store_open.proofs.owner.shows_owner.Goals as goal

pub returns : goal.returns
returns c told =
    let one = c.if-rows-ne1.false in
    (c.in-Some.row.now, one_row c.args.rows.now c.in-Some.row.now (omega (arith, one)) c.in-Some.ensures.value, c.is_row_of.ensures told)
