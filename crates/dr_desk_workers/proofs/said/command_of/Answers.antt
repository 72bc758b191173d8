use Rattle.std.proofs.Common.{[]}
use Rattle.dr_desk_workers.specs.Said.{command_in}
use Rattle.dr_desk_workers.proofs.Responses.{one_more}
use Rattle.dr_desk_workers.proofs.said.command_of.Goals as goal

pub loop-pdu-preserved : goal.loop-pdu-preserved
loop-pdu-preserved c =
    one_more command_in c.args.pdus.now c.loop-pdu.pdu-index
    c.pdu-item.result c.pdu-item.result
    [] c.loop-pdu.text.items c.put_pdu.new.text.items
    c.loop-pdu-test.true c.pdu-item.is c.loop-pdu.invariant
    c.in_ok-put_pdu.ensures
