use Rattle.dr_desk_workers.specs.Said.{fragment_of}
use Rattle.dr_desk_workers.proofs.Responses.{one_more}
use Rattle.dr_desk_workers.proofs.said.put_values.Goals as goal

pub loop-value-preserved : goal.loop-value-preserved
loop-value-preserved c =
    one_more fragment_of c.args.values.now c.loop-value.value-index
    c.value-item.result c.value-item.result
    c.args.text.now.items c.loop-value.text.items c.put_value.new.text.items
    c.loop-value-test.true c.value-item.is c.loop-value.invariant
    c.in_ok-put_value.ensures
