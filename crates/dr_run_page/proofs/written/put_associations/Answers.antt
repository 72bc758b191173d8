use Rattle.dr_run_page.specs.Documents.{association_row}
use Rattle.dr_run_answer.proofs.Chained.{one_more}
use Rattle.dr_run_page.proofs.written.put_associations.Goals as goal

pub loop-association-preserved : goal.loop-association-preserved
loop-association-preserved c =
    one_more (association_row c.args.now) c.args.associations.now
    c.loop-association.association-index c.association-item.result c.association-item.result
    c.args.out.now.items c.loop-association.out.items c.put_association.new.out.items
    c.loop-association-test.true c.association-item.is c.loop-association.invariant
    c.in_ok-put_association.ensures
