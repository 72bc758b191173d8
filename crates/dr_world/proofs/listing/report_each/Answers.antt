use Rattle.std.proofs.Common.{refl}
use Rattle.dr_world.specs.Reports.{books_of}
use Rattle.dr_world.proofs.Listed.{none_written, nodes_same, nodes_then, written_more, all_written}
use Rattle.dr_world.proofs.listing.report_each.Goals as goal

pub loop-name-init : goal.loop-name-init
loop-name-init g c = ((λ all. none_written c.args.others.now (books_of c.args.nodes.now) c.args.out.now.items), nodes_same c.args.nodes.now c.args.nodes.now refl)

pub loop-name-preserved : goal.loop-name-preserved
loop-name-preserved g c = (
  written_more c.args.nodes.now c.loop-name.nodes c.report_at.new.nodes c.args.others.now c.args.names.now c.loop-name.name-index c.name-item.result c.args.out.now.items c.loop-name.out.items c.report_at.new.out.items c.loop-name-test.true c.loop-name.invariant.0 c.loop-name.invariant.1
      c.in_ok-report_at.ensures.report c.in_ok-report_at.ensures.same c.name-item.is,
  nodes_then c.args.nodes.now c.loop-name.nodes c.report_at.new.nodes c.loop-name.invariant.1 c.in_ok-report_at.ensures.same,
)

pub returns-clause-reports : goal.returns-clause-reports
returns-clause-reports g c = λ all. all_written c.args.others.now (books_of c.args.nodes.now) c.args.names.now c.loop-name.name-index c.args.out.now.items c.loop-name.out.items c.loop-name-test.false (c.loop-name.invariant.0 all)

pub returns-clause-same : goal.returns-clause-same
returns-clause-same g c = c.loop-name.invariant.1
