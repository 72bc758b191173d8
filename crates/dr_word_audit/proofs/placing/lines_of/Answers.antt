use Rattle.std.proofs.Common.{◌∙◌, ap, sym, arith}
use Rattle.std.specs.Prelude.{map as mapped}
use Rattle.dr_ledger_history.specs.Lines.{line_of}
use Rattle.dr_word_audit.proofs.NamedLines.{goes_on, is_none, it_is}
use Rattle.dr_word_audit.proofs.placing.lines_of.Goals as goal

pub loop-node-preserved : goal.loop-node-preserved
loop-node-preserved c = goes_on c.args.name.now c.args.nodes.now c.loop-node.node-index c.node-item.result c.loop-node-test.true c.node-item.is c.loop-node.invariant (sym c.eq.ensures ∙ c.if-eq.false)

pub returns-then-eq : goal.returns-then-eq
returns-then-eq c =
    ap (mapped line_of) c.as_slice.ensures
    ∙ it_is c.args.name.now c.args.nodes.now c.loop-node.node-index c.node-item.result c.loop-node-test.true c.node-item.is c.loop-node.invariant (sym c.eq.ensures ∙ c.if-eq.true)

pub returns : goal.returns
returns c = is_none c.args.name.now c.args.nodes.now c.loop-node.node-index (omega (arith, c.loop-node-test.false)) c.loop-node.invariant
