use Rattle.std.proofs.Common.{arith, false}
use Rattle.dr_pdu.proofs.Parts.{weight_here, weight_more, all_items_more}
use Rattle.dr_pdu.proofs.lengths.contexts_len.Goals as goal

pub returns-then-body-gt-LONGEST_ASSOCIATION : goal.returns-then-body-gt-LONGEST_ASSOCIATION
returns-then-body-gt-LONGEST_ASSOCIATION g c = λ h.
    let here = weight_here (g.C.Context.body_text false) c.args.contexts.now c.loop-context.context-index c.context-item.result c.loop-context-test.true c.context-item.is in
    omega (arith, h.1, here, c.in-Some.ensures.1, c.if-body-gt-LONGEST_ASSOCIATION.true)

pub returns-then-len-gt-LONGEST_ASSOCIATION : goal.returns-then-len-gt-LONGEST_ASSOCIATION
returns-then-len-gt-LONGEST_ASSOCIATION g c = λ h.
    let here = weight_here (g.C.Context.body_text false) c.args.contexts.now c.loop-context.context-index c.context-item.result c.loop-context-test.true c.context-item.is in
    omega (arith, h.1, here, c.in-Some.ensures.1, c.loop-context.invariant.0, c.if-len-gt-LONGEST_ASSOCIATION.true)

pub loop-context-preserved : goal.loop-context-preserved
loop-context-preserved g c =
    let more = weight_more (g.C.Context.body_text false) c.args.contexts.now c.loop-context.context-index c.context-item.result c.loop-context-test.true c.context-item.is in (
      omega (arith, more, c.in-Some.ensures.1, c.loop-context.invariant.0),
      c.if-len-gt-LONGEST_ASSOCIATION.false,
      all_items_more g.C.Context.context_fits c.args.contexts.now c.loop-context.context-index c.context-item.result c.loop-context-test.true c.context-item.is c.loop-context.invariant.2 c.in-Some.ensures.0,
    )
