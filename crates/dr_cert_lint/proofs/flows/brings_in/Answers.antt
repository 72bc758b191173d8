use Rattle.std.proofs.Common.{◌≡◌, Contains, sym, ◌∙◌, take, arith}
use Rattle.std.proofs.lemmas.Bool.{false≢true}
use Rattle.std.proofs.lemmas.List.{take_all}
use Rattle.dr_plan_model.specs.declared.plan.Flow.{Flow}
use Rattle.dr_cert_lint.proofs.Looking.{none_found, none_more}
use Rattle.dr_cert_lint.proofs.flows.brings_in.Goals as goal

pub loop-flow-preserved : goal.loop-flow-preserved
loop-flow-preserved c =
    none_more (λ (flow : Flow). Contains flow.classes c.args.class.now × Contains flow.syntaxes c.args.syntax) c.args.flows.now c.loop-flow.flow-index c.flow-item.result c.loop-flow-test.true c.flow-item.is
    (λ is. false≢true (sym c.if-is_brought_by.false ∙ c.is_brought_by.ensures.1 is)) c.loop-flow.invariant

pub returns : goal.returns
returns c =
    let all : take c.loop-flow.flow-index c.args.flows.now ≡ c.args.flows.now = take_all _ _ (omega arith) in
    none_found (λ (flow : Flow). Contains flow.classes c.args.class.now × Contains flow.syntaxes c.args.syntax) c.args.flows.now c.loop-flow.flow-index all c.loop-flow.invariant
