use Rattle.std.proofs.Common.{◌≡◌, sym, ◌∙◌, take, arith}
use Rattle.std.proofs.lemmas.Bool.{false≢true}
use Rattle.std.proofs.lemmas.List.{take_all}
use Rattle.dr_plan_model.specs.declared.plan.Flow.{Flow}
use Rattle.dr_cert_lint.proofs.Looking.{none_found, none_more}
use Rattle.dr_cert_lint.proofs.flows.is_among.Goals as goal

pub loop-other-preserved : goal.loop-other-preserved
loop-other-preserved c =
    none_more (λ (flow : Flow). flow ≡ c.args.flow.now) c.args.flows.now c.loop-other.other-index c.other-item.result c.loop-other-test.true c.other-item.is
    (λ is. false≢true (sym c.if-is_same.false ∙ c.is_same.ensures.1 is)) c.loop-other.invariant

pub returns : goal.returns
returns c =
    let all : take c.loop-other.other-index c.args.flows.now ≡ c.args.flows.now = take_all _ _ (omega arith) in
    none_found (λ (flow : Flow). flow ≡ c.args.flow.now) c.args.flows.now c.loop-other.other-index all c.loop-other.invariant
