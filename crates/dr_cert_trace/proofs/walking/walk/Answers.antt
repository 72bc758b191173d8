use Rattle.std.proofs.Common.{rules, ◌≡◌, List, get_or, sym, subst, take, arith}
use Rattle.std.proofs.lemmas.List.{take_all}
use Rattle.dr_cert_trace.specs.declared.stages.TraceStage.{TraceStage}
use Rattle.dr_cert_trace.proofs.Walked.{IsSoFar, all_found, none, passes}
use Rattle.dr_cert_trace.proofs.walking.walk.Goals as goal

pub loop-stage-init : goal.loop-stage-init
loop-stage-init c = none c.args.plan.now c.args.site.now c.args.key.now c.new-pairs.result c.new-keeps.result (search rules) (search rules)

pub loop-stage-preserved : goal.loop-stage-preserved
loop-stage-preserved c =
    let stage = c.stage-item.result in
    let at : get_or c.args.stages.now c.loop-stage.stage-index stage ≡ stage = sym c.stage-item.is in
    passes c.args.plan.now c.args.site.now c.args.key.now c.args.stages.now c.requires.stages c.requires.enters c.loop-stage.stage-index stage c.loop-stage-test.true at
    c.loop-stage.pairs c.pass.new.pairs c.loop-stage.keeps c.pass.new.keeps c.in_ok-pass.ensures c.loop-stage.invariant

pub returns : goal.returns
returns c =
    let all : take c.loop-stage.stage-index c.args.stages.now ≡ c.args.stages.now = take_all _ _ (omega arith) in
    all_found c.args.plan.now c.args.site.now c.args.key.now c.args.stages.now c.requires.stages c.requires.enters c.loop-stage.pairs c.loop-stage.keeps
    (subst (λ (xs : List TraceStage). IsSoFar c.args.plan.now c.args.site.now c.args.key.now xs c.loop-stage.pairs c.loop-stage.keeps) all c.loop-stage.invariant)
