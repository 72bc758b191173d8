use Rattle.std.proofs.Common.{◌≡◌, ◌∙◌, ◌<◌, get_or, List, [], sym, subst, ap, length, take, arith}
use Rattle.std.proofs.lemmas.List.{take_all}
use Rattle.dr_plan_sound.specs.Certificates.{IsCertificateOf}
use Rattle.dr_plan_sound.specs.Soundness.{IsSound}
use Rattle.dr_plan_sound.specs.declared.certificate.Line.{Line}
use Rattle.dr_cert_trace.specs.declared.stages.TraceStage.{TraceStage}
use Rattle.dr_cert_trace.proofs.Gathering.{AreSoFar, all_lines, goes_on, none}
use Rattle.dr_cert_trace.proofs.stages.unsorted_stages.Goals as goal

pub loop-line-init : goal.loop-line-init
loop-line-init c =
    subst (λ (xs : List TraceStage). AreSoFar c.args.sealed.now.plan c.args.key.now [] xs) (sym c.new-stages.ensures.items) (none c.args.sealed.now.plan c.args.key.now)

pub loop-line-preserved : goal.loop-line-preserved
loop-line-preserved c =
    let certificate = c.args.sealed.now.certificate in
    let same : c.as_slice-line-items.result.now ≡ certificate.lines = c.as_slice-line-items.ensures ∙ ap (λ x. x.lines) c.certificate.ensures.same in
    let lt : c.loop-line.line-index < length certificate.lines = subst (λ (xs : List Line). c.loop-line.line-index < length xs) same c.loop-line-test.true in
    let at : c.line-item.result ≡ get_or certificate.lines c.loop-line.line-index c.line-item.result = subst (λ (xs : List Line). c.line-item.result ≡ get_or xs c.loop-line.line-index c.line-item.result) same c.line-item.is in
    goes_on c.args.sealed.now.plan c.args.key.now certificate.lines c.loop-line.stages.items c.loop-line.line-index c.line-item.result lt at c.add_stage.new.stages.items c.in_ok-add_stage.ensures c.loop-line.invariant

pub returns : goal.returns
returns c =
    let certificate = c.args.sealed.now.certificate in
    let lines = c.as_slice-line-items.result.now in
    let same : lines ≡ certificate.lines = c.as_slice-line-items.ensures ∙ ap (λ x. x.lines) c.certificate.ensures.same in
    let long : length lines ≡ length certificate.lines = ap length same in
    let all : take c.loop-line.line-index certificate.lines ≡ certificate.lines = take_all _ _ (omega arith) in
    let sound : IsSound c.args.sealed.now.plan = c.plan-plan.ensures.sound in
    let own : IsCertificateOf c.args.sealed.now.plan certificate = c.certificate.ensures.own in
    all_lines c.args.sealed.now.plan certificate c.args.key.now c.loop-line.stages.items sound own
    (subst (λ (xs : List Line). AreSoFar c.args.sealed.now.plan c.args.key.now xs c.loop-line.stages.items) all c.loop-line.invariant)
