use Rattle.std.proofs.Common.{◌≡◌, ◌∙◌, ◌<◌, get_or, refl, sym, ap, subst, List, Option, length, take, arith, rules}
use Rattle.std.proofs.lemmas.List.{take_all}
use Rattle.dr_plan_sound.specs.declared.certificate.Line.{Line}
use Rattle.dr_cert_expect.specs.declared.answer.Lack.{Lack}
use Rattle.dr_cert_expect.specs.Looking.{LooksAt}
use Rattle.dr_cert_expect.proofs.Covering.{AreLookedAt, holds, no_case, none_looked_at, one_more}
use Rattle.dr_cert_expect.proofs.row.look_over.Goals as goal

pub loop-line-init : goal.loop-line-init
loop-line-init c = none_looked_at c.args.sealed.now.plan c.args.row.now

pub loop-line-preserved : goal.loop-line-preserved
loop-line-preserved c =
    let plan = c.args.sealed.now.plan in
    let row = c.args.row.now in
    let lines = c.args.sealed.now.certificate.lines in
    let line = c.line-item.result in
    let i = c.loop-line.line-index in
    let same : c.as_slice-line-items.result.now ≡ lines = c.as_slice-line-items.ensures ∙ ap (λ x. x.lines) c.certificate.ensures.same in
    let lt : i < length lines = subst (λ (xs : List Line). i < length xs) same c.loop-line-test.true in
    let at : line ≡ get_or lines i line = subst (λ (xs : List Line). line ≡ get_or xs i line) same c.line-item.is in
    let looks = subst (λ (o : Option Lack). LooksAt plan row line c.loop-line.found c.look_at.new.found o) c.in_default.is c.in_ok-lack.ensures in
    one_more plan row lines i line c.loop-line.found c.look_at.new.found lt at c.loop-line.invariant looks

pub returns-then-not-found : goal.returns-then-not-found
returns-then-not-found c =
    let plan = c.args.sealed.now.plan in
    let certificate = c.args.sealed.now.certificate in
    let same : c.as_slice-line-items.result.now ≡ certificate.lines = c.as_slice-line-items.ensures ∙ ap (λ x. x.lines) c.certificate.ensures.same in
    let long : length c.as_slice-line-items.result.now ≡ length certificate.lines = ap length same in
    let all : take c.loop-line.line-index certificate.lines ≡ certificate.lines = take_all _ _ (omega arith) in
    no_case plan certificate c.plan-plan.ensures.sound c.certificate.ensures.own c.args.row.now c.loop-line.found
    (subst (λ (xs : List Line). AreLookedAt plan c.args.row.now xs c.loop-line.found) all c.loop-line.invariant) (search rules)

pub returns : goal.returns
returns c =
    let plan = c.args.sealed.now.plan in
    let certificate = c.args.sealed.now.certificate in
    let same : c.as_slice-line-items.result.now ≡ certificate.lines = c.as_slice-line-items.ensures ∙ ap (λ x. x.lines) c.certificate.ensures.same in
    let long : length c.as_slice-line-items.result.now ≡ length certificate.lines = ap length same in
    let all : take c.loop-line.line-index certificate.lines ≡ certificate.lines = take_all _ _ (omega arith) in
    holds plan certificate c.plan-plan.ensures.sound c.certificate.ensures.own c.args.row.now c.loop-line.found
    (subst (λ (xs : List Line). AreLookedAt plan c.args.row.now xs c.loop-line.found) all c.loop-line.invariant) (search rules)
