use Rattle.std.proofs.Common.{◌≡◌, ◌<◌, refl, sym, ap, subst, ◌∙◌, List, length, get_or, take, Contains, arith}
use Rattle.std.proofs.lemmas.Bool.{false≢true}
use Rattle.std.proofs.lemmas.List.{take_all}
use Rattle.dr_plan_sound.specs.declared.certificate.Line.{Line}
use Rattle.dr_cert_lint.specs.Uses.{ServesLine}
use Rattle.dr_cert_lint.proofs.Looking.{none_more}
use Rattle.dr_cert_lint.proofs.Used.{line_that_uses, used_by_line}
use Rattle.dr_cert_lint.proofs.uses.is_used.Goals as goal

pub returns-then-branch : goal.returns-then-branch
returns-then-branch c =
    let certified = c.args.sealed.now in
    let lines = certified.certificate.lines in
    let same : c.as_slice-line-items.result.now ≡ lines = c.as_slice-line-items.ensures ∙ ap (λ x. x.lines) c.certificate.ensures.same in
    let lt : c.loop-line.line-index < length lines = subst (λ (xs : List Line). c.loop-line.line-index < length xs) same c.loop-line-test.true in
    let at : c.line-item.result ≡ get_or lines c.loop-line.line-index c.line-item.result = subst (λ (xs : List Line). c.line-item.result ≡ get_or xs c.loop-line.line-index c.line-item.result) same c.line-item.is in (
      λ h. used_by_line certified.plan certified.certificate c.plan-plan.ensures.well_formed c.plan-plan.ensures.sound c.certificate.ensures.own c.args.name.now c.args.part c.requires
          c.line-item.result (c.loop-line.line-index, lt, sym at) (c.in_ok-serves.ensures.0 c.if-branch.true),
      λ h. refl,
    )

pub loop-line-preserved : goal.loop-line-preserved
loop-line-preserved c =
    let lines = c.args.sealed.now.certificate.lines in
    let same : c.as_slice-line-items.result.now ≡ lines = c.as_slice-line-items.ensures ∙ ap (λ x. x.lines) c.certificate.ensures.same in
    let lt : c.loop-line.line-index < length lines = subst (λ (xs : List Line). c.loop-line.line-index < length xs) same c.loop-line-test.true in
    let at : c.line-item.result ≡ get_or lines c.loop-line.line-index c.line-item.result = subst (λ (xs : List Line). c.line-item.result ≡ get_or xs c.loop-line.line-index c.line-item.result) same c.line-item.is in
    none_more (ServesLine c.args.name.now c.args.part) lines c.loop-line.line-index c.line-item.result lt at
    (λ is. false≢true (sym c.if-branch.false ∙ c.in_ok-serves.ensures.1 is)) c.loop-line.invariant

pub returns : goal.returns
returns c =
    let certified = c.args.sealed.now in
    let lines = certified.certificate.lines in
    let same : c.as_slice-line-items.result.now ≡ lines = c.as_slice-line-items.ensures ∙ ap (λ x. x.lines) c.certificate.ensures.same in
    let long : length c.as_slice-line-items.result.now ≡ length lines = ap length same in
    let all : take c.loop-line.line-index lines ≡ lines = take_all _ _ (omega arith) in (
      λ h. absurd (false≢true h),
      λ used. (let l = line_that_uses certified.plan certified.certificate c.plan-plan.ensures.well_formed c.plan-plan.ensures.sound c.certificate.ensures.own c.args.name.now c.args.part c.requires used in
          absurd (c.loop-line.invariant l.0 (subst (λ (xs : List Line). Contains xs l.0) (sym all) l.1) l.2)),
    )
