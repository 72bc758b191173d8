use Rattle.std.proofs.Common.{refl}
use Rattle.std.proofs.lemmas.Bool.{false≢true}
use Rattle.std.proofs.lemmas.Result.{err_from_is_err_and}
use Rattle.dr_plan_expand.proofs.Expanded.{field_of, never_unknown, unknown_of, never_field, field_no_limit, word_no_limit}
use Rattle.dr_plan_expand.proofs.expand.stand_in.Goals as goal

pub returns-in_err-short-clause-field : goal.returns-in_err-short-clause-field
returns-in_err-short-clause-field c =
    let p = err_from_is_err_and c.from_residual.result c.from_residual.ensures.1 in
    rw (p.1, p.2) (λ e. c.in_err-short.ensures.field (field_of c.in_err-short.field-0.0 e))

pub returns-in_err-short-clause-limit : goal.returns-in_err-short-clause-limit
returns-in_err-short-clause-limit c =
    let p = err_from_is_err_and c.from_residual.result c.from_residual.ensures.1 in
    rw (p.1, p.2) (λ e. absurd (field_no_limit c.in_err-short.field-0.0 e))

pub returns-then-not-is_within-clause-limit : goal.returns-then-not-is_within-clause-limit
returns-then-not-is_within-clause-limit c = λ e. (c.in_ok-short.short, c.in_ok-short.ensures.ok, λ within. false≢true (c.if-not-is_within.ensures.1 within))

pub returns-in_err-plan-clause-limit : goal.returns-in_err-plan-clause-limit
returns-in_err-plan-clause-limit c =
    let p = err_from_is_err_and c.from_residual-in_err-plan.result c.from_residual-in_err-plan.ensures.1 in
    rw (p.1, p.2) (λ e. absurd (word_no_limit c.in_err-plan.field-0.0 e))

pub returns-in_err-short-clause-unknown : goal.returns-in_err-short-clause-unknown
returns-in_err-short-clause-unknown c =
    let p = err_from_is_err_and c.from_residual.result c.from_residual.ensures.1 in
    rw (p.1, p.2) (λ e. absurd (never_unknown c.in_err-short.field-0.0 e))

pub returns-in_err-plan-clause-field : goal.returns-in_err-plan-clause-field
returns-in_err-plan-clause-field c =
    let p = err_from_is_err_and c.from_residual-in_err-plan.result c.from_residual-in_err-plan.ensures.1 in
    rw (p.1, p.2) (λ e. absurd (never_field c.in_err-plan.field-0.0 e))

pub returns-in_err-plan-clause-unknown : goal.returns-in_err-plan-clause-unknown
returns-in_err-plan-clause-unknown c =
    let p = err_from_is_err_and c.from_residual-in_err-plan.result c.from_residual-in_err-plan.ensures.1 in
    rw (p.1, p.2) (λ e. (c.in_ok-short.short, c.in_ok-short.ensures.ok, c.if-not-is_within.ensures.0 refl, c.in_err-plan.ensures.unknown (unknown_of c.in_err-plan.field-0.0 e)))

pub returns-clause-ok : goal.returns-clause-ok
returns-clause-ok c = record {
  short = c.in_ok-short.short;
  plan = c.in_ok-plan.plan;
  says = c.in_ok-short.ensures.ok;
  within = c.if-not-is_within.ensures.0 refl;
  means = c.in_ok-plan.ensures.ok;
  is = c.in_ok-text.ensures;
}
