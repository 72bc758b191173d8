use Rattle.std.proofs.lemmas.Bool.{false≢true}
use Rattle.std.proofs.Common.{refl}
use Rattle.toml.specs.View.{table_view}
use Rattle.dr_plan_text.proofs.Refusals.{blank}
use Rattle.dr_plan.proofs.Cores.{of_other, fails_for, third_is_some}
use Rattle.dr_plan.proofs.read.core_of.Goals as goal

pub returns-then-not-is_third-clause-core : goal.returns-then-not-is_third-clause-core
returns-then-not-is_third-clause-core c = of_other c.args.text.now (table_view c.in-Ok.root) c.in-Ok.ensures.ok (λ third. false≢true (c.if-not-is_third.ensures.1 third))

pub returns-in-Ok-expand-clause-core : goal.returns-in-Ok-expand-clause-core
returns-in-Ok-expand-clause-core c = (table_view c.in-Ok.root, c.in-Ok.ensures.ok, c.in-Ok-expand.ensures.ok)

pub returns-in-Err-clause-none : goal.returns-in-Err-clause-none
returns-in-Err-clause-none c = λ e. c.in-Err.ensures.memory (c.if-is_memory.ensures.0 refl) (blank c.args.text.now e)

pub returns-clause-none : goal.returns-clause-none
returns-clause-none c =
    let third = c.if-not-is_third.ensures.0 refl in
    fails_for c.args.text.now (table_view c.in-Ok.root) c.in-Err-expand.fault c.in-Ok.ensures.ok third (third_is_some c.args.text.now (table_view c.in-Ok.root) c.in-Ok.ensures.ok third) c.in-Err-expand.ensures.fails
