use Rattle.std.proofs.Common.{sym, ◌∙◌}
use Rattle.dr_plan_expand.specs.Amounts.{defined_size}
use Rattle.dr_plan_expand.proofs.Summed.{is_long, is_marked, is_plain}
use Rattle.dr_plan_expand.proofs.amount.nodes_of.Goals as goal

pub returns-then-not-is_brief : goal.returns-then-not-is_brief
returns-then-not-is_brief c = is_long (λ name. defined_size c.args.groups.now name 1) c.args.word.now (sym c.if-not-is_brief.ensures)

pub returns-in-Some : goal.returns-in-Some
returns-in-Some c =
    is_marked (λ name. defined_size c.args.groups.now name 1) c.args.word.now c.in-Some.name.now c.size_by_name.result (sym c.if-not-is_brief.ensures)
    (sym c.as_bytes.ensures ∙ c.in-Some.ensures) c.size_by_name.ensures

pub returns-in-None : goal.returns-in-None
returns-in-None c =
    is_plain (λ name. defined_size c.args.groups.now name 1) c.args.word.now (sym c.if-not-is_brief.ensures) (λ rest e. c.in-None.ensures rest (c.as_bytes.ensures ∙ e))
