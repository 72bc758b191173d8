use Rattle.std.proofs.Common.{sym, ◌∙◌, ap, map}
use Rattle.dr_plan_expand.specs.Words.{of_sets}
use Rattle.dr_plan_expand.specs.Amounts.{defined_size, usual_size}
use Rattle.dr_plan_expand.proofs.Summed.{is_long, is_marked, is_plain}
use Rattle.dr_plan_expand.proofs.amount.classes_of.Goals as goal

pub returns-then-not-is_brief : goal.returns-then-not-is_brief
returns-then-not-is_brief c =
    is_long (λ name. defined_size c.args.sets.now name (usual_size (map of_sets c.args.usual.now) name)) c.args.word.now (sym c.if-not-is_brief.ensures)

pub returns-in-Some : goal.returns-in-Some
returns-in-Some c =
    is_marked (λ name. defined_size c.args.sets.now name (usual_size (map of_sets c.args.usual.now) name)) c.args.word.now c.in-Some.name.now c.size_by_name.result (sym c.if-not-is_brief.ensures)
    (sym c.as_bytes.ensures ∙ c.in-Some.ensures) (c.size_by_name.ensures ∙ ap (defined_size c.args.sets.now c.in-Some.name.now) c.usual_of.ensures)

pub returns-in-None : goal.returns-in-None
returns-in-None c =
    is_plain (λ name. defined_size c.args.sets.now name (usual_size (map of_sets c.args.usual.now) name)) c.args.word.now (sym c.if-not-is_brief.ensures) (λ rest e. c.in-None.ensures rest (c.as_bytes.ensures ∙ e))
