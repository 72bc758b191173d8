use Rattle.std.proofs.Common.{subst}
use Rattle.dr_base.specs.Texts.{Text}
use Rattle.dr_plan_model.specs.Networks.{Network}
use Rattle.dr_plan_model.specs.Plans.{NamesNoNode}
use Rattle.dr_word_serve.proofs.running.listen_at.Goals as goal

pub returns-in_default : goal.returns-in_default
returns-in_default g c =
    let P : Network → Type 0 = λ plan. NamesNoNode plan c.args.opened.now.site.name in
    let Q : Text → Type 0 = λ name. NamesNoNode c.plan.result.now name in
    subst P c.plan.ensures.same (subst Q c.name.ensures c.in_default.ensures)
