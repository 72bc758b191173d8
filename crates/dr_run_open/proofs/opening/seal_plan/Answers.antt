use Rattle.std.proofs.Common.{subst}
use Rattle.dr_base.specs.Texts.{Text}
use Rattle.dr_run_open.specs.Sealings.{IsFaultOf}
use Rattle.dr_run_open.proofs.opening.seal_plan.Goals as goal

pub returns : goal.returns
returns g c =
    let P : Text → Type 0 = λ text. IsFaultOf c.args.plan text c.in-Err-seal_text.fault in
    (c.in-Ok.second.items, c.in-Ok.ensures, λ other. subst P c.as_slice.ensures.value (c.in-Err-seal_text.ensures other))
