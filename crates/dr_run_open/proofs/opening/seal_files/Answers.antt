use Rattle.std.proofs.Common.{subst, Ok}
use Rattle.dr_base.specs.Texts.{Text}
use Rattle.dr_plan.specs.Reading.{Reads}
use Rattle.dr_run_open.proofs.Sealed.{sealed_so}
use Rattle.dr_run_open.proofs.opening.seal_files.Goals as goal

pub returns : goal.returns
returns g c =
    let P : Text → Type 0 = λ text. Reads text (Ok c.in-Ok.plan) in
    sealed_so (g.F.Files.holds c.args.files.now c.args.plan.now) (g.F.Files.holds c.args.files.now c.args.certificate.now) c.in_ok-text.text.items c.in-Ok.plan c.seal_plan.result
    c.in_ok-text.ensures (subst P c.as_slice.ensures.value c.in-Ok.ensures) c.seal_plan.ensures
