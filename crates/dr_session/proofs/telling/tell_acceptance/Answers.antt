use Rattle.std.proofs.Common.{Result, Ok, Err, sym, subst, ap, ◌∙◌}
use Rattle.dr_nego.specs.declared.agreed.Agreed.{Agreed}
use Rattle.dr_nego.specs.declared.fault.NegoFault.{NegoFault}
use Rattle.dr_nego.specs.Agreeing.{Concludes, IsTooSmall}
use Rattle.dr_session.specs.declared.ends.Input.TheVariants.{Acceptance}
use Rattle.dr_session.specs.declared.ends.Told.TheVariants.{Plain, Agreement}
use Rattle.dr_session.proofs.Saying.{tells_acceptance, unproposed, concluded}
use Rattle.dr_session.proofs.telling.tell_acceptance.Goals as goal

pub returns-in_default-clause-tells : goal.returns-in_default-clause-tells
returns-in_default-clause-tells c =
    tells_acceptance c.args.core.now c.args.ac (Plain (Acceptance c.args.ac)) c.requires (unproposed c.args.core.now.proposed c.args.ac c.in_default.is)

pub new-requires : goal.new-requires
new-requires c =
    let P : Result Agreed NegoFault → Type 0 = λ r. Concludes c.in-Some.rq c.args.ac r in
    let h = subst P c.in-Ok.is c.conclude.ensures in
    subst (λ (a : Agreed). IsTooSmall a.limit → ⊥) (sym h.3) h.2

pub returns-in-Ok-clause-tells : goal.returns-in-Ok-clause-tells
returns-in-Ok-clause-tells c =
    let P : Result Agreed NegoFault → Type 0 = λ r. Concludes c.in-Some.rq c.args.ac r in
    tells_acceptance c.args.core.now c.args.ac (Agreement (Ok c.new.result)) c.requires
    (concluded c.args.core.now.proposed c.in-Some.rq c.args.ac (Ok c.new.result) c.in-Some.is
    (subst P (c.in-Ok.is ∙ ap (λ (a : Agreed). Ok a) (sym c.new.ensures)) c.conclude.ensures))

pub returns-clause-tells : goal.returns-clause-tells
returns-clause-tells c =
    let P : Result Agreed NegoFault → Type 0 = λ r. Concludes c.in-Some.rq c.args.ac r in
    tells_acceptance c.args.core.now c.args.ac (Agreement (Err c.in-Err.why)) c.requires
    (concluded c.args.core.now.proposed c.in-Some.rq c.args.ac (Err c.in-Err.why) c.in-Some.is (subst P c.in-Err.is c.conclude.ensures))
