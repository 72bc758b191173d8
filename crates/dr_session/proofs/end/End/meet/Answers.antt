use Rattle.std.proofs.Common.{◌≡◌, Option, Some, None, subst, ap, ◌∙◌}
use Rattle.dr_session.specs.declared.ends.Core.{Core}
use Rattle.dr_session.specs.Ends.{Terminal, TakesCore}
use Rattle.dr_session.proofs.Ending.{meets_over_as, meets_done, meets_broke}
use Rattle.dr_session.proofs.end.End.meet.Goals as goal

pub returns-in_default : goal.returns-in_default
returns-in_default g c = meets_over_as g.P.DeskPort.step c.args.at c.args.input c.args.self.now c.take_core.new.self c.args.port.now c.new.result c.in_default.ensures c.new.ensures

pub returns-in_err-effect : goal.returns-in_err-effect
returns-in_err-effect g c =
    let T : Option Core → Type 0 = λ o. TakesCore c.args.self.now o c.take_core.new.self in
    meets_broke g.P.DeskPort.step c.args.at c.args.input c.in-Some.core c.args.self.now c.take_core.new.self c.args.port.now c.react.new.port c.from_residual.result
    (subst T c.in-Some.is c.take_core.ensures) c.from_residual.ensures.0 c.in_err-effect.ensures.broke

pub put-requires : goal.put-requires
put-requires g c =
    let T : Option Core → Type 0 = λ o. TakesCore c.args.self.now o c.take_core.new.self in
    let taken : TakesCore c.args.self.now (Some c.in-Some.core) c.take_core.new.self = subst T c.in-Some.is c.take_core.ensures in
    ap (λ (x : Terminal). x.core) taken.2

pub returns : goal.returns
returns g c =
    let T : Option Core → Type 0 = λ o. TakesCore c.args.self.now o c.take_core.new.self in
    meets_done g.P.DeskPort.step c.args.at c.args.input c.in-Some.core c.args.self.now c.take_core.new.self c.put.new.self c.args.port.now c.react.new.port c.in_ok-effect.effect
    (subst T c.in-Some.is c.take_core.ensures) c.put.ensures c.in_ok-effect.ensures.done
