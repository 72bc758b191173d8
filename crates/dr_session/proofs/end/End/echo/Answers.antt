use Rattle.std.proofs.Common.{◌≡◌, Option, Some, None, subst, ap}
use Rattle.dr_session.specs.declared.ends.Core.{Core}
use Rattle.dr_session.specs.Ends.{Terminal, TakesFree}
use Rattle.dr_session.proofs.Ending.{echoes_not, echoes_done, echoes_broke}
use Rattle.dr_session.proofs.end.End.echo.Goals as goal

pub returns-in_default : goal.returns-in_default
returns-in_default c =
    let T : Option Core → Type 0 = λ o. TakesFree c.args.self.now o c.take_free.new.self in
    echoes_not c.args.now c.args.self.now c.take_free.new.self c.new.result (subst T c.in_default.is c.take_free.ensures) c.new.ensures

pub returns-in_err-effect : goal.returns-in_err-effect
returns-in_err-effect c =
    let T : Option Core → Type 0 = λ o. TakesFree c.args.self.now o c.take_free.new.self in
    echoes_broke c.args.now c.in-Some.core c.args.self.now c.take_free.new.self c.from_residual.result (subst T c.in-Some.is c.take_free.ensures) c.from_residual.ensures.0 c.in_err-effect.ensures.wants

pub put-requires : goal.put-requires
put-requires c =
    let T : Option Core → Type 0 = λ o. TakesFree c.args.self.now o c.take_free.new.self in
    let taken : TakesFree c.args.self.now (Some c.in-Some.core) c.take_free.new.self = subst T c.in-Some.is c.take_free.ensures in
    ap (λ (x : Terminal). x.core) taken.2

pub returns : goal.returns
returns c =
    let T : Option Core → Type 0 = λ o. TakesFree c.args.self.now o c.take_free.new.self in
    echoes_done c.args.now c.in-Some.core c.args.self.now c.take_free.new.self c.put.new.self c.in_ok-effect.effect (subst T c.in-Some.is c.take_free.ensures) c.put.ensures c.in_ok-effect.ensures.done
