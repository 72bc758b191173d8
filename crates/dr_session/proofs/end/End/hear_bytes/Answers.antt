use Rattle.std.proofs.Common.{◌≡◌, Option, Some, None, refl, sym, subst, ap, ◌∙◌}
use Rattle.dr_session.specs.declared.ends.Core.{Core}
use Rattle.dr_session.specs.Ends.{Terminal, TakesCore}
use Rattle.dr_session.proofs.Ending.{hears_over_as, hears_done, hears_broke, terminal, taken_as}
use Rattle.dr_session.proofs.end.End.hear_bytes.Goals as goal

pub returns-in_default : goal.returns-in_default
returns-in_default g c = hears_over_as g.P.DeskPort.step c.args.at c.args.piece.now c.args.self.now c.take_core.new.self c.args.port.now c.new.result c.in_default.ensures c.new.ensures

pub returns-in_err-effect : goal.returns-in_err-effect
returns-in_err-effect g c =
    let taken = taken_as c.args.self.now c.take_core.new.self (terminal c.self.inside.ear c.self.inside.core) c.take_core.result c.in-Some.core c.in-Some.is c.self.view_is c.take_core.ensures in
    hears_broke g.P.DeskPort.step c.args.at c.args.piece.now c.in-Some.core c.args.self.now (terminal c.self.inside.ear c.self.inside.core) (terminal c.hear.new.ear c.self.inside.core) c.args.port.now c.hear.new.port c.from_residual.result
    taken refl c.from_residual.ensures.0 c.in_err-effect.ensures.broke

pub put-requires : goal.put-requires
put-requires g c =
    let taken = taken_as c.args.self.now c.take_core.new.self (terminal c.self.inside.ear c.self.inside.core) c.take_core.result c.in-Some.core c.in-Some.is c.self.view_is c.take_core.ensures in
    ap (λ (x : Terminal). x.core) taken.2

pub returns : goal.returns
returns g c =
    let taken = taken_as c.args.self.now c.take_core.new.self (terminal c.self.inside.ear c.self.inside.core) c.take_core.result c.in-Some.core c.in-Some.is c.self.view_is c.take_core.ensures in
    hears_done g.P.DeskPort.step c.args.at c.args.piece.now c.in-Some.core c.args.self.now (terminal c.self.inside.ear c.self.inside.core) c.put.new.self c.args.port.now c.hear.new.port c.hear.new.ear c.in_ok-effect.effect
    taken c.put.ensures c.in_ok-effect.ensures.done
