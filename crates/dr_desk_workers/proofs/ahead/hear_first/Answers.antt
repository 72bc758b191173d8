use Rattle.std.proofs.Common.{◌≡◌, Option, Some, None, sym, subst, ◌∙◌}
use Rattle.dr_desk_workers.specs.declared.ahead.Ahead.{Ahead}
use Rattle.dr_desk_workers.specs.Hearing.{TakesHeard}
use Rattle.dr_desk_workers.proofs.Waited.{Waited, is_ahead, one_more}
use Rattle.dr_desk_workers.proofs.ahead.hear_first.Goals as goal

pub returns-in-Some : goal.returns-in-Some
returns-in-Some g c =
    let takes : TakesHeard c.recv-heard.result c.loop-piece.text.items (Some c.in-Some.ahead) c.take_in.new.text.items =
    subst (λ (o : Option Ahead). TakesHeard c.recv-heard.result c.loop-piece.text.items o c.take_in.new.text.items) c.in-Some.is c.in_ok-ahead.ensures in
    is_ahead g.K.Link.hears c.args.link.now c.loop-piece.link c.recv-heard.new.self c.loop-piece.text.items c.take_in.new.text.items c.recv-heard.result c.in-Some.ahead
    c.loop-piece.invariant c.recv-heard.ensures.hears takes

pub loop-piece-preserved : goal.loop-piece-preserved
loop-piece-preserved g c =
    let takes : TakesHeard c.recv-heard.result c.loop-piece.text.items None c.take_in.new.text.items =
    subst (λ (o : Option Ahead). TakesHeard c.recv-heard.result c.loop-piece.text.items o c.take_in.new.text.items) c.in_default.is c.in_ok-ahead.ensures in
    one_more g.K.Link.hears c.args.link.now c.loop-piece.link c.recv-heard.new.self c.loop-piece.text.items c.take_in.new.text.items c.recv-heard.result
    c.loop-piece.invariant c.recv-heard.ensures.hears takes
