use Rattle.std.proofs.Common.{sym, ◌∙◌}
use Rattle.dr_session.proofs.Ending.{takes_free}
use Rattle.dr_session.proofs.end.End.take_free.Goals as goal

pub returns : goal.returns
returns c =
    takes_free c.args.self.now c.self.inside.ear c.self.inside.core c.take.result c.take.new.self c.take.ensures.value c.take.ensures.after c.self.view_is (sym c.is_free.ensures ∙ c.if-not-is_free.false)
