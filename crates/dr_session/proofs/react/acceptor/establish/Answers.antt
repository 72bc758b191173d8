use Rattle.std.proofs.Common.{ap, ◌∙◌, Some}
use Rattle.dr_nego.specs.declared.agreed.Agreed.{Agreed}
use Rattle.dr_session.specs.declared.ends.Core.{Core}
use Rattle.dr_session.proofs.react.acceptor.establish.Goals as goal

pub returns : goal.returns
returns c =
    c.agree_with.ensures ∙ (ap (λ (a : Agreed). record c.accept.result { peer = c.args.rq.front.calling; agreed = Some a }) c.new.ensures
    ∙ ap (λ (x : Core). record x { peer = c.args.rq.front.calling; agreed = Some c.args.agreed }) c.accept.ensures)
