use Rattle.std.proofs.Common.{◌≡◌, ap, sym, subst, ◌∙◌}
use Rattle.dr_nego.specs.declared.answering.Answer.{Answer}
use Rattle.dr_session.specs.declared.ends.Core.{Core}
use Rattle.dr_session.specs.Reactions.{decides_at}
use Rattle.dr_session.proofs.Wanting.{broke_at, site_writes}
use Rattle.dr_session.proofs.Fitting.{AnswerFits, answer_fits}
use Rattle.dr_session.proofs.Served.{AnswerServes, answer_serves}
use Rattle.dr_session.proofs.react.acceptor.decide.Goals as goal

pub accept-requires : goal.accept-requires
accept-requires g c =
    let P : Answer → Type 0 = λ a. AnswerFits a in
    let Q : Answer → Type 0 = λ a. AnswerServes a in
    let is = sym c.in_ok-ac.ensures.answer ∙ c.in-Accept.is in
    record {
      fits = subst P is (answer_fits c.args.rq c.in-Some.site c.args.at.others c.answer.ensures.site c.requires.fits);
      serves = subst Q is (answer_serves c.args.rq c.in-Some.site c.args.at.others);
    }

pub returns-in_err-ac-clause-broke : goal.returns-in_err-ac-clause-broke
returns-in_err-ac-clause-broke g c = broke_at g.P.DeskPort.step (decides_at c.args.core.site c.args.at c.args.rq c.args.core) c.from_residual.result c.args.port.now
    (site_writes c.args.core.site c.in-Some.site c.args.at c.args.rq c.args.core (ap (λ (x : Core). x.site) (sym c.as_core.ensures) ∙ c.in-Some.is))
