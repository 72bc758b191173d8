use Rattle.std.proofs.Common.{sym, ap, ◌∙◌}
use Rattle.dr_session.specs.declared.ends.Core.{Core}
use Rattle.dr_session.proofs.Acting.{given_at}
use Rattle.dr_session.proofs.Wanting.{given_broke}
use Rattle.dr_session.proofs.Wanting.{given_nothing}
use Rattle.dr_session.proofs.react.requestor.give.Goals as goal

pub returns-in-Some-context_of-clause-done : goal.returns-in-Some-context_of-clause-done
returns-in-Some-context_of-clause-done g c =
    given_at g.P.DeskPort.step c.args.core c.in-Some.agreed c.in-Some-context_of.context c.args.at c.args.job c.give_in.result c.args.port.now
    (ap (λ (x : Core). x.agreed) (sym c.as_core.ensures) ∙ c.in-Some.is) c.in-Some-context_of.ensures c.give_in.ensures

pub returns-in-Some-context_of-clause-broke : goal.returns-in-Some-context_of-clause-broke
returns-in-Some-context_of-clause-broke g c =
    given_broke g.P.DeskPort.step c.args.core c.in-Some.agreed c.in-Some-context_of.context c.args.at c.args.job c.give_in.result c.args.port.now
    (ap (λ (x : Core). x.agreed) (sym c.as_core.ensures) ∙ c.in-Some.is) c.in-Some-context_of.ensures

pub returns-in-None-clause-broke : goal.returns-in-None-clause-broke
returns-in-None-clause-broke g c =
    given_nothing g.P.DeskPort.step c.args.core c.in-Some.agreed c.args.at c.args.job c.settle_without.result c.args.port.now c.settle_without.new.port
    (ap (λ (x : Core). x.agreed) (sym c.as_core.ensures) ∙ c.in-Some.is) c.in-None.ensures c.settle_without.ensures.broke
