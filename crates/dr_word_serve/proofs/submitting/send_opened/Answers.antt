use Rattle.std.proofs.Common.{◌∙◌, ap, subst, List}
use Rattle.std.specs.Prelude.{MatchResult}
use Rattle.dr_run_open.specs.Hops.{hops_from}
use Rattle.dr_run_open.specs.declared.hops.NextHop.{NextHop}
use Rattle.dr_plan_model.specs.Networks.{Network}
use Rattle.dr_run_serve.specs.contracts.tallied.OwnPortDeskPort.TheImpl as own
use Rattle.dr_run_serve.specs.contracts.tallied.OwnPortTallied.TheImpl as tallied
use Rattle.dr_word_serve.specs.Sending.{IsUnsent, SentFrom, VisitsBy}
use Rattle.dr_word_serve.proofs.submitting.send_opened.Goals as goal

pub returns : goal.returns
returns g c =
    let P : List NextHop → Type 0 = λ hops. MatchResult c.send_ledger-sent.result
    (λ report. SentFrom g.L.Ledger.book g.L.Ledger.stands (VisitsBy (g.N.Network.connects c.args.network.now) g.N.Socket.Link.hears g.N.Socket.Link.sends g.N.Socket.Link.closes (own.step-value g.row.L g.L.Ledger g.L.Ledger-dict).it (tallied.finds-value g.row.L g.L.Ledger g.L.Ledger-dict).it (g.C.Clock.tells c.args.clock.now))
    c.args.opened.site hops c.args.item c.args.opened.ledger report (g.W.Write.contents c.args.output.now) (g.W.Write.contents c.send_ledger-sent.new.output)) IsUnsent in
    subst P (c.as_slice.ensures.value ∙ c.in-Ok.ensures ∙ ap (λ (plan : Network). hops_from c.args.opened.site plan.nodes) c.plan.ensures.same) c.send_ledger-sent.ensures
