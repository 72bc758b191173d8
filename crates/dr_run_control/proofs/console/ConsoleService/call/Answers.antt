use Rattle.dr_run_control.proofs.Telling.{answers_on}
use Rattle.dr_run_control.proofs.console.ConsoleService.call.Goals as goal

pub respond-requires : goal.respond-requires
respond-requires g c = c.requires.body

pub returns-clause-ok : goal.returns-clause-ok
returns-clause-ok g c =
    let old = c.args.self.now in
    let new = c.answer-reply.new.self in (
      answers_on g.L.Ledger.site g.L.Ledger.book g.L.Ledger.stands g.L.Ledger.failed g.B.Sharing.site g.B.Sharing.first (g.H.House.copies old.house.now) old.access.now old.browser.now old.hops.now c.args.request.now c.answer-reply.result.status c.respond.new.response.status
          c.answer-reply.result.text.items c.respond.new.response.body.items old.pass.now.made.count new.pass.now.made.count old.pass.now.receipts.items new.pass.now.receipts.items
          c.respond.ensures.status c.respond.ensures.body c.answer-reply.ensures.answers,
      c.answer-reply.ensures.access.0,
      c.answer-reply.ensures.access.1,
      c.answer-reply.ensures.access.2,
    )
