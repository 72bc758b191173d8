use Rattle.std.proofs.Common.{Result}
use Rattle.dr_base.specs.Texts.{Text}
use Rattle.dr_run_open.specs.declared.halt.Halt.{Halt}
use Rattle.dr_run_serve.specs.contracts.tallied.OwnPortDeskPort.TheImpl as own
use Rattle.dr_run_serve.specs.contracts.tallied.OwnPortTallied.TheImpl as tallied
use Rattle.dr_word_serve.proofs.Coming.{err_as, opened_sends, unopened_sends, unread_sends}
use Rattle.dr_word_serve.specs.Sending.{Sends, VisitsBy}
use Rattle.dr_word_serve.proofs.submitting.send_node.Goals as goal

pub returns-in_err-opened : goal.returns-in_err-opened
returns-in_err-opened g c =
    let P : Result Text Halt → Type 0 = λ came. Sends (g.F.Files.holds c.args.system.files.now c.args.given.plan.now) (g.F.Files.holds c.args.system.files.now c.args.given.certificate.now) (g.F.Files.holds c.args.system.files.now c.args.file.now) (g.O.Ledgers.opens c.args.system.ledgers.now c.args.given.ledger.now)
    g.O.Ledger.Ledger.site g.O.Ledger.Ledger.book g.O.Ledger.Ledger.stands
    (VisitsBy (g.N.Network.connects c.args.system.network.now) g.N.Socket.Link.hears g.N.Socket.Link.sends g.N.Socket.Link.closes (own.step-value g.row.O-Ledger g.O.Ledger.Ledger g.O.Ledger.Ledger-dict).it (tallied.finds-value g.row.O-Ledger g.O.Ledger.Ledger g.O.Ledger.Ledger-dict).it (g.C.Clock.tells c.args.system.clock.now))
    c.args.given.node.now came (g.W.Write.contents c.args.output.now) (g.W.Write.contents c.args.output.now) in
    err_as P c.in_err-opened.field-0.0 c.from_residual.result c.from_residual.ensures.0 c.from_residual.ensures.1
    (unopened_sends (g.F.Files.holds c.args.system.files.now c.args.given.plan.now) (g.F.Files.holds c.args.system.files.now c.args.given.certificate.now) (g.O.Ledgers.opens c.args.system.ledgers.now c.args.given.ledger.now) g.O.Ledger.Ledger.site g.O.Ledger.Ledger.book g.O.Ledger.Ledger.stands c.args.given.node.now
    (g.F.Files.holds c.args.system.files.now c.args.file.now) (VisitsBy (g.N.Network.connects c.args.system.network.now) g.N.Socket.Link.hears g.N.Socket.Link.sends g.N.Socket.Link.closes (own.step-value g.row.O-Ledger g.O.Ledger.Ledger g.O.Ledger.Ledger-dict).it (tallied.finds-value g.row.O-Ledger g.O.Ledger.Ledger g.O.Ledger.Ledger-dict).it (g.C.Clock.tells c.args.system.clock.now))
    (g.W.Write.contents c.args.output.now) (g.W.Write.contents c.args.output.now) c.in_err-opened.field-0.0 c.in_err-opened.ensures)

pub returns-in-Err : goal.returns-in-Err
returns-in-Err g c =
    unread_sends (g.F.Files.holds c.args.system.files.now c.args.given.plan.now) (g.F.Files.holds c.args.system.files.now c.args.given.certificate.now) (g.O.Ledgers.opens c.args.system.ledgers.now c.args.given.ledger.now) g.O.Ledger.Ledger.site g.O.Ledger.Ledger.book g.O.Ledger.Ledger.stands c.args.given.node.now
    (g.F.Files.holds c.args.system.files.now c.args.file.now) (VisitsBy (g.N.Network.connects c.args.system.network.now) g.N.Socket.Link.hears g.N.Socket.Link.sends g.N.Socket.Link.closes (own.step-value g.row.O-Ledger g.O.Ledger.Ledger g.O.Ledger.Ledger-dict).it (tallied.finds-value g.row.O-Ledger g.O.Ledger.Ledger g.O.Ledger.Ledger-dict).it (g.C.Clock.tells c.args.system.clock.now))
    (g.W.Write.contents c.args.output.now) (g.W.Write.contents c.args.output.now)
    c.in_ok-opened.opened.sealed c.in_ok-opened.opened.site c.in_ok-opened.opened.ledger c.in_ok-opened.ensures
    c.in-Err.halt c.in-Err.ensures

pub returns : goal.returns
returns g c =
    opened_sends (g.F.Files.holds c.args.system.files.now c.args.given.plan.now) (g.F.Files.holds c.args.system.files.now c.args.given.certificate.now) (g.O.Ledgers.opens c.args.system.ledgers.now c.args.given.ledger.now) g.O.Ledger.Ledger.site g.O.Ledger.Ledger.book g.O.Ledger.Ledger.stands c.args.given.node.now
    (g.F.Files.holds c.args.system.files.now c.args.file.now) (VisitsBy (g.N.Network.connects c.args.system.network.now) g.N.Socket.Link.hears g.N.Socket.Link.sends g.N.Socket.Link.closes (own.step-value g.row.O-Ledger g.O.Ledger.Ledger g.O.Ledger.Ledger-dict).it (tallied.finds-value g.row.O-Ledger g.O.Ledger.Ledger g.O.Ledger.Ledger-dict).it (g.C.Clock.tells c.args.system.clock.now))
    (g.W.Write.contents c.args.output.now) (g.W.Write.contents c.send_opened.new.output)
    c.in_ok-opened.opened.sealed c.in_ok-opened.opened.site c.in_ok-opened.opened.ledger c.in_ok-opened.ensures
    c.in-Ok.item c.in-Ok.ensures c.send_opened.result c.send_opened.ensures
