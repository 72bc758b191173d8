use Rattle.dr_word_serve.proofs.Coming.{err_as, opened_serves, reported_serves, unheard_serves, unopened_serves}
use Rattle.dr_word_serve.specs.Serving.{Serves}
use Rattle.dr_word_serve.proofs.running.serve_node.Goals as goal

pub returns-in_err-opened : goal.returns-in_err-opened
returns-in_err-opened g c =
    err_as (Serves (g.F.Files.holds c.args.system.files.now c.args.given.plan.now) (g.F.Files.holds c.args.system.files.now c.args.given.certificate.now) (g.O.Ledgers.opens c.args.system.ledgers.now c.args.given.ledger.now) g.O.Ledger.Ledger.site g.O.Ledger.Ledger.book g.O.Ledger.Ledger.stands c.args.given.node.now)
    c.in_err-opened.field-0.0 c.from_residual.result c.from_residual.ensures.0 c.from_residual.ensures.1
    (unopened_serves (g.F.Files.holds c.args.system.files.now c.args.given.plan.now) (g.F.Files.holds c.args.system.files.now c.args.given.certificate.now) (g.O.Ledgers.opens c.args.system.ledgers.now c.args.given.ledger.now) g.O.Ledger.Ledger.site g.O.Ledger.Ledger.book g.O.Ledger.Ledger.stands c.args.given.node.now
    c.in_err-opened.field-0.0 c.in_err-opened.ensures)

pub returns-in-Err : goal.returns-in-Err
returns-in-Err g c =
    unheard_serves (g.F.Files.holds c.args.system.files.now c.args.given.plan.now) (g.F.Files.holds c.args.system.files.now c.args.given.certificate.now) (g.O.Ledgers.opens c.args.system.ledgers.now c.args.given.ledger.now) g.O.Ledger.Ledger.site g.O.Ledger.Ledger.book g.O.Ledger.Ledger.stands c.args.given.node.now
    c.in_ok-opened.opened.sealed c.in_ok-opened.opened.site c.in_ok-opened.opened.ledger c.in_ok-opened.ensures
    c.in-Err.halt c.in-Err.ensures

pub returns-in-Ok-served : goal.returns-in-Ok-served
returns-in-Ok-served g c =
    reported_serves (g.F.Files.holds c.args.system.files.now c.args.given.plan.now) (g.F.Files.holds c.args.system.files.now c.args.given.certificate.now) (g.O.Ledgers.opens c.args.system.ledgers.now c.args.given.ledger.now) g.O.Ledger.Ledger.site g.O.Ledger.Ledger.book g.O.Ledger.Ledger.stands c.args.given.node.now
    c.in_ok-opened.opened.sealed c.in_ok-opened.opened.site c.in_ok-opened.opened.ledger c.in_ok-opened.ensures
    c.in-Ok-served.report c.in-Ok-served.ledger c.in-Ok-served.ensures

pub returns : goal.returns
returns g c =
    opened_serves (g.F.Files.holds c.args.system.files.now c.args.given.plan.now) (g.F.Files.holds c.args.system.files.now c.args.given.certificate.now) (g.O.Ledgers.opens c.args.system.ledgers.now c.args.given.ledger.now) g.O.Ledger.Ledger.site g.O.Ledger.Ledger.book g.O.Ledger.Ledger.stands c.args.given.node.now
    c.in_ok-opened.opened.sealed c.in_ok-opened.opened.site c.in_ok-opened.opened.ledger c.in_ok-opened.ensures
    c.in-Err-served.halt c.in-Err-served.ensures
