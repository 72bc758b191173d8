use Rattle.dr_run_open.proofs.Sealed.{both_ways, halted, placed}
use Rattle.dr_run_open.proofs.opening.open_node.Goals as goal

pub returns : goal.returns
returns g c =
    both_ways c.open_sealed.result
    (λ o h. placed (g.F.Files.holds c.args.files.now c.args.given.plan.now) (g.F.Files.holds c.args.files.now c.args.given.certificate.now) (g.O.Ledgers.opens c.args.ledgers.now c.args.given.ledger.now) g.O.Ledger.Ledger.site c.args.given.node.now c.in_ok-sealed.sealed o.sealed o.site o.ledger c.in_ok-sealed.ensures h)
    (λ halt h. halted (g.F.Files.holds c.args.files.now c.args.given.plan.now) (g.F.Files.holds c.args.files.now c.args.given.certificate.now) c.args.given.node.now c.in_ok-sealed.sealed halt c.in_ok-sealed.ensures h)
    c.open_sealed.ensures
