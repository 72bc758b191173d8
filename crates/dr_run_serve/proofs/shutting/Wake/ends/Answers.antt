use Rattle.std.proofs.Common.{Bool, subst}
use Rattle.dr_run_serve.specs.Sendings.{TellsShut}
use Rattle.dr_run_serve.proofs.shutting.Wake.ends.Goals as goal

pub returns-then-not-is_shut : goal.returns-then-not-is_shut
returns-then-not-is_shut g c =
    subst (λ (b : Bool). TellsShut g.L.Ledger.site g.L.Ledger.book g.L.Ledger.bodies g.L.Ledger.stands g.L.Ledger.failed g.B.Sharing.site g.B.Sharing.first b) c.if-not-is_shut.true c.is_shut.ensures

pub returns : goal.returns
returns g c =
    subst (λ (b : Bool). TellsShut g.L.Ledger.site g.L.Ledger.book g.L.Ledger.bodies g.L.Ledger.stands g.L.Ledger.failed g.B.Sharing.site g.B.Sharing.first b) c.if-not-is_shut.false c.is_shut.ensures
