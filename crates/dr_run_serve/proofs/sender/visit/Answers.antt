use Rattle.dr_run_serve.proofs.Recording.{comes_badly, comes_well}
use Rattle.dr_run_serve.specs.Sendings.{IsTold}
use Rattle.dr_run_serve.proofs.sender.visit.Goals as goal

pub returns-in-Ok : goal.returns-in-Ok
returns-in-Ok g c =
    comes_well g.L.Ledger.site g.L.Ledger.book g.L.Ledger.bodies g.L.Ledger.stands g.L.Ledger.failed g.B.Sharing.site g.B.Sharing.first _ _ _ _ _ _ _ _ _ _ _ _ _ _ _
    (IsTold g.L.Ledger.site g.L.Ledger.book g.L.Ledger.bodies g.L.Ledger.stands g.L.Ledger.failed g.B.Sharing.site g.B.Sharing.first) c.visit_on-visited.ensures (λ s call answer t h. h) (λ s to now found t h. h) c.in-Ok.visit c.in-Ok.is

pub returns-in-Err : goal.returns-in-Err
returns-in-Err g c =
    comes_badly g.L.Ledger.site g.L.Ledger.book g.L.Ledger.bodies g.L.Ledger.stands g.L.Ledger.failed g.B.Sharing.site g.B.Sharing.first _ _ _ _ _ _ _ _ _ _ _ _ _ _ _
    (IsTold g.L.Ledger.site g.L.Ledger.book g.L.Ledger.bodies g.L.Ledger.stands g.L.Ledger.failed g.B.Sharing.site g.B.Sharing.first) c.visit_on-visited.ensures (λ s call answer t h. h) (λ s to now found t h. h) c.in-Err.fault c.fault_of.result c.in-Err.is c.fault_of.ensures
