use Rattle.dr_certify.proofs.Digests.{of_core}
use Rattle.dr_certify.proofs.Found.{each}
use Rattle.dr_certify.proofs.certificate.certificate_of.Goals as goal

pub returns-in-Ok : goal.returns-in-Ok
returns-in-Ok c =
    let reads = c.in-Ok.ensures in
    each c.args.text.now c.in-Ok.plan c.certificate_of_plan.result reads (c.certificate_of_plan.ensures (of_core c.in-Ok.plan.digest c.args.text.now reads.2))
