use Rattle.std.proofs.Common.{arith, ap, length, List, ℕ, subst, ◌∙◌}
use Rattle.dr_pdu.specs.Written.{Fits}
use Rattle.dr_pdu.proofs.WrittenLemmas.{fits_request, fits_acceptance, fits_values, request_short, acceptance_short}
use Rattle.dr_pdu.proofs.encoder.put.Goals as goal

pub association_body-requires : goal.association_body-requires
association_body-requires c = (fits_request c.in-AssociateRq.rq (subst Fits c.in-AssociateRq.is c.requires)).0.fits

pub put_framed-requires : goal.put_framed-requires
put_framed-requires c =
    let e = ap (λ (b : List ℕ). length b) (c.deref.ensures.value ∙ c.in_ok-body-in-AssociateRq.ensures) in
    omega (arith, e, request_short c.in-AssociateRq.rq (subst Fits c.in-AssociateRq.is c.requires))

pub association_body-requires-in-AssociateAc : goal.association_body-requires-in-AssociateAc
association_body-requires-in-AssociateAc c = (fits_acceptance c.in-AssociateAc.ac (subst Fits c.in-AssociateAc.is c.requires)).0.fits

pub put_framed-requires-in-AssociateAc : goal.put_framed-requires-in-AssociateAc
put_framed-requires-in-AssociateAc c =
    let e = ap (λ (b : List ℕ). length b) (c.deref-in-AssociateAc.ensures.value ∙ c.in_ok-body-in-AssociateAc.ensures) in
    omega (arith, e, acceptance_short c.in-AssociateAc.ac (subst Fits c.in-AssociateAc.is c.requires))

pub put_transfer-requires : goal.put_transfer-requires
put_transfer-requires c = rw c.as_slice.ensures (fits_values c.in-Transfer.pdvs (subst Fits c.in-Transfer.is c.requires))
