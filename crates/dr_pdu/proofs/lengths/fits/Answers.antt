use Rattle.std.proofs.Common.{◌∙◌, sym, subst, refl}
use Rattle.dr_pdu.specs.Written.{Fits}
use Rattle.dr_pdu.proofs.Parts.{there_iff}
use Rattle.dr_pdu.proofs.WrittenLemmas.{fits_request, fits_acceptance, fits_values, request_fits, acceptance_fits, values_fit, others_fit}
use Rattle.dr_pdu.proofs.lengths.fits.Goals as goal

pub returns-in-AssociateRq : goal.returns-in-AssociateRq
returns-in-AssociateRq c =
    let rq = c.in-AssociateRq.rq in
    let e = c.association_fits.ensures in (
      (λ t. let h = e.fits.0 t in subst Fits (sym c.in-AssociateRq.is) (request_fits rq e.version e.greatest h.0 h.1)),
      (λ f. let h = fits_request rq (subst Fits c.in-AssociateRq.is f) in e.fits.1 (h.0.fits, h.1)),
    )

pub returns-in-AssociateAc : goal.returns-in-AssociateAc
returns-in-AssociateAc c =
    let ac = c.in-AssociateAc.ac in
    let e = c.association_fits-in-AssociateAc.ensures in (
      (λ t. let h = e.fits.0 t in subst Fits (sym c.in-AssociateAc.is) (acceptance_fits ac e.version e.greatest h.0 h.1)),
      (λ f. let h = fits_acceptance ac (subst Fits c.in-AssociateAc.is f) in e.fits.1 (h.0.fits, h.1)),
    )

pub returns-in-Transfer : goal.returns-in-Transfer
returns-in-Transfer c =
    let pdvs = c.in-Transfer.pdvs in
    let iff = there_iff c.values_len.result _ _ (rw c.as_slice.ensures at c.values_len.ensures) in (
      (λ t. subst Fits (sym c.in-Transfer.is) (values_fit pdvs (iff.0 (sym c.is_some.ensures ∙ t)))),
      (λ f. c.is_some.ensures ∙ iff.1 (fits_values pdvs (subst Fits c.in-Transfer.is f))),
    )

pub returns-in_default : goal.returns-in_default
returns-in_default c = ((λ t. others_fit c.args.pdu.now c.in_default.not-AssociateRq c.in_default.not-AssociateAc c.in_default.not-Transfer), (λ f. refl))
