use Rattle.std.proofs.Common.{◌≡◌, ◌∙◌, ◌↔◌, List, Contains, ap, sym, subst}
use Rattle.dr_plan_model.specs.Networks.{Network}
use Rattle.dr_plan_sound.specs.declared.certificate.Certificate.{Certificate}
use Rattle.dr_plan_sound.specs.declared.certificate.Hop.{Hop}
use Rattle.dr_plan_sound.specs.Certificates.{IsCertificateOf}
use Rattle.dr_cert.specs.Conditions.{AreHopsInOrder}
use Rattle.dr_cert_trace.specs.Found.{AreFound, Carries}
use Rattle.dr_cert_trace.proofs.Followed.{is_journey}
use Rattle.dr_cert_trace.proofs.tracing.follow.Goals as goal

pub returns : goal.returns
returns c =
    let plan = c.args.sealed.now.plan in
    let certificate = c.args.sealed.now.certificate in
    let site = c.args.site.now in
    let key = c.args.key.now in
    let pairs = c.in_ok-pairs.pairs in
    let own : IsCertificateOf plan certificate = c.certificate-certificate.ensures.own in
    let found : AreFound plan site key pairs c.in_ok-pairs.keeps = subst (λ (p : Network). AreFound p site key pairs c.in_ok-pairs.keeps) c.plan-plan.ensures.same c.in_ok-pairs.ensures in
    let same : c.as_slice-2.result.now ≡ certificate.hops = c.as_slice-2.ensures ∙ ap (λ (it : Certificate). it.hops) c.certificate-certificate.ensures.same in
    let each : (hop : Hop) → Contains c.in_ok-hops.hops hop ↔ (Contains certificate.hops hop × Carries key pairs hop) =
    subst (λ (hops : List Hop). (hop : Hop) → Contains c.in_ok-hops.hops hop ↔ (Contains hops hop × Carries key pairs hop)) same c.in_ok-hops.ensures.each in
    is_journey plan certificate site key own pairs c.in_ok-pairs.keeps found c.args.rank c.in_ok-hops.hops c.in_ok-keeps.keeps c.requires.enters c.requires.rank
    each (c.in_ok-hops.ensures.ordered (subst AreHopsInOrder (sym same) own.hops_ordered)) c.in_ok-keeps.ensures.same c.in_ok-keeps.ensures.ordered
