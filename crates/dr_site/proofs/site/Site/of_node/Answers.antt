use Rattle.std.proofs.Common.{◌≡◌, refl, subst, sym}
use Rattle.dr_site.specs.Parts.{Part, IsPartOf}
use Rattle.dr_site.proofs.Assembled.{is_site, assembled}
use Rattle.dr_site.proofs.site.Site.of_node.Goals as goal

pub of_parts-requires : goal.of_parts-requires
of_parts-requires c = is_site c.args.plan.now c.args.certificate.now _ c.requires.certified
    (assembled c.args.plan.now c.args.certificate.now c.args.name.now c.args.node.now c.requires.node _ _ _ _ _ _ _ _ _
    c.in_ok-clone.ensures refl c.digest.ensures c.in_ok-rules.ensures c.in_ok-accepts.ensures
    c.flows.ensures.same c.in_ok-flows.ensures c.as_slice.ensures c.in_ok-own.ensures c.as_slice-2.ensures.value c.in_ok-lines.ensures
    c.as_slice-3.ensures c.in_ok-hops.ensures c.in_ok-literals.ensures)

pub returns : goal.returns
returns c =
    let P : Part → Type 0 = λ p. (p.name ≡ c.args.name.now) × IsPartOf c.args.plan.now c.args.certificate.now p in
    subst P (sym c.in_ok-site.ensures) (
      c.in_ok-clone.ensures,
      assembled c.args.plan.now c.args.certificate.now c.args.name.now c.args.node.now c.requires.node _ _ _ _ _ _ _ _ _
          c.in_ok-clone.ensures refl c.digest.ensures c.in_ok-rules.ensures c.in_ok-accepts.ensures
          c.flows.ensures.same c.in_ok-flows.ensures c.as_slice.ensures c.in_ok-own.ensures c.as_slice-2.ensures.value c.in_ok-lines.ensures
          c.as_slice-3.ensures c.in_ok-hops.ensures c.in_ok-literals.ensures,
    )
