use Rattle.std.proofs.Common.{rules, subst, sym}
use Rattle.dr_cert.specs.Sealing.{IsSealed}
use Rattle.dr_cert.proofs.sealed.Sealed.new.Goals as goal

pub invariant_of-result : goal.invariant_of-result
invariant_of-result c =
    subst (λ p. IsSealed p.plan p.certificate p.literals p.index.items) (sym c.in_ok-parts.ensures) (search rules)
