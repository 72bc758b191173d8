use Rattle.std.proofs.Common.{◌≡◌, ap, subst, sym}
use Rattle.sha2.specs.Sha256.{sha256}
use Rattle.dr_ledger.specs.declared.content.ItemParts.{ItemParts}
use Rattle.dr_ledger.specs.Items.{IsItem}
use Rattle.dr_ledger.proofs.content.Item.of_parts.Goals as goal

pub invariant_of-result : goal.invariant_of-result
invariant_of-result c =
    let I : ItemParts → Type 0 = λ p. IsItem p.job × (p.digest ≡ sha256 p.job.body) in
    subst I (sym c.in_ok-parts.ensures) c.requires

pub returns-clause-same : goal.returns-clause-same
returns-clause-same c = ap (λ (p : ItemParts). p.job) c.in_ok-parts.ensures

pub returns-clause-item : goal.returns-clause-item
returns-clause-item c = let I : ItemParts → Type 0 = λ p. IsItem p.job in subst I (sym c.in_ok-parts.ensures) c.requires.0
