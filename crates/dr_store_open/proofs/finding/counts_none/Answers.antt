use Rattle.std.proofs.Common.{◌≡◌, IsTrue, subst}
use Rattle.std.specs.Prelude.{◌↔◌}
use Rattle.dr_store_sealed.specs.declared.seal.Seal.{Seal}
use Rattle.dr_store_open.proofs.finding.counts_none.Goals as goal

pub returns-in-Some : goal.returns-in-Some
returns-in-Some c text =
    subst (λ (s : Seal). IsTrue c.is_of_none.result ↔ (s.count ≡ 0)) c.in-Some.ensures c.is_of_none.ensures

pub returns-in-None : goal.returns-in-None
returns-in-None c text = absurd (c.in-None.ensures text)
