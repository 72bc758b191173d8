use Rattle.std.proofs.Common.{List, ℕ, ap, ◌∙◌}
use Rattle.hex.specs.Hex.{encode_lower}
use Rattle.sha2.specs.Sha256.{sha256}
use Rattle.dr_ledger_balance.proofs.Ending.{sealed_so}
use Rattle.dr_ledger_balance.proofs.sealing.put_seal.Goals as goal

pub returns : goal.returns
returns c =
    sealed_so c.args.body.items c.as_bytes.result.now c.extend_from_slice.new.self.items c.extend_from_slice-2.new.self.items c.push.new.self.items
    (c.as_bytes.ensures.value ∙ c.in_ok-digits.ensures ∙ ap (λ (t : List ℕ). encode_lower (sha256 t)) c.as_slice.ensures.value)
    c.in_ok-extend_from_slice.ensures.items c.in_ok-extend_from_slice-2.ensures.items c.in_ok-push.ensures.items
