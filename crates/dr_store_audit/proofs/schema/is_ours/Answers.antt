use Rattle.std.proofs.Common.{◌∙◌, sym}
use Rattle.dr_store_audit.proofs.Forms.{written_out}
use Rattle.dr_store_audit.proofs.schema.is_ours.Goals as goal

pub returns : goal.returns
returns c = (λ yes. c.are_all.ensures.0 yes ∙ written_out, λ same. c.are_all.ensures.1 (same ∙ sym written_out))
