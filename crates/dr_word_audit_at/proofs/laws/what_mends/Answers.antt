use Rattle.dr_word_audit_at.proofs.CutsBegin.{mending_is_right}
use Rattle.dr_word_audit_at.proofs.laws.what_mends.Goals as goal

pub returns : goal.returns
returns c = mending_is_right
