use Rattle.std.proofs.Common.{take}
use Rattle.serde_json.specs.View.{items_view}
use Rattle.dr_word_audit_at.specs.Saying.{AreNames}
use Rattle.dr_word_audit_at.proofs.told.names_in.Given as goal

abbrev pub invariant-loop-value : goal.invariant-loop-value
invariant-loop-value l = AreNames (items_view (take l.value-index l.list)) l.names
