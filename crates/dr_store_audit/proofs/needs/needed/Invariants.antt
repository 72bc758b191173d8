use Rattle.std.proofs.Common.{◌≡◌, ◌⊎◌, Contains, drop, true}
use Rattle.std.specs.Prelude.{◌↔◌}
use Rattle.std.specs.FinSet as set
use Rattle.dr_base.specs.Texts.{Text, text_cmp}
use Rattle.dr_ledger_history.specs.Trees.{as_set}
use Rattle.dr_store_audit.specs.Needs.{IsOpenIn}
use Rattle.dr_store_audit.proofs.needs.needed.Given as goal

abbrev pub invariant-loop-row : goal.invariant-loop-row
invariant-loop-row l = (uid : Text) → ((set.contains (as_set text_cmp l.uids) uid ≡ true) ⊎ IsOpenIn (drop l.row-index l.rows) uid) ↔ (Contains l.kept uid ⊎ IsOpenIn l.rows uid)
