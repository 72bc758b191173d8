use Rattle.std.proofs.Common.{◌≡◌, ◌⊎◌, Contains, drop, true}
use Rattle.std.specs.Prelude.{◌↔◌}
use Rattle.std.specs.FinSet as set
use Rattle.dr_base.specs.Texts.{Text, text_cmp}
use Rattle.dr_ledger_history.specs.Trees.{as_set}
use Rattle.dr_store_audit.proofs.needs.all_kept.Given as goal

abbrev pub invariant-loop-uid : goal.invariant-loop-uid
invariant-loop-uid l = (q : Text) → ((set.contains (as_set text_cmp l.uids) q ≡ true) ⊎ Contains (drop l.uid-index l.kept) q) ↔ Contains l.kept q
