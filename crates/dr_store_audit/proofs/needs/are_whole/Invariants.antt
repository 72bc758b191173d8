use Rattle.std.proofs.Common.{◌≡◌, drop}
use Rattle.std.specs.Prelude.{◌↔◌}
use Rattle.std.specs.FinSet as set
use Rattle.std.specs.List.{AllByRecursion}
use Rattle.dr_base.specs.Texts.{text_cmp}
use Rattle.dr_ledger_history.specs.Trees.{as_set}
use Rattle.dr_store_audit.proofs.needs.are_whole.Given as goal

abbrev pub invariant-loop-print : goal.invariant-loop-print
invariant-loop-print l = AllByRecursion (λ p. p.1.whole ≡ set.contains (as_set text_cmp l.uids) p.0) (drop l.print-index l.prints) ↔ AllByRecursion (λ p. p.1.whole ≡ set.contains (as_set text_cmp l.uids) p.0) l.prints
