use Rattle.std.proofs.Common.{◌≡◌, drop}
use Rattle.std.specs.BTreeMap as tree
use Rattle.dr_ledger.specs.Pairs.{Pair, pair_cmp}
use Rattle.dr_word_audit_at.specs.Firsts.{is_goal, or_first}
use Rattle.dr_word_audit_at.proofs.moving.note_goals.Given as goal

abbrev pub invariant-loop-dest : goal.invariant-loop-dest
invariant-loop-dest l = (q : Pair) → or_first (tree.get pair_cmp l.goes q) (is_goal l.fn.uid (drop l.dest-index l.fn.to) q) l.fn.place ≡ or_first (tree.get pair_cmp l.initial.goes q) (is_goal l.fn.uid l.fn.to q) l.fn.place
