use Rattle.std.proofs.Common.{◌≡◌, ℕ, take, nat_eq}
use Rattle.std.specs.Ordering.{nat_cmp}
use Rattle.std.specs.List.{IsDistinct, list_any}
use Rattle.std.specs.BTreeSet as tree
use Rattle.dr_desk.proofs.closing.are_apart.Given as goal

abbrev pub invariant-loop-number : goal.invariant-loop-number
invariant-loop-number l = record {
  has : (q : ℕ) → tree.contains nat_cmp l.seen q ≡ list_any (nat_eq q) (take l.number-index l.all);
  apart : IsDistinct nat_eq (take l.number-index l.all);
}
