use Rattle.std.proofs.Common.{◌≡◌, ◌+◌, ◌≤◌, length, vec_len, sum_by}
use Rattle.dr_desk.proofs.closing.joined.Given as goal

abbrev pub invariant-loop-pass : goal.invariant-loop-pass
invariant-loop-pass g l = record {
  amount : l.all.amount ≡ l.sum;
  parts : l.all.parts + length l.passes.items ≡ l.fn.rest.parts + length l.fn.passes.items;
  sum : l.sum + sum_by (λ p. p.made.count) l.passes.items ≡ sum_by (λ p. p.made.count) l.fn.passes.items;
  total : l.tally.total ≡ l.fn.tally.total;
  least : l.sum ≤ l.tally.total;
  within : l.all.parts ≤ g.B.Ledger.parts;
}

abbrev pub decreases-loop-pass : goal.decreases-loop-pass
decreases-loop-pass g l = vec_len l.passes
