use Rattle.std.proofs.Common.{drop}
use Rattle.std.specs.List.{AllByRecursion}
use Rattle.dr_desk.specs.Agreeing.{Rises}
use Rattle.dr_desk.proofs.closing.rise.Given as goal

abbrev pub invariant-loop-pass : goal.invariant-loop-pass
invariant-loop-pass g l = AllByRecursion (λ p. Rises p.receipts.items) (drop l.pass-index l.passes) → AllByRecursion (λ p. Rises p.receipts.items) l.passes
