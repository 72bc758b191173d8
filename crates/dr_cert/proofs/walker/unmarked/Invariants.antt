use Rattle.std.proofs.Common.{◌≡◌, length, false}
use Rattle.std.specs.Prelude.{All}
use Rattle.dr_cert.proofs.walker.unmarked.Given as goal

abbrev pub invariant-loop : goal.invariant-loop
invariant-loop l = (length l.marks.items ≡ l.counter) × All (λ mark. mark ≡ false) l.marks.items
