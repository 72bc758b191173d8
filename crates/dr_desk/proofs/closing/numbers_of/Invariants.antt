use Rattle.std.proofs.Common.{◌≡◌, take}
use Rattle.std.specs.List.{flat_map}
use Rattle.dr_desk.specs.Agreeing.{numbers}
use Rattle.dr_desk.proofs.closing.numbers_of.Given as goal

abbrev pub invariant-loop-pass : goal.invariant-loop-pass
invariant-loop-pass g l = l.all.items ≡ flat_map (λ p. numbers p.receipts.items) (take l.pass-index l.passes)
