use Rattle.std.proofs.Common.{take}
use Rattle.std.specs.Prelude.{All}
use Rattle.dr_cert_expect.specs.Expected.{Holds}
use Rattle.dr_cert_expect.proofs.expecting.first_miss.Given as goal

-- the rows so far hold
abbrev pub invariant-loop-index : goal.invariant-loop-index
invariant-loop-index l = All (Holds l.fn.sealed.plan) (take l.index l.fn.rows)
