use Rattle.std.proofs.Common.{◌≡◌, ◌≤◌, vec_len}
use Rattle.std.specs.Vec.{vec_capacity}
use Rattle.dr_desk_workers.proofs.serving.workers.Given as goal

abbrev pub invariant-loop-i : goal.invariant-loop-i
invariant-loop-i g l = record { len : vec_len l.passes ≡ l._i; room : l.n ≤ vec_capacity l.passes }

abbrev pub ghosts-serve_all : goal.ghosts-serve_all
ghosts-serve_all g a = record { name = a.blank.name; parts = a.blank.parts }
