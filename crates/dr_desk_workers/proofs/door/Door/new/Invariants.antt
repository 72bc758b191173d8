use Rattle.std.proofs.Common.{◌≡◌, ◌≤◌, ◌+◌, vec_len}
use Rattle.std.specs.Vec.{vec_capacity}
use Rattle.dr_desk_workers.proofs.door.Door.new.Given as goal

abbrev pub invariant-loop-i : goal.invariant-loop-i
invariant-loop-i g l = record {
  len : vec_len l.guests ≡ l._i;
  room : l.workers ≤ vec_capacity l.guests;
  parts : l.rest.parts + l._i ≡ 265;
  idle : l.rest.amount ≡ 0;
}
