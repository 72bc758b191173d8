use Rattle.std.proofs.Common.{◌≡◌, ◌≤◌, length}
use Rattle.std.specs.Vec.{vec_len}
use Rattle.dr_world.proofs.playing.ledgers_of.Given as goal

-- one for each of those before
abbrev pub invariant-loop-name : goal.invariant-loop-name
invariant-loop-name l = (vec_len l.ledgers ≡ l.name-index) × (l.name-index ≤ length l.names)
