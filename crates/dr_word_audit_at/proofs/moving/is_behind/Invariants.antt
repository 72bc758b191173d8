use Rattle.std.proofs.Common.{◌≡◌, drop}
use Rattle.dr_word_audit_at.specs.Cuts.{cuts, lines_named}
use Rattle.dr_word_audit_at.proofs.moving.is_behind.Given as goal

abbrev pub invariant-loop-place : goal.invariant-loop-place
invariant-loop-place l = lines_named l.fn.name (cuts l.fn.counts l.fn.read) ≡ lines_named l.fn.name (cuts (drop l.place l.fn.counts) (drop l.place l.fn.read))
