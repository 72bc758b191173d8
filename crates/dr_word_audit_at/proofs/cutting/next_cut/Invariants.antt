use Rattle.std.proofs.Common.{◌≡◌, ◌++◌, ℕ, drop, take}
use Rattle.dr_word_audit_at.specs.Cuts.{put_on, rest_named}
use Rattle.dr_word_audit_at.proofs.cutting.next_cut.Given as goal

abbrev pub invariant-loop-place : goal.invariant-loop-place
invariant-loop-place l =
    (rest_named l.fn.name l.fn.counts l.fn.read ≡ rest_named l.fn.name (drop l.place l.fn.counts) (drop l.place l.fn.read))
    × ((more : ℕ) → put_on l.fn.name more l.fn.counts l.fn.read ≡ take l.place l.fn.counts ++ put_on l.fn.name more (drop l.place l.fn.counts) (drop l.place l.fn.read))
