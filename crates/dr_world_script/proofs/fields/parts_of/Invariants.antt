use Rattle.std.proofs.Common.{◌≡◌, ◌++◌, length, map}
use Rattle.dr_cert_text.specs.Cuts.{cuts}
use Rattle.dr_world_script.proofs.fields.parts_of.Given as goal

-- the parts so far, and those of what is left
abbrev pub invariant-loop-part : goal.invariant-loop-part
invariant-loop-part l = map (λ part. part.now) l.parts.items ++ cuts l.mark l.rest ≡ cuts l.mark l.text

abbrev pub decreases-loop-part : goal.decreases-loop-part
decreases-loop-part l = length l.rest
