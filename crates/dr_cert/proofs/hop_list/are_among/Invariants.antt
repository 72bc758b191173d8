use Rattle.std.proofs.Common.{ℕ, ◌<◌, get_or, Contains}
use Rattle.dr_plan_sound.specs.declared.certificate.Hop.{Hop}
use Rattle.dr_cert.proofs.hop_list.are_among.Given as goal

abbrev pub invariant-loop-hop : goal.invariant-loop-hop
invariant-loop-hop l = (k : ℕ) (d : Hop) → k < l.hop-index → Contains l.others (get_or l.hops k d)
