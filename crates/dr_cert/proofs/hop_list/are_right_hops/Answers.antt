use Rattle.std.proofs.Common.{subst, List, Contains}
use Rattle.std.specs.Prelude.{◌↔◌, IsTrue}
use Rattle.dr_plan_sound.specs.declared.certificate.Hop.{Hop}
use Rattle.dr_plan_sound.specs.HopPairs.{IsFirstTooMany}
use Rattle.dr_cert.proofs.HopLists.{right_hops, too_many}
use Rattle.dr_cert.proofs.hop_list.are_right_hops.Goals as goal

pub returns-in-TooMany : goal.returns-in-TooMany
returns-in-TooMany c =
    let many : IsFirstTooMany c.args.lines.now c.in-TooMany.from c.in-TooMany.to = rw c.in-TooMany.is at c.in_ok-number_hops.ensures in
    too_many c.args.lines.now c.args.hops.now c.in-TooMany.from c.in-TooMany.to many.0

pub returns : goal.returns
returns c =
    let S : List Hop → Type 0 = λ hs. IsTrue c.in_ok-same-in-Hops.same ↔ ((hop : Hop) → Contains c.args.hops.now hop ↔ Contains hs hop) in
    right_hops c.args.lines.now c.args.hops.now c.in-Hops.all.items c.in_ok-same-in-Hops.same (rw c.in-Hops.is at c.in_ok-number_hops.ensures) (subst S c.as_slice.ensures.value c.in_ok-same-in-Hops.ensures)
