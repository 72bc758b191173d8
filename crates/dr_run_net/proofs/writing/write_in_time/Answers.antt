use Rattle.std.specs.Prelude.{◌≤◌, List, ℕ, length, take}
use Rattle.std.proofs.Common.{subst}
use Rattle.std.proofs.lemmas.List.{take_rest}
use Rattle.std.specs.Io.KnownBytes.{Appends}
use Rattle.dr_run_net.proofs.Written.{written_more}
use Rattle.dr_run_net.proofs.writing.write_in_time.Goals as goal

pub loop-preserved : goal.loop-preserved
loop-preserved g c =
    let rest = take_rest c.args.bytes.now c.loop.at in
    written_more (g.S.Write.contents c.args.stream.now) (g.S.Write.contents c.loop.stream) (g.S.Write.contents c.write_some.new.stream) c.args.bytes.now c.loop.at c.in-Some.count c.loop.invariant.0 c.loop.invariant.1
    (subst (λ (left : List ℕ). c.in-Some.count ≤ length left) rest c.in-Some.ensures.0)
    (subst (λ (left : List ℕ). Appends (g.S.Write.contents c.loop.stream) (g.S.Write.contents c.write_some.new.stream) (take c.in-Some.count left)) rest c.in-Some.ensures.1)
