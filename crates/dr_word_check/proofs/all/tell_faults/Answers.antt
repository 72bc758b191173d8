use Rattle.std.proofs.Common.{subst, ◌∙◌}
use Rattle.std.specs.Io.KnownBytes.{Appends}
use Rattle.dr_base.specs.Texts.{Text}
use Rattle.dr_word_check.proofs.Many.{one_more}
use Rattle.dr_word_check.proofs.all.tell_faults.Goals as goal

pub loop-fault-preserved : goal.loop-fault-preserved
loop-fault-preserved g c =
    let W : Text → Type 0 = λ text. Appends (g.W.Write.contents c.loop-fault.output)
    (g.W.Write.contents c.write_all.new.self) text in
    one_more c.args.found.now c.loop-fault.fault-index c.fault-item.result
    (g.W.Write.contents c.args.output.now) (g.W.Write.contents c.loop-fault.output)
    (g.W.Write.contents c.write_all.new.self) c.loop-fault-test.true c.fault-item.is
    c.loop-fault.invariant
    (subst W (c.as_bytes.ensures ∙ c.in_ok-line.ensures) c.in_ok-write_all.ensures.bytes)
