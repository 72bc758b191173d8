use Rattle.std.proofs.Common.{◌∙◌}
use Rattle.dr_word_import.proofs.Writes.{prints_plan}
use Rattle.dr_word_import.proofs.run.tell_plan.Goals as goal

pub returns-in-Ok : goal.returns-in-Ok
returns-in-Ok g c =
    prints_plan c.write_plan.result c.as_slice-devices.result.now c.in-Some.gate.now c.as_slice.result.now (g.W.Write.contents c.args.output.now) (g.W.Write.contents c.write_plan.new.output)
    (c.as_slice.ensures.value ∙ c.in-Ok.ensures) c.write_plan.ensures
