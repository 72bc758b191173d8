use Rattle.std.proofs.Common.{take}
use Rattle.dr_plan_text.proofs.Repeats.{Seen}
use Rattle.dr_plan_text.proofs.fields.are_apart.Given as goal

abbrev pub invariant-loop-text : goal.invariant-loop-text
invariant-loop-text l = Seen l.seen (take l.text-index l.texts)
