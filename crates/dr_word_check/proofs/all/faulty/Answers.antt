use Rattle.std.proofs.Common.{sym, ◌∙◌}
use Rattle.dr_word_check.proofs.Many.{some_there}
use Rattle.dr_word_check.proofs.all.faulty.Goals as goal

pub returns : goal.returns
returns c = λ text reads. (
  reads,
  c.requires,
  some_there c.args.faults (sym c.is_empty.ensures ∙ c.if-is_empty.false),
)
