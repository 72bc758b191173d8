use Rattle.std.proofs.Common.{◌∙◌}
use Rattle.dr_run_shown.proofs.Forms.{plain_stands, short_stands}
use Rattle.dr_run_shown.proofs.laws.plain_text_stands.Goals as goal

pub returns : goal.returns
returns c = λ text plain short. short_stands text short ∙ plain_stands text plain
