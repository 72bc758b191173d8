use Rattle.dr_run_shown.proofs.Forms.{shown_bounded, shown_prints}
use Rattle.dr_run_shown.proofs.laws.only_text_is_shown.Goals as goal

pub returns-clause-text : goal.returns-clause-text
returns-clause-text c = shown_prints

pub returns-clause-bounded : goal.returns-clause-bounded
returns-clause-bounded c = shown_bounded
