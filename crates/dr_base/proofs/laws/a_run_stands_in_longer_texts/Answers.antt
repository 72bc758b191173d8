use Rattle.dr_base.proofs.RunLemmas.{run_longer}
use Rattle.dr_base.proofs.laws.a_run_stands_in_longer_texts.Goals as goal

pub returns : goal.returns
returns g c = record { longer = run_longer g.P.TextPart.starts }
