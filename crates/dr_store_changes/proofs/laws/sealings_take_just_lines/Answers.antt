use Rattle.dr_store_changes.proofs.Sealings.{sealings_take_just_lines}
use Rattle.dr_store_changes.proofs.laws.sealings_take_just_lines.Goals as goal

pub returns : goal.returns
returns c = sealings_take_just_lines
