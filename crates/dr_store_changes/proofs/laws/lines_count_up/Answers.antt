use Rattle.dr_store_changes.proofs.Numbers.{lines_count_up}
use Rattle.dr_store_changes.proofs.laws.lines_count_up.Goals as goal

pub returns : goal.returns
returns c = lines_count_up
