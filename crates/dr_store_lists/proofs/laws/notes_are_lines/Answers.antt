use Rattle.dr_store_lists.proofs.Lists.{notes_are_lines}
use Rattle.dr_store_lists.proofs.laws.notes_are_lines.Goals as goal

pub returns : goal.returns
returns c = notes_are_lines
