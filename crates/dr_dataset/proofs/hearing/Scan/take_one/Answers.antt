use Rattle.std.proofs.Common.{get_or, ◌∷◌, []}
use Rattle.dr_dataset.proofs.HearLemmas.{one_byte, some_byte}
use Rattle.dr_dataset.proofs.hearing.Scan.take_one.Goals as goal

pub returns : goal.returns
returns c = (get_or c.args.piece.now 0 0 ∷ [], one_byte c.args.piece.now c.in-len1-up.len_at_least, some_byte (get_or c.args.piece.now 0 0), c.take_byte.ensures)
