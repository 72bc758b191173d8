use Rattle.std.proofs.Common.{◌≡◌, ◌++◌, length, flat_map}
use Rattle.dr_base.specs.Texts.{Text}
use Rattle.dr_base_quoted.specs.Quoting.{quoted_byte}
use Rattle.dr_ledger_read.specs.Pieces.{AreBytes}
use Rattle.dr_ledger_read.proofs.quoted.cut_quoted.Given as goal

-- what was read so far, and what is left
abbrev pub invariant-loop-later : goal.invariant-loop-later
invariant-loop-later l = (text : Text) × AreBytes text × (l.place ≡ flat_map quoted_byte text ++ l.rest)

abbrev pub decreases-loop-later : goal.decreases-loop-later
decreases-loop-later l = length l.rest
