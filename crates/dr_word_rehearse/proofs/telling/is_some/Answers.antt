use Rattle.std.proofs.Common.{◌≡◌, ◌∙◌, ◌∷◌, [], Bool, List, ap, length}
use Rattle.std.specs.Prelude.{not, ◌==◌}
use Rattle.std.proofs.Math.Dec.{eqb-suc-zero}
use Rattle.dr_ledger.specs.Pairs.{Pair}
use Rattle.dr_word_rehearse.specs.Endings.{is_some_row}
use Rattle.dr_word_rehearse.proofs.telling.is_some.Goals as goal

some_row : (rows : List Pair) (none : Bool) → none ≡ (length rows == 0) → not none ≡ is_some_row rows
some_row [] none is = ap not is
some_row (row ∷ rows) none is = ap not (is ∙ eqb-suc-zero (length rows))

pub returns : goal.returns
returns c = some_row c.args.rows.now c.is_empty.result c.is_empty.ensures
