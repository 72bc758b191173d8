use Rattle.std.proofs.Common.{◌≡◌, List, length}
use Rattle.dr_dataset.specs.Elements.{Element}
use Rattle.dr_dataset.specs.DataSet.{Opens}
use Rattle.dr_dataset.specs.Wholes.{AreFound}
use Rattle.dr_dataset.proofs.scan.found_in.Given as goal

abbrev pub invariant-tokens : goal.invariant-tokens
invariant-tokens l = (l.scanner.syntax ≡ l.fn.syntax) × ((es : List Element) × Opens l.fn.syntax l.scanner.stack l.text es l.rest
    × AreFound (record { class = l.found.0; instance = l.found.1.0; modality = l.found.1.1.0; station = l.found.1.1.1.0 }) es)

abbrev pub decreases-tokens : goal.decreases-tokens
decreases-tokens l = length l.rest
