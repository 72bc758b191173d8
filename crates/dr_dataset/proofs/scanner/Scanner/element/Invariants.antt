use Rattle.std.proofs.Common.{◌≡◌, ◌≢◌, ◌≤◌, [], length}
use Rattle.dr_dataset.specs.DataSet.{Opens}
use Rattle.dr_dataset.proofs.scanner.Scanner.element.Given as goal

abbrev pub invariant-tokens : goal.invariant-tokens
invariant-tokens l = (l.self.syntax ≡ l.fn.self.syntax) × Opens l.fn.self.syntax l.self.stack l.text [] l.rest × (l.rest ≡ [] → l.self.stack ≢ []) × (length l.rest ≤ length l.text)

abbrev pub decreases-tokens : goal.decreases-tokens
decreases-tokens l = length l.rest
