use Rattle.std.proofs.Common.{◌≡◌, ◌≤◌, List, [], length}
use Rattle.std.specs.Option.{option_copied}
use Rattle.dr_base.specs.Runs.{Run}
use Rattle.dr_base.specs.declared.syntax.Syntax.TheVariants.{Explicit}
use Rattle.dr_dataset.specs.Elements.{Element}
use Rattle.dr_dataset.specs.DataSet.{first_value}
use Rattle.dr_dataset.specs.Files.{StartsMeta}
use Rattle.dr_dataset.proofs.file.meta_at.Given as goal

abbrev pub invariant-elements : goal.invariant-elements
invariant-elements l = (l.scanner.syntax ≡ Explicit) × (l.scanner.stack ≡ [])
    × ((es : List Element) × Run StartsMeta es l.text l.rest × (option_copied l.name ≡ first_value 0x0002 0x0010 es)) × (length l.rest ≤ length l.text)

abbrev pub decreases-elements : goal.decreases-elements
decreases-elements l = length l.rest
