-- What is read of the front of a data set stays, whatever follows.
use Rattle.std.specs.Prelude.{◌≢◌, List, ℕ, ◌++◌}
use Rattle.dr_base.specs.declared.syntax.Syntax.{Syntax}
use Rattle.dr_dataset.specs.declared.fault.DataFault.{DataFault}
use Rattle.dr_dataset.specs.declared.fault.DataFault.TheVariants.{Truncated, Memory}
use Rattle.dr_dataset.specs.declared.frame.OpenSequence.{OpenSequence}
use Rattle.dr_dataset.specs.Elements.{Element}
use Rattle.dr_dataset.specs.DataSet.{Opens, FirstFault}

-- a front of a text that is in order stays so, with the same elements, whatever bytes follow
abbrev pub FrontsStay : Type 0
FrontsStay =
    (s : Syntax) (fs : List OpenSequence) (text : List ℕ) (es : List Element) (rest more : List ℕ)
    → Opens s fs text es rest
    → Opens s fs (text ++ more) es (rest ++ more)

-- a first fault stays the first whatever bytes follow, but for a text that was too short, and want
-- of memory
abbrev pub FaultsStay : Type 0
FaultsStay =
    (s : Syntax) (text more : List ℕ) (f : DataFault)
    → f ≢ Truncated → f ≢ Memory → FirstFault s text f
    → FirstFault s (text ++ more) f
