-- A text of a data set has one answer.
use Rattle.std.specs.Prelude.{◌≡◌, ◌≢◌, List, ℕ, Result, Err}
use Rattle.dr_base.specs.declared.syntax.Syntax.{Syntax}
use Rattle.dr_dataset.specs.declared.fault.DataFault.{DataFault}
use Rattle.dr_dataset.specs.declared.fault.DataFault.TheVariants.{Memory}
use Rattle.dr_dataset.specs.declared.values.Attributes.{Attributes}
use Rattle.dr_dataset.specs.declared.values.Part10.{Part10}
use Rattle.dr_dataset.specs.declared.fault.FileFault.{FileFault}
use Rattle.dr_dataset.specs.DataSet.{Scans}
use Rattle.dr_dataset.specs.Files.{ReadsFile}

-- a text has one answer as a data set, want of memory aside: its four values, or its first fault
abbrev pub OneAnswer : Type 0
OneAnswer =
    (s : Syntax) (text : List ℕ) (r q : Result Attributes DataFault)
    → r ≢ Err Memory → q ≢ Err Memory → Scans s text r → Scans s text q → r ≡ q

-- each text has an answer as a data set that isn't want of memory
abbrev pub SomeAnswer : Type 0
SomeAnswer =
    (s : Syntax) (text : List ℕ)
    → (r : Result Attributes DataFault) × (r ≢ Err Memory) × Scans s text r

-- a text has one answer as a Part 10 file
abbrev pub OneFileAnswer : Type 0
OneFileAnswer =
    (text : List ℕ) (r q : Result Part10 FileFault) → ReadsFile text r → ReadsFile text q → r ≡ q
