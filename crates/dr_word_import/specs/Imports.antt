-- What the word `import` prints.
use Rattle.std.specs.Prelude.{◌≡◌, ◌⊎◌, ℕ, List, [], Option, Ok}
use Rattle.std.specs.Io.KnownBytes.{Appends}
use Rattle.dr_base.specs.Texts.{Text}
use Rattle.dr_plan.specs.Reading.{Reads}
use Rattle.dr_plan_model.specs.Networks.{Network}
use Rattle.dr_word_import.specs.Tables.{plan_of}
use Rattle.dr_word_import.specs.declared.device.Device.{Device}

-- the text is that of some devices with a gate, and reads as a plan
abbrev pub IsPlanOfDevices : Text → Type 0
IsPlanOfDevices text =
    (all : List Device) × (gate : Text) × (plan : Network)
    × (text ≡ plan_of all gate)
    × Reads text (Ok plan)

-- the text is printed after what the output held, where it reads as a plan; else nothing is
abbrev pub WritesPlan : Text → Option (List ℕ) → Option (List ℕ) → Type 0
WritesPlan text old new =
    (Appends old new text × ((plan : Network) × Reads text (Ok plan))) ⊎ Appends old new []

-- a plan is printed after what the output held, or nothing is
abbrev pub PrintsPlan : Option (List ℕ) → Option (List ℕ) → Type 0
PrintsPlan old new =
    Appends old new [] ⊎ ((text : Text) × Appends old new text × IsPlanOfDevices text)
