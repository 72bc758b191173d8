-- Faults of a value and of a word, as faults of the text.
use Rattle.dr_plan_text.specs.declared.fault.ReadFault.{ReadFault}
use Rattle.dr_plan_text.specs.declared.fault.ReadFault.TheVariants as read
use Rattle.dr_plan_expand.specs.declared.fault.WordFault.{WordFault}
use Rattle.dr_plan_expand.specs.declared.fault.WordFault.TheVariants as word
use Rattle.dr_plan_expand.specs.declared.fault.ExpandFault.{ExpandFault}
use Rattle.dr_plan_expand.specs.declared.fault.ExpandFault.TheVariants.{Field, Unknown, Memory}

-- the fault of a text for a fault of one of its values: the same name
abbrev pub of_field : ReadFault → ExpandFault
of_field read.Field = Field
of_field read.Memory = Memory

-- the fault of a text for a fault of one of its words: the same name
abbrev pub of_word : WordFault → ExpandFault
of_word word.Unknown = Unknown
of_word word.Memory = Memory
