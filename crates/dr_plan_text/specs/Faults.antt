-- Faults of a value, as faults of the text.
use Rattle.dr_plan_text.specs.declared.fault.ReadFault.{ReadFault}
use Rattle.dr_plan_text.specs.declared.fault.ReadFault.TheVariants as read
use Rattle.dr_plan_text.specs.declared.fault.TextFault.{TextFault}
use Rattle.dr_plan_text.specs.declared.fault.TextFault.TheVariants.{Field, Memory}

-- the fault of a text for a fault of one of its values: the same name
abbrev pub text_fault : ReadFault → TextFault
text_fault read.Field = Field
text_fault read.Memory = Memory
