-- Faults of a text, as faults of its plan.
use Rattle.dr_plan_text.specs.declared.fault.TextFault.{TextFault}
use Rattle.dr_plan_text.specs.declared.fault.TextFault.TheVariants as text
use Rattle.dr_plan_core.specs.declared.fault.PlanFault.{PlanFault}
use Rattle.dr_plan_core.specs.declared.fault.PlanFault.TheVariants.{NotToml, Field, Memory}

-- the fault of a plan for a fault of its text: the same name
abbrev pub plan_fault : TextFault → PlanFault
plan_fault text.NotToml = NotToml
plan_fault text.Field = Field
plan_fault text.Memory = Memory
