-- Faults of an expansion, as faults of the plan.
use Rattle.dr_plan_expand.specs.declared.fault.ExpandFault.{ExpandFault}
use Rattle.dr_plan_expand.specs.declared.fault.ExpandFault.TheVariants as expand
use Rattle.dr_plan_core.specs.declared.fault.PlanFault.{PlanFault}
use Rattle.dr_plan_core.specs.declared.fault.PlanFault.TheVariants.{Field, Limit}
use Rattle.dr_plan_core.specs.declared.fault.PlanFault.TheVariants.{UnknownName, Memory}

-- the fault of a plan for why its text isn't expanded: the same name, or a name that nobody defines
abbrev pub fault_of : ExpandFault → PlanFault
fault_of expand.Field = Field
fault_of expand.Limit = Limit
fault_of expand.Unknown = UnknownName
fault_of expand.Memory = Memory
