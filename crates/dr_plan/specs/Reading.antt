-- What is read of a text, where another text may be read for it.
use Rattle.std.specs.Prelude.{◌≡◌, ◌≢◌, ◌⊎◌, [], Result, Ok, Err}
use Rattle.toml.specs.Data.{Members}
use Rattle.dr_base.specs.Texts.{Text}
use Rattle.dr_plan_model.specs.Networks.{Network}
use Rattle.dr_plan_text.specs.Tables.{IsTree}
use Rattle.dr_plan_core.specs.Reading.{ReadsCore}
use Rattle.dr_plan_core.specs.declared.fault.PlanFault.{PlanFault}
use Rattle.dr_plan_expand.specs.Tables.{IsThird}
use Rattle.dr_plan_expand.specs.Expanding.{Expands, Fails}
use Rattle.dr_plan_expand.specs.declared.fault.ExpandFault.{ExpandFault}
use Rattle.dr_plan_expand.specs.declared.fault.ExpandFault.TheVariants as expand
use Rattle.dr_plan.specs.Faults.{fault_of}

-- the text is of format 3
abbrev pub IsOfThird : Text → Type 0
IsOfThird text = (root : Members) × IsTree text root × IsThird root

-- the text that is read for a text: itself, and in format 3 what it expands to
abbrev pub IsReadFor : Text → Text → Type 0
IsReadFor text core = ((IsOfThird text → ⊥) × (core ≡ text)) ⊎ Expands text core

-- no text is read for a text of format 3, for this reason; the empty text needs no memory
abbrev pub HasNoCore : Text → ExpandFault → Type 0
HasNoCore text expand.Memory = text ≢ []
HasNoCore text other = (root : Members) × IsTree text root × IsThird root × Fails root other

-- the text has this plan: that of the text that is read for it, as that stands
pub record HasPlan (text : Text) (plan : Network) : Type 0 where
  pub core : Text
  pub is_for : IsReadFor text core
  pub reads : ReadsCore core (Ok plan)

-- the text has this fault: that of the text that is read for it, or that there is none
pub record HasFault (text : Text) (f : PlanFault) : Type 0 where
  pub why :
      ((core : Text) × IsReadFor text core × ReadsCore core (Err f))
      ⊎ ((none : ExpandFault) × HasNoCore text none × (f ≡ fault_of none))

-- what is read of a text
abbrev pub Reads : Text → Result Network PlanFault → Type 0
Reads text (Ok plan) = HasPlan text plan
Reads text (Err f) = HasFault text f
