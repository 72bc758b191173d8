-- What flows list, as sets.
use Rattle.std.specs.Prelude.{◌↔◌, List, Contains}
use Rattle.std.specs.List.{AllZip}
use Rattle.dr_base.specs.Texts.{Text, IsInByteOrder}
use Rattle.dr_plan_model.specs.declared.plan.Flow.{Flow}
use Rattle.dr_plan_model.specs.declared.listed.Listed.{Listed}
use Rattle.dr_plan_model.specs.Naming.{listed_literals}

-- just the single modalities and stations that the flow lists, each in byte order and once
pub record IsListedBy (flow : Flow) (sets : Listed) : Type 0 where
  pub modalities : (t : Text)
      → Contains sets.modalities t ↔ Contains (listed_literals flow.modalities) t
  pub stations : (t : Text) → Contains sets.stations t ↔ Contains (listed_literals flow.stations) t
  pub modalities_ordered : IsInByteOrder sets.modalities
  pub stations_ordered : IsInByteOrder sets.stations

-- what each of the flows lists, in their order
abbrev pub AreListedBy : List Flow → List Listed → Type 0
AreListedBy flows all = AllZip IsListedBy flows all
