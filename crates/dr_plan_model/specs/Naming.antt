-- The values that rules and flows name for modality and for station.
use Rattle.std.specs.Prelude.{List, [], ◌∷◌, ◌++◌, flat_map}
use Rattle.dr_base.specs.Texts.{Text}
use Rattle.dr_route.specs.declared.rule.FieldPattern.{FieldPattern}
use Rattle.dr_route.specs.declared.rule.FieldPattern.TheVariants.{Any, Literal, Prefix}
use Rattle.dr_route.specs.declared.rule.Rule.{Rule}
use Rattle.dr_plan_model.specs.declared.plan.Flow.{Flow}
use Rattle.dr_plan_model.specs.declared.plan.Values.{Values}
use Rattle.dr_plan_model.specs.declared.plan.Values.TheVariants as values
use Rattle.dr_plan_model.specs.declared.literals.Attribute.{Attribute}
use Rattle.dr_plan_model.specs.declared.literals.Attribute.TheVariants.{Modality, ModalityPrefix}
use Rattle.dr_plan_model.specs.declared.literals.Attribute.TheVariants.{Station, StationPrefix}

-- the literal of a pattern, if it has one
abbrev pub literal_of : FieldPattern → List Text
literal_of Any = []
literal_of (Literal literal) = literal ∷ []
literal_of (Prefix prefix) = []

-- the prefix of a pattern, if it has one
abbrev pub prefix_of : FieldPattern → List Text
prefix_of Any = []
prefix_of (Literal literal) = []
prefix_of (Prefix prefix) = prefix ∷ []

-- the single values that a flow lists; none where any will do
abbrev pub listed_literals : Values → List Text
listed_literals values.Any = []
listed_literals (values.Listed own) = own.literals

-- the prefixes that a flow lists
abbrev pub listed_prefixes : Values → List Text
listed_prefixes values.Any = []
listed_prefixes (values.Listed own) = own.prefixes

-- the values that the patterns of a rule name: its modality, its station, or the prefix of one
abbrev pub named_by_pattern : Attribute → Rule → List Text
named_by_pattern Modality rule = literal_of rule.modality
named_by_pattern ModalityPrefix rule = prefix_of rule.modality
named_by_pattern Station rule = literal_of rule.station
named_by_pattern StationPrefix rule = prefix_of rule.station

-- the values that the exceptions of a rule name, which are stations
abbrev pub named_by_except : Attribute → Rule → List Text
named_by_except Modality rule = []
named_by_except ModalityPrefix rule = []
named_by_except Station rule = rule.except
named_by_except StationPrefix rule = []

-- the values that a rule names
abbrev pub named_by_rule : Attribute → Rule → List Text
named_by_rule attribute rule = named_by_pattern attribute rule ++ named_by_except attribute rule

-- the values that a flow names: modalities, stations, or prefixes of either
abbrev pub named_by_flow : Attribute → Flow → List Text
named_by_flow Modality flow = listed_literals flow.modalities
named_by_flow ModalityPrefix flow = listed_prefixes flow.modalities
named_by_flow Station flow = listed_literals flow.stations
named_by_flow StationPrefix flow = listed_prefixes flow.stations

-- the values that these rules name
abbrev pub named_by_rules : Attribute → List Rule → List Text
named_by_rules attribute rules = flat_map (λ (rule : Rule). named_by_rule attribute rule) rules

-- the values that these flows name
abbrev pub named_by_flows : Attribute → List Flow → List Text
named_by_flows attribute flows = flat_map (λ (flow : Flow). named_by_flow attribute flow) flows
