-- What the flows of a plan bring.
use Rattle.std.specs.Prelude.{◌≡◌, List, Contains}
use Rattle.dr_base.specs.Texts.{Text}
use Rattle.dr_base.specs.declared.syntax.Syntax.{Syntax}
use Rattle.dr_plan_model.specs.declared.plan.Flow.{Flow}

-- some flow is at the node
abbrev pub EntersAt : List Flow → Text → Type 0
EntersAt flows name = (flow : Flow) × Contains flows flow × (flow.at ≡ name)

-- some flow brings the class
abbrev pub BringsClass : List Flow → Text → Type 0
BringsClass flows class = (flow : Flow) × Contains flows flow × Contains flow.classes class

-- some flow brings the class in that transfer syntax
abbrev pub BringsIn : List Flow → Text → Syntax → Type 0
BringsIn flows class syntax =
    (flow : Flow) × Contains flows flow
    × (Contains flow.classes class × Contains flow.syntaxes syntax)

-- one of those is the same flow
abbrev pub IsAgain : List Flow → Flow → Type 0
IsAgain flows flow = (other : Flow) × Contains flows other × (other ≡ flow)
