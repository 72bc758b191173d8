-- Where keys enter, and of which classes they are.
use Rattle.std.specs.Prelude.{◌≡◌, List, Contains}
use Rattle.std.specs.BTreeSet.{BTreeSet}
use Rattle.dr_base.specs.Texts.{Text}
use Rattle.dr_route.specs.Names.{HasName}
use Rattle.dr_plan_model.specs.Networks.{Network}
use Rattle.dr_plan_model.specs.declared.plan.Flow.{Flow}

-- the new set has what the old one had
abbrev pub Grows : BTreeSet Text → BTreeSet Text → Type 0
Grows old new = (name : Text) → HasName old name → HasName new name

-- the site of each flow of the plan is in the list
abbrev pub HasSites : Network → List Text → Type 0
HasSites plan sites = (flow : Flow) → Contains plan.flows flow → Contains sites flow.at

-- the classes of each flow of the plan that is at the site are in the list
abbrev pub HasClasses : Network → Text → List Text → Type 0
HasClasses plan site classes =
    (flow : Flow) → Contains plan.flows flow → flow.at ≡ site → (t : Text)
    → Contains flow.classes t
    → Contains classes t
