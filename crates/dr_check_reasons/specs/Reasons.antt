-- Why a key goes over a hop, and what a node would have to say of it.
use Rattle.std.specs.Prelude.{◌≡◌, ◌≢◌, ℕ, All, Contains, List}
use Rattle.dr_base.specs.Texts.{Text}
use Rattle.dr_base.specs.declared.syntax.Syntax.{Syntax}
use Rattle.dr_route.specs.Routes.{local, Holds, TakesClass}
use Rattle.dr_route.specs.declared.accept.AcceptRow.{AcceptRow}
use Rattle.dr_route.specs.declared.key.Key.{Key}
use Rattle.dr_route.specs.declared.rule.Rule.{Rule}
use Rattle.dr_plan_model.specs.Networks.{Network}
use Rattle.dr_plan_model.specs.Plans.{IsTheNode}
use Rattle.dr_plan_model.specs.Walks.{FlowBrings}
use Rattle.dr_plan_model.specs.declared.plan.Flow.{Flow}
use Rattle.dr_plan_model.specs.declared.plan.Node.{Node}
use Rattle.dr_plan_places.specs.Firsts.{IsFirstAt}
use Rattle.dr_check_reasons.specs.declared.sender.Sender.{Sender}
use Rattle.dr_check_reasons.specs.declared.sender.Sender.TheVariants as by
use Rattle.dr_check_reasons.specs.declared.remedy.Remedy.{Remedy}
use Rattle.dr_check_reasons.specs.declared.remedy.Remedy.TheVariants.{AddSyntax, AddCaller, AddRow}

-- the flow brings the key in at the site, and to that node
abbrev pub BringsTo : Text → Key → Text → Flow → Type 0
BringsTo site key to flow = (flow.at ≡ site) × (flow.to ≡ to) × FlowBrings flow key

-- the rule sends the key, which the node has from the caller, to that node
abbrev pub SendsTo : Text → Key → Text → Rule → Type 0
SendsTo caller key to rule = Holds rule caller key × Contains rule.to to

-- by this flow, or by this rule of the node, the node of the name sends the key, which it has from
-- the caller, to that node; no earlier one does
abbrev pub IsSender : Network → Text → Text → Key → Text → Sender → Type 0
IsSender plan name caller key to (by.Flow index) =
    (caller ≡ local)
    × IsFirstAt
    (λ flow. BringsTo name key to flow → ⊥)
    (λ flow _. BringsTo name key to flow) plan.flows index (tt {0})
IsSender plan name caller key to (by.Rule index) =
    (caller ≢ local)
    × ((node : Node) × IsTheNode plan name node
    × IsFirstAt
    (λ rule. SendsTo caller key to rule → ⊥)
    (λ rule _. SendsTo caller key to rule) node.rules index (tt {0}))

-- the rule that holds for what the caller brings, and no earlier one does
abbrev pub IsHolding : List Rule → Text → Key → ℕ → Type 0
IsHolding rules caller key index = IsFirstAt
    (λ rule. Holds rule caller key → ⊥)
    (λ rule _. Holds rule caller key) rules index (tt {0})

-- the row takes the class in that transfer syntax, from whomever
abbrev pub TakesPair : Text → Syntax → AcceptRow → Type 0
TakesPair class syntax row = (row.class ≡ class) × Contains row.syntaxes syntax

-- What makes a node with these accept rows accept the class in that transfer syntax from the
-- caller: the syntax is added to the first row that takes the class from the caller; else the
-- caller to the first row that takes the class in that syntax; else there is neither, and a row is
-- added.
abbrev pub IsRemedy : List AcceptRow → Text → Text → Syntax → Remedy → Type 0
IsRemedy rows caller class syntax (AddSyntax index) = IsFirstAt
    (λ row. TakesClass caller class row → ⊥)
    (λ row _. TakesClass caller class row) rows index (tt {0})
IsRemedy rows caller class syntax (AddCaller index) =
    All (λ row. TakesClass caller class row → ⊥) rows
    × IsFirstAt
    (λ row. TakesPair class syntax row → ⊥)
    (λ row _. TakesPair class syntax row) rows index (tt {0})
IsRemedy rows caller class syntax AddRow =
    All (λ row. TakesClass caller class row → ⊥) rows
    × All (λ row. TakesPair class syntax row → ⊥) rows
