-- What a plan's text has to keep beside its form, and what is read of a text as it stands.
use Rattle.std.specs.Prelude.{◌≡◌, ◌≢◌, ℕ, pos, ◌+◌, ◌≤◌, List, [], All, AllPairs}
use Rattle.std.specs.Prelude.{Contains, length, map, sum_by, Result, Ok, Err}
use Rattle.sha2.specs.Sha256.{sha256}
use Rattle.dr_base.specs.Texts.{Text}
use Rattle.dr_base.specs.Syntaxes.{IsSyntax}
use Rattle.dr_route.specs.declared.accept.Callers.{Callers}
use Rattle.dr_route.specs.declared.accept.Callers.TheVariants as callers
use Rattle.dr_plan_model.specs.Formed.{IsName, IsMaxPdu, HasForm}
use Rattle.dr_plan_model.specs.Networks.{Network}
use Rattle.dr_plan_text.specs.declared.words.NodeText.{NodeText}
use Rattle.dr_plan_text.specs.declared.words.PlanText.{PlanText}
use Rattle.dr_plan_text.specs.Tables.{IsToml, Writes}
use Rattle.dr_plan_core.specs.Spelling.{written_plan}
use Rattle.dr_plan_core.specs.declared.fault.PlanFault.{PlanFault}
use Rattle.dr_plan_core.specs.declared.fault.PlanFault.TheVariants as fault

-- each transfer syntax of the plan's accept rows and flows is one of the two that are routed
pub record KnowsSyntaxes (plan : PlanText) : Type 0 where
  pub nodes : All (λ node. All (λ row. All IsSyntax row.syntaxes) node.accepts) plan.nodes
  pub flows : All (λ flow. All IsSyntax flow.syntaxes) plan.flows

-- each name of an accept row's callers has the property
abbrev pub EachCaller : (Text → Type 0) → Callers → Type 0
EachCaller P callers.Any = Unit {0}
EachCaller P (callers.Listed names) = All P names

-- each name that a node uses has the property: its own, and those of its accept rows and rules
pub record EachNameOfNode (P : Text → Type 0) (node : NodeText) : Type 0 where
  pub name : P node.name
  pub accepts : All (λ row. EachCaller P row.from) node.accepts
  pub rules : All (λ rule. HasForm P rule.from × All P rule.to) node.rules

-- each name that the plan uses has the property: those of its nodes, and those of its flows
pub record EachName (P : Text → Type 0) (plan : PlanText) : Type 0 where
  pub nodes : All (EachNameOfNode P) plan.nodes
  pub flows : All (λ flow. P flow.at × P flow.to) plan.flows

-- the names of the plan's nodes, in order
abbrev pub node_names : PlanText → List Text
node_names plan = map (λ (node : NodeText). node.name) plan.nodes

-- each name is well-formed, and no two nodes have the same
pub record HasGoodNames (plan : PlanText) : Type 0 where
  pub formed : EachName IsName plan
  pub apart : AllPairs (λ a b. a ≢ b) (node_names plan)

-- the node's `max_pdu` is in its range: 0, or 1,024 to 1,048,576
pub record HasMaxPdu (node : NodeText) : Type 0 where
  pub bytes : ℕ
  pub is : node.max_pdu ≡ pos bytes
  pub in_range : IsMaxPdu bytes

-- at most 64 nodes, at most 1,024 rules and flows together, and each `max_pdu` in its range
pub record IsWithinLimits (plan : PlanText) : Type 0 where
  pub few_nodes : length plan.nodes ≤ 64
  pub few_rules : sum_by (λ node. length node.rules) plan.nodes + length plan.flows ≤ 1024
  pub max_pdu : All HasMaxPdu plan.nodes

-- each name that the plan uses is a node's
abbrev pub KnowsNames : PlanText → Type 0
KnowsNames plan = EachName (Contains (node_names plan)) plan

-- the node's transfer syntaxes and its `max_pdu` can be given their types
pub record IsTypable (node : NodeText) : Type 0 where
  pub accepts : All (λ row. All IsSyntax row.syntaxes) node.accepts
  pub max_pdu : HasMaxPdu node

-- no rule and no flow goes to its own node
pub record SendsElsewhere (plan : PlanText) : Type 0 where
  pub rules : All (λ node. All (λ rule. All (λ to. to ≢ node.name) rule.to) node.rules) plan.nodes
  pub flows : All (λ flow. flow.at ≢ flow.to) plan.flows

-- what is tested of a plan that a text writes: it passes, or has this fault and none of those
-- tested earlier; without nodes no test needs memory
abbrev pub Passes : PlanText → Result (Unit {0}) PlanFault → Type 0
Passes plan (Ok done) =
    KnowsSyntaxes plan × HasGoodNames plan × IsWithinLimits plan × KnowsNames plan
    × SendsElsewhere plan
Passes plan (Err fault.Syntax) = KnowsSyntaxes plan → ⊥
Passes plan (Err fault.Name) = KnowsSyntaxes plan × (HasGoodNames plan → ⊥)
Passes plan (Err fault.Limit) = KnowsSyntaxes plan × HasGoodNames plan × (IsWithinLimits plan → ⊥)
Passes plan (Err fault.UnknownNode) =
    KnowsSyntaxes plan × HasGoodNames plan × IsWithinLimits plan × (KnowsNames plan → ⊥)
Passes plan (Err fault.SelfRoute) =
    KnowsSyntaxes plan × HasGoodNames plan × IsWithinLimits plan × KnowsNames plan
    × (SendsElsewhere plan → ⊥)
Passes plan (Err fault.Memory) = plan.nodes ≢ []
Passes plan (Err other) = ⊥

-- what is read of a text as it stands: the plan that it writes, with the text's SHA-256, or the
-- first fault; the empty text needs no memory
abbrev pub ReadsCore : Text → Result Network PlanFault → Type 0
ReadsCore text (Ok plan) =
    Writes text (written_plan plan)
    × Passes (written_plan plan) (Ok tt)
    × (plan.digest ≡ sha256 text)
ReadsCore text (Err fault.NotToml) = IsToml text → ⊥
ReadsCore text (Err fault.Field) = IsToml text × ((plan : PlanText) → Writes text plan → ⊥)
ReadsCore text (Err fault.Memory) = text ≢ []
ReadsCore text (Err other) = (plan : PlanText) × Writes text plan × Passes plan (Err other)
