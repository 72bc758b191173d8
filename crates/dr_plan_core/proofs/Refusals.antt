-- Texts that are refused.
use Rattle.std.proofs.Common.{◌≡◌, ◌≢◌, ◌∙◌, refl, subst, List, [], ◌∷◌, map, Err, codes}
use Rattle.toml.specs.Data.{Members, get_member}
use Rattle.dr_base.specs.Texts.{Text}
use Rattle.dr_plan_model.specs.declared.plan.Flow.{Flow}
use Rattle.dr_plan_text.specs.declared.words.FlowText.{FlowText}
use Rattle.dr_plan_text.specs.declared.words.PlanText.{PlanText}
use Rattle.dr_plan_text.specs.Fields.{SaysTable, IsListOf, GivenOr}
use Rattle.dr_plan_text.specs.Tables.{IsNodeTable, IsFlowTable, Writes}
use Rattle.dr_plan_text.proofs.Refusals.{empty_tree}
use Rattle.dr_plan_core.specs.declared.fault.PlanFault.{PlanFault}
use Rattle.dr_plan_core.specs.declared.fault.PlanFault.TheVariants as fault
use Rattle.dr_plan_core.specs.Reading.{Passes, ReadsCore}
use Rattle.dr_plan_core.specs.Spelling.{written_flow}

-- the empty text writes no nodes and no flows
pub no_nodes : (text : Text) (plan : PlanText) → Writes text plan → plan.nodes ≢ [] → text ≢ []
no_nodes text plan w some e =
    let P : Members → Type 0 = λ root. GivenOr [] (IsListOf (SaysTable IsNodeTable)) (get_member (codes "node") root) plan.nodes in
    some (subst P (empty_tree text w.0 w.1 e) w.2.node)

pub no_flows : (text : Text) (plan : PlanText) → Writes text plan → plan.flows ≢ [] → text ≢ []
no_flows text plan w some e =
    let P : Members → Type 0 = λ root. GivenOr [] (IsListOf (SaysTable IsFlowTable)) (get_member (codes "flow") root) plan.flows in
    some (subst P (empty_tree text w.0 w.1 e) w.2.flow)

-- flows that are typed were written
pub some_written : (typed : List Flow) (flows : List FlowText) → map written_flow typed ≡ flows → typed ≢ [] → flows ≢ []
some_written [] flows is some none = some refl
some_written (flow ∷ typed) flows is some none = let e : written_flow flow ∷ map written_flow typed ≡ [] = is ∙ none in cc e

-- a fault of the plan is the text's
pub refused : (text : Text) (plan : PlanText) (f : PlanFault) → Writes text plan → Passes plan (Err f) → ReadsCore text (Err f)
refused text plan fault.NotToml w passes = absurd passes
refused text plan fault.Field w passes = absurd passes
refused text plan fault.Syntax w passes = (plan, w, passes)
refused text plan fault.Name w passes = (plan, w, passes)
refused text plan fault.Limit w passes = (plan, w, passes)
refused text plan fault.UnknownNode w passes = (plan, w, passes)
refused text plan fault.UnknownName w passes = (plan, w, passes)
refused text plan fault.SelfRoute w passes = (plan, w, passes)
refused text plan fault.Memory w passes = no_nodes text plan w passes
