-- Tables of format 3 with a flaw say no plan.
use Rattle.std.proofs.Common.{[], codes}
use Rattle.toml.specs.Data.{Members, get_member}
use Rattle.dr_plan_expand.specs.Tables.{IsShortRow, IsShortRule, IsShortNode, IsShortFlow, IsShortPlan}
use Rattle.dr_plan_expand.specs.declared.short.ShortNode.{ShortNode}
use Rattle.dr_plan_expand.specs.declared.short.ShortPlan.{ShortPlan}
use Rattle.dr_plan_places.specs.ShortFlaws.{IsInShort, IsInShortNode}
use Rattle.dr_plan_places.specs.declared.flaw.Flaw.{Flaw}
use Rattle.dr_plan_places.specs.declared.field_place.FieldPlace.{FieldPlace}
use Rattle.dr_plan_places.specs.declared.field_place.FieldPlace.TheVariants.{Root, OfNode, OfFlow}
use Rattle.dr_plan_places.specs.declared.field_place.NodePart.{NodePart}
use Rattle.dr_plan_places.specs.declared.field_place.NodePart.TheVariants.{Own, AcceptRow, Rule}
use Rattle.dr_plan_places.proofs.Refuted.{refuted, row_is}

refuted_node : (node : Members) (part : NodePart) (flaw : Flaw) (x : ShortNode) → IsInShortNode node part flaw → IsShortNode node x → ⊥
refuted_node node Own flaw x h is = refuted IsShortNode node flaw x h is
refuted_node node (AcceptRow index) flaw x (row, at, h) is =
    let found = row_is IsShortRow (get_member (codes "accept") node) [] x.accepts index row is.accept at in
    refuted IsShortRow row flaw found.0 h found.1
refuted_node node (Rule index) flaw x (row, at, h) is =
    let found = row_is IsShortRule (get_member (codes "rule") node) [] x.rules index row is.rule at in
    refuted IsShortRule row flaw found.0 h found.1

pub refuted_short : (root : Members) (place : FieldPlace) (flaw : Flaw) (short : ShortPlan) → IsInShort root place flaw → IsShortPlan root short → ⊥
refuted_short root Root flaw short h is = refuted IsShortPlan root flaw short h is
refuted_short root (OfNode index part) flaw short (node, at, h) is =
    let found = row_is IsShortNode (get_member (codes "node") root) [] short.nodes index node is.node at in
    refuted_node node part flaw found.0 h found.1
refuted_short root (OfFlow index) flaw short (flow, at, h) is =
    let found = row_is IsShortFlow (get_member (codes "flow") root) [] short.flows index flow is.flow at in
    refuted IsShortFlow flow flaw found.0 h found.1
