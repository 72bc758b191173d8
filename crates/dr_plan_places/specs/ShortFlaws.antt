-- Where the tables of a text of format 3 show that they say no plan.
use Rattle.std.specs.Prelude.{codes}
use Rattle.toml.specs.Data.{Members}
use Rattle.dr_plan_expand.specs.Tables.{IsShortRow, IsShortRule, IsShortNode, IsShortFlow}
use Rattle.dr_plan_expand.specs.Tables.{IsShortPlan}
use Rattle.dr_plan_places.specs.FieldFlaws.{HasFlaw, InRow}
use Rattle.dr_plan_places.specs.declared.flaw.Flaw.{Flaw}
use Rattle.dr_plan_places.specs.declared.field_place.FieldPlace.{FieldPlace}
use Rattle.dr_plan_places.specs.declared.field_place.FieldPlace.TheVariants.{Root, OfNode, OfFlow}
use Rattle.dr_plan_places.specs.declared.field_place.NodePart.{NodePart}
use Rattle.dr_plan_places.specs.declared.field_place.NodePart.TheVariants.{Own, AcceptRow, Rule}

-- the flaw stands in this part of the node's table
abbrev pub IsInShortNode : Members → NodePart → Flaw → Type 0
IsInShortNode node Own flaw = HasFlaw IsShortNode node flaw
IsInShortNode node (AcceptRow index) flaw =
    InRow (λ row. HasFlaw IsShortRow row flaw) (codes "accept") node index
IsInShortNode node (Rule index) flaw =
    InRow (λ row. HasFlaw IsShortRule row flaw) (codes "rule") node index

-- the flaw stands at this place of the text's tables
abbrev pub IsInShort : Members → FieldPlace → Flaw → Type 0
IsInShort root Root flaw = HasFlaw IsShortPlan root flaw
IsInShort root (OfNode index part) flaw =
    InRow (λ node. IsInShortNode node part flaw) (codes "node") root index
IsInShort root (OfFlow index) flaw =
    InRow (λ flow. HasFlaw IsShortFlow flow flaw) (codes "flow") root index
