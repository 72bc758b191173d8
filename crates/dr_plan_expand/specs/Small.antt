-- A small plan of format 3: how much it is, what it means, and how that is spelled.
use Rattle.std.specs.Prelude.{◌≡◌, pos, true, List, [], ◌∷◌, ◌++◌, Some, codes}
use Rattle.dr_base.specs.Texts.{Text}
use Rattle.dr_route.specs.declared.accept.Callers.TheVariants as callers
use Rattle.dr_route.specs.declared.rule.Pattern.TheVariants.{Literal}
use Rattle.dr_route.specs.declared.rule.FieldPattern.TheVariants as field
use Rattle.dr_route.specs.declared.rule.Rule.{Rule}
use Rattle.dr_plan_model.specs.declared.listens.Listens.TheVariants.{At}
use Rattle.dr_plan_model.specs.declared.plan.Format.TheVariants.{Three}
use Rattle.dr_plan_model.specs.declared.plan.Values.TheVariants as values
use Rattle.dr_plan_text.specs.declared.words.AcceptText.{AcceptText}
use Rattle.dr_plan_text.specs.declared.words.NodeText.{NodeText}
use Rattle.dr_plan_text.specs.declared.words.FlowText.{FlowText}
use Rattle.dr_plan_text.specs.declared.words.PlanText.{PlanText}
use Rattle.dr_plan_expand.specs.Amounts.{plan_size}
use Rattle.dr_plan_expand.specs.Meanings.{lookups_of, Means}
use Rattle.dr_plan_expand.specs.Spelling.{plan_text}
use Rattle.dr_plan_expand.specs.Expanding.{IsOwn}
use Rattle.dr_plan_expand.specs.declared.short.AnyWords.TheVariants as any
use Rattle.dr_plan_expand.specs.declared.short.Definition.{Definition}
use Rattle.dr_plan_expand.specs.declared.short.ShortRow.{ShortRow}
use Rattle.dr_plan_expand.specs.declared.short.ShortRule.{ShortRule}
use Rattle.dr_plan_expand.specs.declared.short.ShortNode.{ShortNode}
use Rattle.dr_plan_expand.specs.declared.short.ShortFlow.{ShortFlow}
use Rattle.dr_plan_expand.specs.declared.short.ShortPlan.{ShortPlan}

-- a group of two nodes
abbrev pub scanners : Definition
scanners = record {
  name = codes "scanners";
  words = codes "CT1" ∷ codes "CT2" ∷ [];
}

-- a set of two classes
abbrev pub pictures : Definition
pictures = record {
  name = codes "pictures";
  words = codes "1.2" ∷ codes "1.3" ∷ [];
}

-- what MR1 and the nodes of the group may send: the classes of the set
abbrev pub small_row : ShortRow
small_row = record {
  from = callers.Listed (codes "@scanners" ∷ codes "MR1" ∷ []);
  classes = codes "@pictures" ∷ [];
  syntaxes = codes "ExplicitVRLittleEndian" ∷ [];
}

-- where such an object goes: to ARCH
abbrev pub small_rule : ShortRule
small_rule = record {
  from = any.Listed (codes "@scanners" ∷ []);
  classes = any.Listed (codes "@pictures" ∷ []);
  modality = field.Literal (codes "CT");
  station = field.Prefix (codes "CT");
  except = codes "CT9" ∷ [];
  to = codes "ARCH" ∷ [];
  keep = true;
}

abbrev pub small_node : ShortNode
small_node = record {
  name = codes "GATE";
  listens = At (codes "h:104") (Some (codes "i:105"));
  max_pdu = pos 16384;
  accepts = small_row ∷ [];
  rules = small_rule ∷ [];
}

-- what the nodes of the group send to GATE
abbrev pub small_flow : ShortFlow
small_flow = record {
  at = codes "@scanners" ∷ [];
  to = codes "GATE" ∷ [];
  classes = codes "@pictures" ∷ [];
  syntaxes = codes "ExplicitVRLittleEndian" ∷ [];
  modalities = values.Listed (record { literals = codes "CT" ∷ []; prefixes = codes "M" ∷ [] });
  stations = values.Any;
}

abbrev pub small : ShortPlan
small = record {
  sets = pictures ∷ [];
  groups = scanners ∷ [];
  nodes = small_node ∷ [];
  flows = small_flow ∷ [];
}

-- It counts for 43. Set and group: 3 each. Node: 1, with 2 rows of 5 (itself, 3 callers, a transfer
-- syntax) and 4 rules of 3 (itself, an exception, a target). Flows: 2 of 7 (itself, 2 classes, a
-- transfer syntax, 2 modalities, any station).
abbrev pub SmallPlanIsCounted : Type 0
SmallPlanIsCounted = plan_size (lookups_of small) small ≡ 43

-- the row of one class
abbrev pub meant_row : Text → AcceptText
meant_row class = record {
  from = callers.Listed (codes "CT1" ∷ codes "CT2" ∷ codes "MR1" ∷ []);
  class = class;
  syntaxes = codes "1.2.840.10008.1.2.1" ∷ [];
}

-- the rule for one caller and one class
abbrev pub meant_rule : Text → Text → Rule
meant_rule from class = record {
  from = Literal from;
  class = Literal class;
  modality = field.Literal (codes "CT");
  station = field.Prefix (codes "CT");
  except = codes "CT9" ∷ [];
  to = codes "ARCH" ∷ [];
  keep = true;
}

-- the node with these rows and rules
abbrev pub meant_node : List AcceptText → List Rule → NodeText
meant_node accepts rules = record {
  name = codes "GATE";
  listens = At (codes "h:104") (Some (codes "i:105"));
  max_pdu = pos 16384;
  accepts = accepts;
  rules = rules;
}

-- the flow from one node
abbrev pub meant_flow : Text → FlowText
meant_flow at = record {
  at = at;
  to = codes "GATE";
  classes = codes "1.2" ∷ codes "1.3" ∷ [];
  syntaxes = codes "1.2.840.10008.1.2.1" ∷ [];
  modalities = values.Listed (record { literals = codes "CT" ∷ []; prefixes = codes "M" ∷ [] });
  stations = values.Any;
}

-- it means one row for each class, one rule for each caller and class, and one flow for each node
abbrev pub small_meaning : PlanText
small_meaning = record {
  format = Three;
  nodes =
      meant_node
      (meant_row (codes "1.2") ∷ meant_row (codes "1.3") ∷ [])
      (meant_rule (codes "CT1") (codes "1.2") ∷ meant_rule (codes "CT1") (codes "1.3")
      ∷ meant_rule (codes "CT2") (codes "1.2") ∷ meant_rule (codes "CT2") (codes "1.3") ∷ [])
      ∷ [];
  flows = meant_flow (codes "CT1") ∷ meant_flow (codes "CT2") ∷ [];
}

abbrev pub SmallPlanMeans : Type 0
SmallPlanMeans = Means small small_meaning

-- a part of it: one row, one rule and one flow
abbrev pub small_part : PlanText
small_part = record {
  format = Three;
  nodes =
      meant_node
      (meant_row (codes "1.2") ∷ [])
      (meant_rule (codes "CT1") (codes "1.2") ∷ [])
      ∷ [];
  flows = meant_flow (codes "CT1") ∷ [];
}

-- its spelling, table by table
abbrev pub node_lines : Text
node_lines = codes
    "\n[[node]]\nname = \"GATE\"\naddress = \"h:104\"\nbind = \"i:105\"\nmax_pdu = 16384\n"

abbrev pub row_lines : Text
row_lines =
    codes "\n[[node.accept]]\nfrom = [\"CT1\", \"CT2\", \"MR1\"]\nclass = \"1.2\"\n"
    ++ codes "syntax = [\"1.2.840.10008.1.2.1\"]\n"

abbrev pub rule_lines : Text
rule_lines =
    codes "\n[[node.rule]]\nfrom = \"CT1\"\nclass = \"1.2\"\nmodality = \"CT\"\n"
    ++ codes "station = \"CT*\"\nexcept = [\"CT9\"]\nto = [\"ARCH\"]\nkeep = true\n"

abbrev pub flow_lines : Text
flow_lines =
    codes "\n[[flow]]\nat = \"CT1\"\nto = \"GATE\"\nclass = [\"1.2\", \"1.3\"]\n"
    ++ codes "syntax = [\"1.2.840.10008.1.2.1\"]\nmodality = [\"CT\", \"M*\"]\n"
    ++ codes "station = \"*\"\n"

abbrev pub SmallPartIsSpelled : Type 0
SmallPartIsSpelled =
    plan_text small_part
    ≡ codes "format = 3\n" ++ node_lines ++ row_lines ++ rule_lines ++ flow_lines

-- the spelling of a plan of one node is its own expansion
abbrev pub one_node_text : Text
one_node_text = codes
    "format = 3\n\n[[node]]\nname = \"A\"\naddress = \"h:1\"\nmax_pdu = 16384\n"

abbrev pub OneNodeIsItsOwn : Type 0
OneNodeIsItsOwn = IsOwn one_node_text
