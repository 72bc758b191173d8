-- Small words and small tables of format 3.
use Rattle.std.specs.Prelude.{pos, true, false, List, [], ◌∷◌, None, codes}
use Rattle.toml.specs.Data.{string, integer, boolean, array, table, Items, no_items, item, Members}
use Rattle.toml.specs.Data.{no_members, member}
use Rattle.dr_base.specs.Texts.{Text}
use Rattle.dr_route.specs.declared.rule.FieldPattern.TheVariants as field
use Rattle.dr_plan_model.specs.declared.listens.Listens.TheVariants.{At}
use Rattle.dr_plan_model.specs.declared.plan.Values.TheVariants as values
use Rattle.dr_plan_expand.specs.Words.{Known, OfSet, Names, Calls, Defines, IsClassOf, IsSet}
use Rattle.dr_plan_expand.specs.Words.{YieldsSyntax}
use Rattle.dr_plan_expand.specs.Fields.{SaysWords}
use Rattle.dr_plan_expand.specs.Tables.{IsShortRow, IsShortRule, IsShortNode, IsShortFlow}
use Rattle.dr_plan_expand.specs.Tables.{IsShortPlan}
use Rattle.dr_plan_expand.specs.Small.{scanners, pictures}
use Rattle.dr_plan_expand.specs.declared.short.AnyWords.TheVariants as any
use Rattle.dr_plan_expand.specs.declared.short.Definition.{Definition}
use Rattle.dr_plan_expand.specs.declared.short.ShortRow.{ShortRow}
use Rattle.dr_plan_expand.specs.declared.short.ShortRule.{ShortRule}
use Rattle.dr_plan_expand.specs.declared.short.ShortNode.{ShortNode}
use Rattle.dr_plan_expand.specs.declared.short.ShortFlow.{ShortFlow}
use Rattle.dr_plan_expand.specs.declared.short.ShortPlan.{ShortPlan}

-- a table of one class
abbrev pub ct_alone : List (List Known)
ct_alone = ((codes "CTImage", codes "CT Image", codes "1.2") ∷ []) ∷ []

-- its keyword and its name are words for its UID, and that is called by the name
abbrev pub KeywordNamesItsClass : Type 0
KeywordNamesItsClass = Names ct_alone (codes "CTImage") (codes "1.2")

abbrev pub NameNamesItsClass : Type 0
NameNamesItsClass = Names ct_alone (codes "CT Image") (codes "1.2")

abbrev pub ClassIsCalledByItsName : Type 0
ClassIsCalledByItsName = Calls ct_alone (codes "1.2") (codes "CT Image")

-- a UID stands for itself, also where a table has it for a keyword
abbrev pub odd_table : List (List Known)
odd_table = ((codes "1", codes "One", codes "2") ∷ []) ∷ []

abbrev pub UidStandsForItself : Type 0
UidStandsForItself = IsClassOf odd_table (codes "1") (codes "1")

-- sets that come with the product: one in two parts, and another one
abbrev pub products : List (List OfSet)
products =
    ((codes "ct", codes "1") ∷ (codes "mr", codes "2") ∷ []) ∷ ((codes "ct", codes "3") ∷ []) ∷ []

-- a set of the plan of the same name
abbrev pub own_ct : Definition
own_ct = record { name = codes "ct"; words = codes "1" ∷ [] }

-- without it the set is the product's, with it the plan's; and no set is one of no class
abbrev pub ProductsSetStands : Type 0
ProductsSetStands = IsSet [] products [] (codes "ct") (codes "1" ∷ codes "3" ∷ [])

abbrev pub OwnSetIsFirst : Type 0
OwnSetIsFirst = IsSet [] products (own_ct ∷ []) (codes "ct") (codes "1" ∷ [])

abbrev pub EmptySetIsNone : Type 0
EmptySetIsNone =
    (uids : List Text) → IsSet [] (((codes "mr", codes "2") ∷ []) ∷ []) [] (codes "ct") uids → ⊥

-- of two definitions of one name the first counts
abbrev pub other_scanners : Definition
other_scanners = record { name = codes "scanners"; words = codes "MR1" ∷ [] }

abbrev pub FirstDefinitionCounts : Type 0
FirstDefinitionCounts =
    Defines (scanners ∷ other_scanners ∷ []) (codes "scanners") (codes "CT1" ∷ codes "CT2" ∷ [])

-- a transfer syntax that the standard doesn't name stands for itself
abbrev pub StrangeSyntaxStandsForItself : Type 0
StrangeSyntaxStandsForItself = YieldsSyntax [] (codes "1.2") (codes "1.2" ∷ [])

-- a list of no word says no words
abbrev pub NoWordIsNone : Type 0
NoWordIsNone = (words : List Text) → SaysWords (array no_items) words → ⊥

-- the list of one text
abbrev pub one_text : Text → Items
one_text text = item (string text) no_items

-- the table `name = "A"` and `address = "h:1"` is that of a node with the usual length
abbrev pub addressed : Members
addressed = member (codes "address") (string (codes "h:1"))
    (member (codes "name") (string (codes "A")) no_members)

abbrev pub addressed_node : ShortNode
addressed_node = record {
  name = codes "A";
  listens = At (codes "h:1") None;
  max_pdu = pos 16384;
  accepts = [];
  rules = [];
}

abbrev pub NodeIsSaid : Type 0
NodeIsSaid = IsShortNode addressed addressed_node

-- a name with `@` at its front is no node's
abbrev pub MarkedNameIsNone : Type 0
MarkedNameIsNone =
    (node : ShortNode)
    → IsShortNode (member (codes "name") (string (codes "@A")) no_members) node
    → ⊥

-- the empty table is that of a rule for all, without a target
abbrev pub any_rule : ShortRule
any_rule = record {
  from = any.Any;
  classes = any.Any;
  modality = field.Any;
  station = field.Any;
  except = [];
  to = [];
  keep = false;
}

abbrev pub EmptyRuleIsSaid : Type 0
EmptyRuleIsSaid = IsShortRule no_members any_rule

-- a rule with all of its keys but `except`
abbrev pub ruled : Members
ruled = member (codes "class") (array (one_text (codes "1")))
    (member (codes "from") (string (codes "@scanners"))
    (member (codes "keep") (boolean true)
    (member (codes "modality") (string (codes "MR"))
    (member (codes "station") (string (codes "CT*"))
    (member (codes "to") (array (one_text (codes "ARCH"))) no_members)))))

abbrev pub ruled_rule : ShortRule
ruled_rule = record {
  from = any.Listed (codes "@scanners" ∷ []);
  classes = any.Listed (codes "1" ∷ []);
  modality = field.Literal (codes "MR");
  station = field.Prefix (codes "CT");
  except = [];
  to = codes "ARCH" ∷ [];
  keep = true;
}

abbrev pub RuleIsSaid : Type 0
RuleIsSaid = IsShortRule ruled ruled_rule

-- an accept row without a class is none
abbrev pub RowWithoutClassIsNone : Type 0
RowWithoutClassIsNone =
    (row : ShortRow)
    → IsShortRow (member (codes "from") (string (codes "*")) no_members) row
    → ⊥

-- a flow
abbrev pub flowing : Members
flowing = member (codes "at") (string (codes "@scanners"))
    (member (codes "class") (string (codes "1"))
    (member (codes "modality") (string (codes "*"))
    (member (codes "station") (array (one_text (codes "CT*")))
    (member (codes "syntax") (array (one_text (codes "2")))
    (member (codes "to") (array (one_text (codes "ARCH"))) no_members)))))

abbrev pub flowing_flow : ShortFlow
flowing_flow = record {
  at = codes "@scanners" ∷ [];
  to = codes "ARCH" ∷ [];
  classes = codes "1" ∷ [];
  syntaxes = codes "2" ∷ [];
  modalities = values.Any;
  stations = values.Listed (record { literals = []; prefixes = codes "CT" ∷ [] });
}

abbrev pub FlowIsSaid : Type 0
FlowIsSaid = IsShortFlow flowing flowing_flow

-- a plan of a set and a group
abbrev pub defining : Members
defining = member (codes "format") (integer (pos 3))
    (member (codes "group") (table (member (codes "scanners")
    (array (item (string (codes "CT1")) (one_text (codes "CT2")))) no_members))
    (member (codes "set") (table (member (codes "pictures")
    (array (item (string (codes "1.2")) (one_text (codes "1.3")))) no_members)) no_members))

abbrev pub defining_plan : ShortPlan
defining_plan = record {
  sets = pictures ∷ [];
  groups = scanners ∷ [];
  nodes = [];
  flows = [];
}

abbrev pub DefinitionsAreSaid : Type 0
DefinitionsAreSaid = IsShortPlan defining defining_plan

-- a text of format 2 says no plan of format 3
abbrev pub SecondFormatIsNone : Type 0
SecondFormatIsNone =
    (short : ShortPlan)
    → IsShortPlan (member (codes "format") (integer (pos 2)) no_members) short
    → ⊥
