-- Laws of plans as they are written, and small texts.
use Rattle.std.specs.Prelude.{◌≡◌, pos, false, [], ◌∷◌, ◌++◌, None, Some, codes}
use Rattle.toml.specs.Data.{string}
use Rattle.dr_base.specs.Texts.{Text}
use Rattle.dr_route.specs.declared.rule.Pattern.TheVariants.{Any}
use Rattle.dr_route.specs.declared.rule.FieldPattern.{FieldPattern}
use Rattle.dr_route.specs.declared.rule.FieldPattern.TheVariants as field
use Rattle.dr_route.specs.declared.rule.Rule.{Rule}
use Rattle.dr_plan_model.specs.declared.listens.Listens.TheVariants.{Nowhere, At}
use Rattle.dr_plan_model.specs.declared.plan.Values.TheVariants as values
use Rattle.dr_plan_model.specs.declared.plan.Format.TheVariants.{One, Two, Three}
use Rattle.dr_plan_text.specs.declared.words.NodeText.{NodeText}
use Rattle.dr_plan_text.specs.declared.words.FlowText.{FlowText}
use Rattle.dr_plan_text.specs.declared.words.PlanText.{PlanText}
use Rattle.dr_plan_text.specs.Fields.{SaysNamed}
use Rattle.dr_plan_text.specs.Tables.{Writes}

-- a text writes one plan at most
abbrev pub EachTextWritesOnePlan : Type 0
EachTextWritesOnePlan = (text : Text) (a b : PlanText) → Writes text a → Writes text b → a ≡ b

-- the empty text writes the plan without nodes and flows
abbrev pub EmptyTextWritesNothing : Type 0
EmptyTextWritesNothing = Writes [] (record { format = One; nodes = []; flows = [] })

-- the text of one node with the name A at port 1 of host h
abbrev pub node_text : Text
node_text = codes "[[node]]\nname = \"A\"\naddress = \"h:1\"\n"

-- node A at port 1 of host h as it is read: `max_pdu` is 16,384, as where it isn't given, and there
-- are no rows
abbrev pub written_node_text : NodeText
written_node_text = record {
  name = codes "A";
  listens = At (codes "h:1") None;
  max_pdu = pos 16384;
  accepts = [];
  rules = [];
}

-- the text of one node writes the plan of that node alone
abbrev pub NodeIsWritten : Type 0
NodeIsWritten =
    Writes node_text (record { format = One; nodes = written_node_text ∷ []; flows = [] })

-- the text writes no plan
abbrev WritesNone : Text → Type 0
WritesNone text = (plan : PlanText) → Writes text plan → ⊥

-- a text with a key that isn't known writes no plan
abbrev pub KeyIsUnknown : Type 0
KeyIsUnknown = WritesNone (codes "colour = 1")

-- a text of another format than 1, 2 and 3 writes no plan
abbrev pub FormatIsOther : Type 0
FormatIsOther = WritesNone (codes "format = 4")

-- a text with a node without an address writes no plan
abbrev pub AddressIsMissing : Type 0
AddressIsMissing = WritesNone (codes "[[node]]\nname = \"A\"\n")

-- a text with a port above 65,535 writes no plan
abbrev pub PortIsTooHigh : Type 0
PortIsTooHigh = WritesNone (codes "[[node]]\nname = \"A\"\naddress = \"h:65536\"\n")

-- the first line of a text of format 2
abbrev pub second_format : Text
second_format = codes "format = 2\n"

-- the text of node A with a rule for the stations that begin with CT
abbrev pub rule_text : Text
rule_text = codes "[[node]]\nname = \"A\"\naddress = \"h:1\"\n[[node.rule]]\nstation = \"CT*\"\n"

-- the rule as it is read: its prefix is what stands before the asterisk
abbrev pub written_rule : Rule
written_rule = record {
  from = Any;
  class = Any;
  modality = field.Any;
  station = field.Prefix (codes "CT");
  except = [];
  to = [];
  keep = false;
}

-- its node as it is read
abbrev pub written_rule_node : NodeText
written_rule_node = record {
  name = codes "A";
  listens = At (codes "h:1") None;
  max_pdu = pos 16384;
  accepts = [];
  rules = written_rule ∷ [];
}

-- in format 2 the text with the rule writes it
abbrev pub RulePrefixIsWritten : Type 0
RulePrefixIsWritten = Writes (second_format ++ rule_text)
    (record { format = Two; nodes = written_rule_node ∷ []; flows = [] })

-- in format 1 it writes no plan
abbrev pub RulePrefixIsOfFormatTwo : Type 0
RulePrefixIsOfFormatTwo = WritesNone rule_text

-- the text of a flow for the station MR, and for those that begin with CT
abbrev pub flow_text : Text
flow_text = codes
    "[[flow]]\nat = \"A\"\nto = \"B\"\nclass = [\"1\"]\nsyntax = [\"1\"]\nmodality = \"*\"\nstation = [\"MR\", \"CT*\"]\n"

-- the flow as it is read
abbrev pub written_flow_text : FlowText
written_flow_text = record {
  at = codes "A";
  to = codes "B";
  classes = codes "1" ∷ [];
  syntaxes = codes "1" ∷ [];
  modalities = values.Any;
  stations = values.Listed (record { literals = codes "MR" ∷ []; prefixes = codes "CT" ∷ [] });
}

-- in format 2 the text with the flow writes it
abbrev pub FlowPrefixIsWritten : Type 0
FlowPrefixIsWritten = Writes (second_format ++ flow_text)
    (record { format = Two; nodes = []; flows = written_flow_text ∷ [] })

-- in format 1 it writes no plan
abbrev pub FlowPrefixIsOfFormatTwo : Type 0
FlowPrefixIsOfFormatTwo = WritesNone flow_text

-- the first line of a text of format 3
abbrev pub third_format : Text
third_format = codes "format = 3\n"

-- the text of node A with a rule for the modalities that begin with C
abbrev pub modality_rule_text : Text
modality_rule_text = codes
    "[[node]]\nname = \"A\"\naddress = \"h:1\"\n[[node.rule]]\nmodality = \"C*\"\n"

-- the rule as it is read
abbrev pub written_modality_rule : Rule
written_modality_rule = record {
  from = Any;
  class = Any;
  modality = field.Prefix (codes "C");
  station = field.Any;
  except = [];
  to = [];
  keep = false;
}

-- its node as it is read
abbrev pub written_modality_node : NodeText
written_modality_node = record {
  name = codes "A";
  listens = At (codes "h:1") None;
  max_pdu = pos 16384;
  accepts = [];
  rules = written_modality_rule ∷ [];
}

-- in format 3 the text with that rule writes it
abbrev pub RuleModalityIsWritten : Type 0
RuleModalityIsWritten = Writes (third_format ++ modality_rule_text)
    (record { format = Three; nodes = written_modality_node ∷ []; flows = [] })

-- in format 2 it writes no plan
abbrev pub RuleModalityIsOfFormatThree : Type 0
RuleModalityIsOfFormatThree = WritesNone (second_format ++ modality_rule_text)

-- the text of a flow for the modality MR, and for those that begin with C
abbrev pub modality_flow_text : Text
modality_flow_text = codes
    "[[flow]]\nat = \"A\"\nto = \"B\"\nclass = [\"1\"]\nsyntax = [\"1\"]\nmodality = [\"MR\", \"C*\"]\nstation = \"*\"\n"

-- the flow as it is read
abbrev pub written_modality_flow : FlowText
written_modality_flow = record {
  at = codes "A";
  to = codes "B";
  classes = codes "1" ∷ [];
  syntaxes = codes "1" ∷ [];
  modalities = values.Listed (record { literals = codes "MR" ∷ []; prefixes = codes "C" ∷ [] });
  stations = values.Any;
}

-- in format 3 the text with that flow writes it
abbrev pub FlowModalityIsWritten : Type 0
FlowModalityIsWritten = Writes (third_format ++ modality_flow_text)
    (record { format = Three; nodes = []; flows = written_modality_flow ∷ [] })

-- in format 2 it writes no plan
abbrev pub FlowModalityIsOfFormatThree : Type 0
FlowModalityIsOfFormatThree = WritesNone (second_format ++ modality_flow_text)

-- the text names no value: it is neither a literal nor a prefix with an asterisk behind it
abbrev NamesNone : Text → Type 0
NamesNone text = (pattern : FieldPattern) → SaysNamed (string text) pattern → ⊥

-- the asterisk alone names none, so that a list can't have it
abbrev pub StarNamesNone : Type 0
StarNamesNone = NamesNone (codes "*")

-- an asterisk stands only at the end, and only once
abbrev pub StarsInsideNameNone : Type 0
StarsInsideNameNone = NamesNone (codes "C*T") × NamesNone (codes "CT **")

-- no space stands at an end of a prefix
abbrev pub SpacesNameNone : Type 0
SpacesNameNone = NamesNone (codes " CT*") × NamesNone (codes "CT *")

-- the text of node A, which listens nowhere
abbrev pub nowhere_text : Text
nowhere_text = codes "[[node]]\nname = \"A\"\nlistens = false\n"

-- its node as it is read
abbrev pub written_nowhere : NodeText
written_nowhere = record {
  name = codes "A";
  listens = Nowhere;
  max_pdu = pos 16384;
  accepts = [];
  rules = [];
}

-- in format 3 the text writes it
abbrev pub NowhereIsWritten : Type 0
NowhereIsWritten = Writes (third_format ++ nowhere_text)
    (record { format = Three; nodes = written_nowhere ∷ []; flows = [] })

-- in format 2 it writes no plan
abbrev pub NowhereIsOfFormatThree : Type 0
NowhereIsOfFormatThree = WritesNone (second_format ++ nowhere_text)

-- the text of node A, which others reach at port 1 of host h, and which binds to port 2 of it
abbrev pub bound_text : Text
bound_text = codes "[[node]]\nname = \"A\"\naddress = \"h:1\"\nbind = \"h:2\"\n"

-- its node as it is read
abbrev pub written_bound : NodeText
written_bound = record {
  name = codes "A";
  listens = At (codes "h:1") (Some (codes "h:2"));
  max_pdu = pos 16384;
  accepts = [];
  rules = [];
}

-- in format 3 the text writes it
abbrev pub BindIsWritten : Type 0
BindIsWritten = Writes (third_format ++ bound_text)
    (record { format = Three; nodes = written_bound ∷ []; flows = [] })

-- in format 2 it writes no plan
abbrev pub BindIsOfFormatThree : Type 0
BindIsOfFormatThree = WritesNone (second_format ++ bound_text)

-- a text of format 3 with a node that binds, and has no address, writes no plan
abbrev pub BindNeedsAddress : Type 0
BindNeedsAddress =
    WritesNone (third_format ++ codes "[[node]]\nname = \"A\"\nbind = \"h:2\"\n")

-- nor does one with a node that listens nowhere and has an address
abbrev pub NowhereHasNoAddress : Type 0
NowhereHasNoAddress = WritesNone
    (third_format ++ codes "[[node]]\nname = \"A\"\nlistens = false\naddress = \"h:1\"\n")

-- an accept row
abbrev pub accept_text : Text
accept_text = codes "[[node.accept]]\nfrom = \"*\"\nclass = \"1\"\nsyntax = [\"1\"]\n"

-- nor one with a node that listens nowhere and has an accept row
abbrev pub NowhereHasNoRow : Type 0
NowhereHasNoRow = WritesNone (third_format ++ nowhere_text ++ accept_text)

-- the text of node A with a rule for the stations that begin with CT, but for CT9
abbrev pub except_text : Text
except_text = rule_text ++ codes "except = [\"CT9\"]\n"

-- the rule as it is read
abbrev pub written_except_rule : Rule
written_except_rule = record {
  from = Any;
  class = Any;
  modality = field.Any;
  station = field.Prefix (codes "CT");
  except = codes "CT9" ∷ [];
  to = [];
  keep = false;
}

-- its node as it is read
abbrev pub written_except_node : NodeText
written_except_node = record {
  name = codes "A";
  listens = At (codes "h:1") None;
  max_pdu = pos 16384;
  accepts = [];
  rules = written_except_rule ∷ [];
}

-- in format 3 the text with that rule writes it
abbrev pub ExceptionIsWritten : Type 0
ExceptionIsWritten = Writes (third_format ++ except_text)
    (record { format = Three; nodes = written_except_node ∷ []; flows = [] })

-- in format 2 it writes no plan
abbrev pub ExceptionIsOfFormatThree : Type 0
ExceptionIsOfFormatThree = WritesNone (second_format ++ except_text)

-- a text of format 3 with a rule that excepts a prefix writes no plan
abbrev pub ExceptionIsNoPrefix : Type 0
ExceptionIsNoPrefix = WritesNone (third_format ++ rule_text ++ codes "except = [\"CT9*\"]\n")

-- nor does one with an empty list of exceptions: where there are none, none are written
abbrev pub NoExceptionIsWritten : Type 0
NoExceptionIsWritten = WritesNone (third_format ++ rule_text ++ codes "except = []\n")
