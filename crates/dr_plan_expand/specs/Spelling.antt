-- The one spelling of a plan of format 3 without names, sets, groups and lists.
use Rattle.std.specs.Prelude.{Bool, if◌then◌else◌, List, [], ◌∷◌, ◌++◌, Option, Some, None, codes}
use Rattle.std.specs.Prelude.{map, flat_map}
use Rattle.std.specs.Fmt.{signed_decimal}
use Rattle.dr_base.specs.Texts.{Text}
use Rattle.dr_base_quoted.specs.Escaping.{in_quotes}
use Rattle.dr_route.specs.declared.rule.Pattern.{Pattern}
use Rattle.dr_route.specs.declared.rule.Pattern.TheVariants.{Any, Literal}
use Rattle.dr_route.specs.declared.rule.FieldPattern.{FieldPattern}
use Rattle.dr_route.specs.declared.rule.FieldPattern.TheVariants as field
use Rattle.dr_route.specs.declared.rule.Rule.{Rule}
use Rattle.dr_route.specs.declared.accept.Callers.{Callers}
use Rattle.dr_route.specs.declared.accept.Callers.TheVariants as callers
use Rattle.dr_plan_model.specs.declared.listens.Listens.{Listens}
use Rattle.dr_plan_model.specs.declared.listens.Listens.TheVariants.{Nowhere, At}
use Rattle.dr_plan_model.specs.declared.plan.Values.{Values}
use Rattle.dr_plan_model.specs.declared.plan.Values.TheVariants as values
use Rattle.dr_plan_text.specs.declared.words.AcceptText.{AcceptText}
use Rattle.dr_plan_text.specs.declared.words.NodeText.{NodeText}
use Rattle.dr_plan_text.specs.declared.words.FlowText.{FlowText}
use Rattle.dr_plan_text.specs.declared.words.PlanText.{PlanText}

-- a text of a list that isn't its first
abbrev pub further : Text → Text
further text = codes ", " ++ in_quotes text

-- a list of texts in brackets
abbrev pub list_text : List Text → Text
list_text [] = codes "[]"
list_text (text ∷ texts) = codes "[" ++ in_quotes text ++ flat_map further texts ++ codes "]"

-- the text of any value
abbrev pub star_text : Text
star_text = codes "\"*\""

-- a pattern
abbrev pub pattern_text : Pattern → Text
pattern_text Any = star_text
pattern_text (Literal literal) = in_quotes literal

-- a prefix with the asterisk behind it
abbrev pub starred : Text → Text
starred prefix = prefix ++ 42 ∷ []

-- the modality or the station of a rule
abbrev pub field_text : FieldPattern → Text
field_text field.Any = star_text
field_text (field.Literal literal) = in_quotes literal
field_text (field.Prefix prefix) = in_quotes (starred prefix)

-- the callers of an accept row
abbrev pub callers_text : Callers → Text
callers_text callers.Any = star_text
callers_text (callers.Listed names) = list_text names

-- the modalities or the stations of a flow: the values, and then the prefixes
abbrev pub values_text : Values → Text
values_text values.Any = star_text
values_text (values.Listed named) = list_text (named.literals ++ map starred named.prefixes)

-- true or false
abbrev pub flag_text : Bool → Text
flag_text flag = if flag then codes "true" else codes "false"

-- an accept row
abbrev pub row_text : AcceptText → Text
row_text row =
    codes "\n[[node.accept]]\nfrom = " ++ callers_text row.from
    ++ codes "\nclass = " ++ in_quotes row.class
    ++ codes "\nsyntax = " ++ list_text row.syntaxes ++ codes "\n"

-- the stations that a rule excepts: nothing where it excepts none
abbrev pub except_text : List Text → Text
except_text [] = []
except_text (station ∷ stations) = codes "\nexcept = " ++ list_text (station ∷ stations)

-- a rule
abbrev pub rule_text : Rule → Text
rule_text rule =
    codes "\n[[node.rule]]\nfrom = " ++ pattern_text rule.from
    ++ codes "\nclass = " ++ pattern_text rule.class
    ++ codes "\nmodality = " ++ field_text rule.modality
    ++ codes "\nstation = " ++ field_text rule.station
    ++ except_text rule.except
    ++ codes "\nto = " ++ list_text rule.to
    ++ codes "\nkeep = " ++ flag_text rule.keep ++ codes "\n"

-- the address to which a node binds, where it is another one
abbrev pub bind_text : Option Text → Text
bind_text None = []
bind_text (Some address) = codes "\nbind = " ++ in_quotes address

-- the address at which a node listens, and the one to which it binds, where it is another one
abbrev pub address_text : Text → Option Text → Text
address_text address bind = codes "\naddress = " ++ in_quotes address ++ bind_text bind

-- where a node listens
abbrev pub listens_text : Listens → Text
listens_text Nowhere = codes "\nlistens = false"
listens_text (At address bind) = address_text address bind

-- a node, with its accept rows and its rules
abbrev pub node_text : NodeText → Text
node_text node =
    codes "\n[[node]]\nname = " ++ in_quotes node.name
    ++ listens_text node.listens
    ++ codes "\nmax_pdu = " ++ signed_decimal node.max_pdu ++ codes "\n"
    ++ flat_map row_text node.accepts ++ flat_map rule_text node.rules

-- a flow
abbrev pub flow_text : FlowText → Text
flow_text flow =
    codes "\n[[flow]]\nat = " ++ in_quotes flow.at
    ++ codes "\nto = " ++ in_quotes flow.to
    ++ codes "\nclass = " ++ list_text flow.classes
    ++ codes "\nsyntax = " ++ list_text flow.syntaxes
    ++ codes "\nmodality = " ++ values_text flow.modalities
    ++ codes "\nstation = " ++ values_text flow.stations ++ codes "\n"

-- the plan: its format, its nodes, and its flows
abbrev pub plan_text : PlanText → Text
plan_text plan =
    codes "format = 3\n" ++ flat_map node_text plan.nodes ++ flat_map flow_text plan.flows
