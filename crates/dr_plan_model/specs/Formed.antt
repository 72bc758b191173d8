-- Well-formed plans: names, addresses, classes and literals, names that exist, and the limits of a
-- plan.
use Rattle.std.specs.Prelude.{◌≡◌, ◌≢◌, ℕ, ◌≤◌, ◌<◌, ◌+◌, ◌⊎◌, List, [], ◌∷◌, ◌++◌, length, codes}
use Rattle.std.specs.Prelude.{All, AllPairs, Contains, Some, None, sum_by}
use Rattle.std.specs.Str.Parse.{digits_value}
use Rattle.dr_base.specs.Texts.{Text}
use Rattle.dr_route.specs.declared.rule.Pattern.{Pattern}
use Rattle.dr_route.specs.declared.rule.Pattern.TheVariants.{Any, Literal}
use Rattle.dr_route.specs.declared.rule.FieldPattern.{FieldPattern}
use Rattle.dr_route.specs.declared.rule.FieldPattern.TheVariants as field
use Rattle.dr_route.specs.declared.rule.Rule.{Rule}
use Rattle.dr_route.specs.declared.accept.Callers.{Callers}
use Rattle.dr_route.specs.declared.accept.Callers.TheVariants as callers
use Rattle.dr_route.specs.declared.accept.AcceptRow.{AcceptRow}
use Rattle.dr_plan_model.specs.declared.plan.Node.{Node}
use Rattle.dr_plan_model.specs.declared.plan.Flow.{Flow}
use Rattle.dr_plan_model.specs.declared.plan.Values.{Values}
use Rattle.dr_plan_model.specs.declared.plan.Values.TheVariants as values
use Rattle.dr_plan_model.specs.declared.plan.Format.{Format}
use Rattle.dr_plan_model.specs.declared.plan.Format.TheVariants.{One, Two, Three}
use Rattle.dr_plan_model.specs.declared.listens.Listens.{Listens}
use Rattle.dr_plan_model.specs.declared.listens.Listens.TheVariants.{Nowhere, At}
use Rattle.dr_plan_model.specs.Listening.{ListensFits, MayAccept}
use Rattle.dr_plan_model.specs.Naming.{prefix_of, listed_prefixes}

-- no space stands at the start of the text, nor at its end
abbrev pub IsTrimmed : Text → Type 0
IsTrimmed text = (rest : Text) → (text ≡ 32 ∷ rest → ⊥) × (text ≡ rest ++ 32 ∷ [] → ⊥)

-- a node's title: 1 to 16 printable bytes but the backslash, and neither `*` nor `-`
pub record IsName (text : Text) : Type 0 where
  pub some : text ≢ []
  pub short : length text ≤ 16
  pub printable : All (λ byte. (32 ≤ byte) × (byte < 127) × (byte ≢ 92)) text
  pub trimmed : IsTrimmed text
  pub not_any : text ≢ codes "*"
  pub not_local : text ≢ codes "-"

-- the value of a modality or a station: up to 64 printable bytes but the asterisk
pub record IsLiteral (text : Text) : Type 0 where
  pub short : length text ≤ 64
  pub printable : All (λ byte. (32 ≤ byte) × (byte < 127) × (byte ≢ 42)) text
  pub trimmed : IsTrimmed text

-- what values are named by that begin with it: a literal of one byte or more
pub record IsPrefix (text : Text) : Type 0 where
  pub literal : IsLiteral text
  pub some : text ≢ []

-- the byte is a digit, 0 to 9
abbrev pub IsDigit : ℕ → Type 0
IsDigit byte = (48 ≤ byte) × (byte ≤ 57)

-- a SOP class: 1 to 64 digits and dots
pub record IsClass (text : Text) : Type 0 where
  pub some : text ≢ []
  pub short : length text ≤ 64
  pub digits : All (λ byte. IsDigit byte ⊎ (byte ≡ 46)) text

-- `host:port`: up to 255 printable bytes without a blank, the port 1 to 5 digits and at most 65,535
pub record IsAddress (text : Text) : Type 0 where
  pub host : Text
  pub port : Text
  pub parts : text ≡ host ++ 58 ∷ port
  pub some : host ≢ []
  pub digits : All IsDigit port
  pub few : (port ≢ []) × (length port ≤ 5)
  pub small : digits_value 10 port ≤ 65535
  pub printable : All (λ byte. (33 ≤ byte) × (byte < 127)) text
  pub short : length text ≤ 255

-- the addresses of a node that listens are addresses
abbrev pub HasAddresses : Listens → Type 0
HasAddresses Nowhere = Unit {0}
HasAddresses (At address None) = IsAddress address
HasAddresses (At address (Some own)) = IsAddress address × IsAddress own

-- no limit, or 1,024 to 1,048,576 bytes
abbrev pub IsMaxPdu : ℕ → Type 0
IsMaxPdu bytes = (bytes ≡ 0) ⊎ ((1024 ≤ bytes) × (bytes ≤ 1048576))

-- the name is that of some node
abbrev pub IsKnownName : List Node → Text → Type 0
IsKnownName nodes name = (node : Node) × Contains nodes node × (node.name ≡ name)

-- the pattern's literal, if it has one, is of that form
abbrev pub HasForm : (Text → Type 0) → Pattern → Type 0
HasForm P Any = Unit {0}
HasForm P (Literal literal) = P literal

-- the pattern of a field has a literal or a prefix of the right form, if it has one
abbrev pub HasFieldForm : FieldPattern → Type 0
HasFieldForm field.Any = Unit {0}
HasFieldForm (field.Literal literal) = IsLiteral literal
HasFieldForm (field.Prefix prefix) = IsPrefix prefix

-- a rule of the node of that name: it doesn't send to its own node
pub record IsRuleOf (nodes : List Node) (name : Text) (rule : Rule) : Type 0 where
  pub from : HasForm (IsKnownName nodes) rule.from
  pub class : HasForm IsClass rule.class
  pub modality : HasFieldForm rule.modality
  pub station : HasFieldForm rule.station
  pub except : All IsLiteral rule.except
  pub to : All (λ target. IsKnownName nodes target × (target ≢ name)) rule.to

-- the callers of an accept row are all, or names of nodes of the plan
abbrev pub AreKnownCallers : List Node → Callers → Type 0
AreKnownCallers nodes callers.Any = Unit {0}
AreKnownCallers nodes (callers.Listed names) = All (IsKnownName nodes) names

-- an accept row of a plan: known callers, a class, and one or more transfer syntaxes, none twice
pub record IsAcceptRow (nodes : List Node) (row : AcceptRow) : Type 0 where
  pub from : AreKnownCallers nodes row.from
  pub class : IsClass row.class
  pub some : row.syntaxes ≢ []
  pub apart : AllPairs (λ a b. a ≢ b) row.syntaxes

-- a node of a plan: its title, its addresses and greatest length, its accept rows and its rules are
-- each of the right form, and it accepts nothing where it listens nowhere
pub record IsWellFormedNode (nodes : List Node) (node : Node) : Type 0 where
  pub name : IsName node.name
  pub addresses : HasAddresses node.listens
  pub may_accept : MayAccept node.listens node.accepts
  pub max_pdu : IsMaxPdu node.max_pdu
  pub accepts : All (IsAcceptRow nodes) node.accepts
  pub rules : All (IsRuleOf nodes node.name) node.rules

-- the values of a flow are all, or literals and prefixes of the right form
abbrev pub AreValues : Values → Type 0
AreValues values.Any = Unit {0}
AreValues (values.Listed own) = All IsLiteral own.literals × All IsPrefix own.prefixes

-- a flow of a plan: from one node to another, with classes, transfer syntaxes, and values of the
-- right form
pub record IsWellFormedFlow (nodes : List Node) (flow : Flow) : Type 0 where
  pub at : IsKnownName nodes flow.at
  pub to : IsKnownName nodes flow.to
  pub apart : flow.at ≢ flow.to
  pub classes : (flow.classes ≢ []) × All IsClass flow.classes
  pub syntaxes : flow.syntaxes ≢ []
  pub modalities : AreValues flow.modalities
  pub stations : AreValues flow.stations

-- the format has these prefixes of modalities: from format 3 on there are some
abbrev pub ModalitiesFit : Format → List Text → Type 0
ModalitiesFit One prefixes = prefixes ≡ []
ModalitiesFit Two prefixes = prefixes ≡ []
ModalitiesFit Three prefixes = Unit {0}

-- the format has these prefixes of stations: from format 2 on there are some
abbrev pub StationsFit : Format → List Text → Type 0
StationsFit One prefixes = prefixes ≡ []
StationsFit Two prefixes = Unit {0}
StationsFit Three prefixes = Unit {0}

-- the format has these exceptions of a rule: in format 3 there are some, as prefixes of modalities
abbrev pub ExceptionsFit : Format → List Text → Type 0
ExceptionsFit format except = ModalitiesFit format except

-- the format has the prefixes that the rule names, and its exceptions
abbrev pub RuleFits : Format → Rule → Type 0
RuleFits format rule =
    ModalitiesFit format (prefix_of rule.modality)
    × StationsFit format (prefix_of rule.station)
    × ExceptionsFit format rule.except

-- the format has the prefixes of these values of a flow
abbrev pub ValuesFit : Format → Values → Values → Type 0
ValuesFit format modalities stations =
    ModalitiesFit format (listed_prefixes modalities)
    × StationsFit format (listed_prefixes stations)

-- the format has what the nodes and flows name
pub record IsInFormat (format : Format) (nodes : List Node) (flows : List Flow) : Type 0 where
  pub each_rule : All (λ node. All (RuleFits format) node.rules) nodes
  pub each_flow : All (λ flow. ValuesFit format flow.modalities flow.stations) flows

-- the nodes and flows of a plan of that format: at most 64 nodes, each name once, and at most 1,024
-- rules and flows together; the nodes listen as in that format
pub record AreWellFormed (format : Format) (nodes : List Node) (flows : List Flow) : Type 0 where
  pub few_nodes : length nodes ≤ 64
  pub few_rules : sum_by (λ node. length node.rules) nodes + length flows ≤ 1024
  pub apart : AllPairs (λ a b. a.name ≢ b.name) nodes
  pub each_node : All (IsWellFormedNode nodes) nodes
  pub each_flow : All (IsWellFormedFlow nodes) flows
  pub in_format : IsInFormat format nodes flows
  pub listen : All (λ node. ListensFits format node.listens) nodes
