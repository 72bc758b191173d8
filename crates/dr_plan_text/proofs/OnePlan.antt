-- Tables say one thing each, and a text writes one plan at most.
use Rattle.std.proofs.Common.{◌≡◌, refl, sym, ◌∙◌, ap, subst, List, [], Option, Some, None, Bool, false, ℤ, codes}
use Rattle.std.proofs.lemmas.Option.{same_Some}
use Rattle.toml.specs.Data.{Data, integer, boolean, array, table, Members, get_member}
use Rattle.dr_base.specs.Texts.{Text}
use Rattle.dr_route.specs.declared.rule.Rule.{Rule}
use Rattle.dr_route.specs.declared.rule.Pattern.{Pattern}
use Rattle.dr_route.specs.declared.rule.Pattern.TheVariants.{Any, Literal}
use Rattle.dr_route.specs.declared.rule.FieldPattern.{FieldPattern}
use Rattle.dr_route.specs.declared.rule.FieldPattern.TheVariants as field
use Rattle.dr_route.specs.declared.accept.Callers.{Callers}
use Rattle.dr_route.specs.declared.accept.Callers.TheVariants as callers
use Rattle.dr_plan_model.specs.declared.plan.Values.{Values}
use Rattle.dr_plan_model.specs.declared.plan.Format.{Format}
use Rattle.dr_plan_model.specs.declared.plan.Format.TheVariants.{One}
use Rattle.dr_plan_model.specs.Formed.{IsClass, IsLiteral}
use Rattle.dr_plan_model.specs.Listening.{MayAccept}
use Rattle.dr_plan_model.specs.declared.listens.Listens.{Listens}
use Rattle.dr_plan_text.specs.Listening.{IsListens}
use Rattle.dr_plan_text.proofs.Listened.{IsListens-one}
use Rattle.dr_plan_text.specs.declared.words.AcceptText.{AcceptText}
use Rattle.dr_plan_text.specs.declared.words.NodeText.{NodeText}
use Rattle.dr_plan_text.specs.declared.words.FlowText.{FlowText}
use Rattle.dr_plan_text.specs.declared.words.PlanText.{PlanText}
use Rattle.dr_plan_text.specs.Fields.{SaysText, SaysFormed, SaysNumber, SaysFlag, SaysFormat, SaysPattern, SaysField, SaysExceptions, SaysValues, SaysCallers, SaysTextsOnce, SaysTable, IsListOf, IsSomeOf, GivenOr, star}
use Rattle.dr_plan_text.specs.Tables.{IsAcceptTable, IsRuleTable, IsNodeTable, IsFlowTable, IsRoot, IsFormat, FitsFormat, Writes}
use Rattle.dr_plan_text.proofs.OneAnswer.{SaysOne, SaysText-one, SaysFormed-one, IsListOf-one, IsSomeOf-one, Given-one}
use Rattle.dr_plan_text.proofs.OfValues.{SaysFormat-one, SaysField-one, SaysValues-one}

SaysNumber-one : SaysOne SaysNumber
SaysNumber-one d x y a b = let same : integer x ≡ integer y = sym a ∙ b in cc

SaysFlag-one : SaysOne SaysFlag
SaysFlag-one d x y a b = let same : boolean x ≡ boolean y = sym a ∙ b in cc

SaysPattern-one : (Says : Data → Text → Type 0) → SaysOne Says → SaysOne (SaysPattern Says)
SaysPattern-one Says one d Any Any a b = refl
SaysPattern-one Says one d Any (Literal y) a b = absurd (b.0 a)
SaysPattern-one Says one d (Literal x) Any a b = absurd (a.0 b)
SaysPattern-one Says one d (Literal x) (Literal y) a b = ap Literal (one d x y a.1 b.1)

SaysTextsOnce-one : SaysOne SaysTextsOnce
SaysTextsOnce-one d xs ys a b = IsSomeOf-one SaysText SaysText-one d xs ys a.0 b.0

SaysCallers-one : SaysOne SaysCallers
SaysCallers-one d callers.Any callers.Any a b = refl
SaysCallers-one d callers.Any (callers.Listed ys) a b = absurd (let both : star ≡ array b.0 = sym a ∙ b.1 in cc)
SaysCallers-one d (callers.Listed xs) callers.Any a b = absurd (let both : star ≡ array a.0 = sym b ∙ a.1 in cc)
SaysCallers-one d (callers.Listed xs) (callers.Listed ys) a b = ap callers.Listed (IsListOf-one SaysText SaysText-one d xs ys a b)

GivenOr-one : {X : Type 0} (default : X) (Says : Data → X → Type 0) → SaysOne Says → (field : Option Data) (x y : X) → GivenOr default Says field x → GivenOr default Says field y → x ≡ y
GivenOr-one default Says one None x y a b = a ∙ sym b
GivenOr-one default Says one (Some d) x y a b = one d x y a b

TableOne : {X : Type 0} → (Members → X → Type 0) → Type 0
TableOne {X} IsTable = (fields : Members) (x y : X) → IsTable fields x → IsTable fields y → x ≡ y

SaysTable-one : {X : Type 0} (IsTable : Members → X → Type 0) → ((fields : Members) (x y : X) → IsTable fields x → IsTable fields y → x ≡ y) → SaysOne (SaysTable IsTable)
SaysTable-one IsTable one d x y a b =
    let both : table a.0 ≡ table b.0 = sym a.1 ∙ b.1 in
    let same : a.0 ≡ b.0 = cc in
    one b.0 x y (rw same at a.2) b.2

same_accept : (from from2 : Callers) (class class2 : Text) (syntaxes syntaxes2 : List Text) → from ≡ from2 → class ≡ class2 → syntaxes ≡ syntaxes2 →
    (let x : AcceptText = record { from = from; class = class; syntaxes = syntaxes } in let y : AcceptText = record { from = from2; class = class2; syntaxes = syntaxes2 } in x ≡ y)
same_accept from from2 class class2 syntaxes syntaxes2 e_from e_class e_syntaxes = rw (e_from, e_class, e_syntaxes) refl

accept_one : (fields : Members) (x y : AcceptText) → IsAcceptTable fields x → IsAcceptTable fields y → x ≡ y
accept_one fields x y a b =
    let from = Given-one SaysCallers SaysCallers-one _ x.from y.from a.from b.from in
    let class = Given-one (SaysFormed IsClass) (SaysFormed-one IsClass) _ x.class y.class a.class b.class in
    let syntaxes = Given-one SaysTextsOnce SaysTextsOnce-one _ x.syntaxes y.syntaxes a.syntax b.syntax in
    same_accept x.from y.from x.class y.class x.syntaxes y.syntaxes from class syntaxes

same_rule : (from from2 : Pattern) (class class2 : Pattern) (modality modality2 : FieldPattern) (station station2 : FieldPattern) (except except2 : List Text) (to to2 : List Text) (keep keep2 : Bool) → from ≡ from2 → class ≡ class2 → modality ≡ modality2 → station ≡ station2 → except ≡ except2 → to ≡ to2 → keep ≡ keep2 →
    (let x : Rule = record { from = from; class = class; modality = modality; station = station; except = except; to = to; keep = keep } in let y : Rule = record { from = from2; class = class2; modality = modality2; station = station2; except = except2; to = to2; keep = keep2 } in x ≡ y)
same_rule from from2 class class2 modality modality2 station station2 except except2 to to2 keep keep2 e_from e_class e_modality e_station e_except e_to e_keep = rw (e_from, e_class, e_modality, e_station, e_except, e_to, e_keep) refl

rule_one : (fields : Members) (x y : Rule) → IsRuleTable fields x → IsRuleTable fields y → x ≡ y
rule_one fields x y a b =
    let from = GivenOr-one Any (SaysPattern SaysText) (SaysPattern-one SaysText SaysText-one) _ x.from y.from a.from b.from in
    let class = GivenOr-one Any (SaysPattern (SaysFormed IsClass)) (SaysPattern-one (SaysFormed IsClass) (SaysFormed-one IsClass)) _ x.class y.class a.class b.class in
    let modality = GivenOr-one field.Any SaysField SaysField-one _ x.modality y.modality a.modality b.modality in
    let station = GivenOr-one field.Any SaysField SaysField-one _ x.station y.station a.station b.station in
    let except = GivenOr-one [] SaysExceptions (IsSomeOf-one (SaysFormed IsLiteral) (SaysFormed-one IsLiteral)) _ x.except y.except a.except b.except in
    let to = GivenOr-one [] (IsListOf SaysText) (IsListOf-one SaysText SaysText-one) _ x.to y.to a.to b.to in
    let keep = GivenOr-one _ SaysFlag SaysFlag-one _ x.keep y.keep a.keep b.keep in
    same_rule x.from y.from x.class y.class x.modality y.modality x.station y.station x.except y.except x.to y.to x.keep y.keep from class modality station except to keep

same_node : (name name2 : Text) (listens listens2 : Listens) (max_pdu max_pdu2 : ℤ) (accepts accepts2 : List AcceptText) (rules rules2 : List Rule) → name ≡ name2 → listens ≡ listens2 → max_pdu ≡ max_pdu2 → accepts ≡ accepts2 → rules ≡ rules2 →
    (let x : NodeText = record { name = name; listens = listens; max_pdu = max_pdu; accepts = accepts; rules = rules } in let y : NodeText = record { name = name2; listens = listens2; max_pdu = max_pdu2; accepts = accepts2; rules = rules2 } in x ≡ y)
same_node name name2 listens listens2 max_pdu max_pdu2 accepts accepts2 rules rules2 e_name e_listens e_max_pdu e_accepts e_rules = rw (e_name, e_listens, e_max_pdu, e_accepts, e_rules) refl

node_one : (fields : Members) (x y : NodeText) → IsNodeTable fields x → IsNodeTable fields y → x ≡ y
node_one fields x y a b =
    let name = Given-one SaysText SaysText-one _ x.name y.name a.name b.name in
    let listens = IsListens-one false fields x.listens y.listens a.listens b.listens in
    let max_pdu = GivenOr-one _ SaysNumber SaysNumber-one _ x.max_pdu y.max_pdu a.max_pdu b.max_pdu in
    let accepts = GivenOr-one [] (IsListOf (SaysTable IsAcceptTable)) (IsListOf-one (SaysTable IsAcceptTable) (SaysTable-one IsAcceptTable accept_one)) _ x.accepts y.accepts a.accept b.accept in
    let rules = GivenOr-one [] (IsListOf (SaysTable IsRuleTable)) (IsListOf-one (SaysTable IsRuleTable) (SaysTable-one IsRuleTable rule_one)) _ x.rules y.rules a.rule b.rule in
    same_node x.name y.name x.listens y.listens x.max_pdu y.max_pdu x.accepts y.accepts x.rules y.rules name listens max_pdu accepts rules

-- where a node that listens nowhere has accept rows, the table says no node
pub no_rows : (fields : Members) (listens : Listens) (accepts : List AcceptText) → IsListens false fields listens
    → GivenOr [] (IsListOf (SaysTable IsAcceptTable)) (get_member (codes "accept") fields) accepts → (MayAccept listens accepts → ⊥) → (x : NodeText) → IsNodeTable fields x → ⊥
no_rows fields listens accepts where_it rows may_not x is =
    let same_place = IsListens-one false fields x.listens listens is.listens where_it in
    let same_rows = GivenOr-one [] (IsListOf (SaysTable IsAcceptTable)) (IsListOf-one (SaysTable IsAcceptTable) (SaysTable-one IsAcceptTable accept_one)) _ x.accepts accepts is.accept rows in
    may_not (subst (λ (l : Listens). MayAccept l accepts) same_place (subst (λ (r : List AcceptText). MayAccept x.listens r) same_rows is.may_accept))

same_flow : (at at2 : Text) (to to2 : Text) (classes classes2 : List Text) (syntaxes syntaxes2 : List Text) (modalities modalities2 : Values) (stations stations2 : Values) → at ≡ at2 → to ≡ to2 → classes ≡ classes2 → syntaxes ≡ syntaxes2 → modalities ≡ modalities2 → stations ≡ stations2 →
    (let x : FlowText = record { at = at; to = to; classes = classes; syntaxes = syntaxes; modalities = modalities; stations = stations } in let y : FlowText = record { at = at2; to = to2; classes = classes2; syntaxes = syntaxes2; modalities = modalities2; stations = stations2 } in x ≡ y)
same_flow at at2 to to2 classes classes2 syntaxes syntaxes2 modalities modalities2 stations stations2 e_at e_to e_classes e_syntaxes e_modalities e_stations = rw (e_at, e_to, e_classes, e_syntaxes, e_modalities, e_stations) refl

flow_one : (fields : Members) (x y : FlowText) → IsFlowTable fields x → IsFlowTable fields y → x ≡ y
flow_one fields x y a b =
    let at = Given-one SaysText SaysText-one _ x.at y.at a.at b.at in
    let to = Given-one SaysText SaysText-one _ x.to y.to a.to b.to in
    let classes = Given-one (IsSomeOf (SaysFormed IsClass)) (IsSomeOf-one (SaysFormed IsClass) (SaysFormed-one IsClass)) _ x.classes y.classes a.class b.class in
    let syntaxes = Given-one (IsSomeOf SaysText) (IsSomeOf-one SaysText SaysText-one) _ x.syntaxes y.syntaxes a.syntax b.syntax in
    let modalities = Given-one SaysValues SaysValues-one _ x.modalities y.modalities a.modality b.modality in
    let stations = Given-one SaysValues SaysValues-one _ x.stations y.stations a.station b.station in
    same_flow x.at y.at x.to y.to x.classes y.classes x.syntaxes y.syntaxes x.modalities y.modalities x.stations y.stations at to classes syntaxes modalities stations

pub format_one : (fields : Members) (x y : Format) → IsFormat (get_member (codes "format") fields) x → IsFormat (get_member (codes "format") fields) y → x ≡ y
format_one fields x y a b = GivenOr-one One SaysFormat SaysFormat-one (get_member (codes "format") fields) x y a b

-- the nodes that the text's root table says
abbrev pub AreNodes : Members → List NodeText → Type 0
AreNodes fields nodes = GivenOr [] (IsListOf (SaysTable IsNodeTable)) (get_member (codes "node") fields) nodes

pub nodes_one : (fields : Members) (x y : List NodeText) → AreNodes fields x → AreNodes fields y → x ≡ y
nodes_one fields x y a b =
    GivenOr-one [] (IsListOf (SaysTable IsNodeTable)) (IsListOf-one (SaysTable IsNodeTable) (SaysTable-one IsNodeTable node_one)) (get_member (codes "node") fields) x y a b

-- the flows that it says
abbrev pub AreFlows : Members → List FlowText → Type 0
AreFlows fields flows = GivenOr [] (IsListOf (SaysTable IsFlowTable)) (get_member (codes "flow") fields) flows

pub flows_one : (fields : Members) (x y : List FlowText) → AreFlows fields x → AreFlows fields y → x ≡ y
flows_one fields x y a b =
    GivenOr-one [] (IsListOf (SaysTable IsFlowTable)) (IsListOf-one (SaysTable IsFlowTable) (SaysTable-one IsFlowTable flow_one)) (get_member (codes "flow") fields) x y a b

same_root : (format format2 : Format) (nodes nodes2 : List NodeText) (flows flows2 : List FlowText) → format ≡ format2 → nodes ≡ nodes2 → flows ≡ flows2 →
    (let x : PlanText = record { format = format; nodes = nodes; flows = flows } in let y : PlanText = record { format = format2; nodes = nodes2; flows = flows2 } in x ≡ y)
same_root format format2 nodes nodes2 flows flows2 e_format e_nodes e_flows = rw (e_format, e_nodes, e_flows) refl

-- the plan whose parts the root table says, if it fits its format
parts_one : (fields : Members) (x y : PlanText) → IsFormat (get_member (codes "format") fields) x.format → AreNodes fields x.nodes → AreFlows fields x.flows → IsRoot fields y → x ≡ y
parts_one fields x y format nodes flows is =
    same_root x.format y.format x.nodes y.nodes x.flows y.flows (format_one fields x.format y.format format is.format) (nodes_one fields x.nodes y.nodes nodes is.node)
    (flows_one fields x.flows y.flows flows is.flow)

root_one : (fields : Members) (x y : PlanText) → IsRoot fields x → IsRoot fields y → x ≡ y
root_one fields x y a b = parts_one fields x y a.format a.node a.flow b

-- where the plan that was read doesn't fit its format, the text says none
pub misfit : (fields : Members) (x : PlanText) → IsFormat (get_member (codes "format") fields) x.format → AreNodes fields x.nodes → AreFlows fields x.flows → (FitsFormat x → ⊥) →
    (y : PlanText) → IsRoot fields y → ⊥
misfit fields x format nodes flows unfit y is = unfit (subst FitsFormat (sym (parts_one fields x y format nodes flows is)) is.fits)

pub one_plan : (text : Text) (a b : PlanText) → Writes text a → Writes text b → a ≡ b
one_plan text a b x y = let same : x.0 ≡ y.0 = same_Some _ _ (sym x.1.1 ∙ y.1.1) in root_one y.0 a b (rw same at x.2) y.2
