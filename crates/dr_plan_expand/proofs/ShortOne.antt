-- Tables of format 3 say one thing each, and a plan means one plan.
use Rattle.std.proofs.Common.{◌≡◌, refl, sym, ◌∙◌, ap, subst, inl, inr, List, [], ◌∷◌, Option, Some, None, flat_map, map, true, codes}
use Rattle.toml.specs.Data.{Data, string, integer, boolean, array, table, Members, no_members, member, get_member}
use Rattle.dr_base.specs.Texts.{Text}
use Rattle.dr_route.specs.declared.rule.Rule.{Rule}
use Rattle.dr_route.specs.declared.rule.Pattern.{Pattern}
use Rattle.dr_route.specs.declared.rule.Pattern.TheVariants.{Any, Literal}
use Rattle.dr_route.specs.declared.rule.FieldPattern.TheVariants as field
use Rattle.dr_route.specs.declared.accept.Callers.{Callers}
use Rattle.dr_route.specs.declared.accept.Callers.TheVariants as callers
use Rattle.dr_plan_model.specs.Listening.{MayAccept}
use Rattle.dr_plan_model.specs.declared.listens.Listens.{Listens}
use Rattle.dr_plan_text.specs.Listening.{IsListens}
use Rattle.dr_plan_text.proofs.Listened.{IsListens-one}
use Rattle.dr_plan_text.specs.declared.words.AcceptText.{AcceptText}
use Rattle.dr_plan_text.specs.declared.words.NodeText.{NodeText}
use Rattle.dr_plan_text.specs.declared.words.FlowText.{FlowText}
use Rattle.dr_plan_text.specs.declared.words.PlanText.{PlanText}
use Rattle.dr_plan_text.specs.Fields.{SaysText, SaysFormed, SaysNumber, SaysFlag, SaysField, SaysValues, SaysCallers, SaysTextsOnce, SaysTable, IsListOf, IsSomeOf, GivenOr, star}
use Rattle.dr_plan_text.proofs.OneAnswer.{SaysOne, SaysText-one, SaysFormed-one, IsListOf-one, IsSomeOf-one, Given-one}
use Rattle.dr_plan_text.proofs.OfValues.{SaysField-one, SaysValues-one}
use Rattle.dr_plan_expand.specs.Words.{IsPlainWord, YieldsClasses, YieldsNodes, YieldsSyntax}
use Rattle.dr_plan_expand.specs.Fields.{SaysWords, SaysAnyWords, SaysStations, AreDefinitions}
use Rattle.dr_plan_expand.specs.Tables.{IsShortRow, IsShortRule, IsShortNode, IsShortFlow, IsShortPlan}
use Rattle.dr_plan_expand.specs.Meanings.{Lookups, IsCallers, ArePatterns, YieldsRows, YieldsRules, YieldsNode, YieldsFlows, Means, lookups_of, row_of, rule_of, flow_of}
use Rattle.dr_plan_expand.specs.Spelling.{plan_text}
use Rattle.dr_plan_expand.specs.Expanding.{StandsFor}
use Rattle.dr_plan_expand.specs.declared.short.AnyWords.{AnyWords}
use Rattle.dr_plan_expand.specs.declared.short.AnyWords.TheVariants as any
use Rattle.dr_plan_expand.specs.declared.short.Definition.{Definition}
use Rattle.dr_plan_expand.specs.declared.short.ShortRow.{ShortRow}
use Rattle.dr_plan_expand.specs.declared.short.ShortRule.{ShortRule}
use Rattle.dr_plan_expand.specs.declared.short.ShortNode.{ShortNode}
use Rattle.dr_plan_expand.specs.declared.short.ShortFlow.{ShortFlow}
use Rattle.dr_plan_expand.specs.declared.short.ShortPlan.{ShortPlan}
use Rattle.dr_plan_expand.proofs.Yielded.{yields_one}
use Rattle.dr_plan_expand.proofs.OneMeaning.{classes_one, nodes_one, syntax_one}
use Rattle.dr_plan_expand.proofs.OneSet.{SaysStations-one}
use Rattle.dr_plan_expand.proofs.Defining.{definition_one}

SaysNumber-one : SaysOne SaysNumber
SaysNumber-one d x y a b = let same : integer x ≡ integer y = sym a ∙ b in cc

SaysFlag-one : SaysOne SaysFlag
SaysFlag-one d x y a b = let same : boolean x ≡ boolean y = sym a ∙ b in cc

SaysTextsOnce-one : SaysOne SaysTextsOnce
SaysTextsOnce-one d xs ys a b = IsSomeOf-one SaysText SaysText-one d xs ys a.0 b.0

SaysCallers-one : SaysOne SaysCallers
SaysCallers-one d callers.Any callers.Any a b = refl
SaysCallers-one d callers.Any (callers.Listed ys) a b = absurd (let both : star ≡ array b.0 = sym a ∙ b.1 in cc)
SaysCallers-one d (callers.Listed xs) callers.Any a b = absurd (let both : star ≡ array a.0 = sym b ∙ a.1 in cc)
SaysCallers-one d (callers.Listed xs) (callers.Listed ys) a b = ap callers.Listed (IsListOf-one SaysText SaysText-one d xs ys a b)

SaysWords-one : SaysOne SaysWords
SaysWords-one d xs ys a b = elim a [
  | inl x ↦ elim b [
    | inl y ↦ x.2 ∙ (ap (λ (t : Text). t ∷ []) (SaysText-one d x.0 y.0 x.1 y.1) ∙ sym y.2)
    | inr y ↦ absurd (let both : string x.0 ≡ array y.0.0 = sym x.1 ∙ y.0.1 in cc)
  ]
  | inr x ↦ elim b [
    | inl y ↦ absurd (let both : string y.0 ≡ array x.0.0 = sym y.1 ∙ x.0.1 in cc)
    | inr y ↦ IsSomeOf-one SaysText SaysText-one d xs ys x y
  ]
]

SaysAnyWords-one : SaysOne SaysAnyWords
SaysAnyWords-one d any.Any any.Any a b = refl
SaysAnyWords-one d any.Any (any.Listed ys) a b = absurd (b.0 a)
SaysAnyWords-one d (any.Listed xs) any.Any a b = absurd (a.0 b)
SaysAnyWords-one d (any.Listed xs) (any.Listed ys) a b = ap any.Listed (SaysWords-one d xs ys a.1 b.1)

GivenOr-one : {X : Type 0} (default : X) (Says : Data → X → Type 0) → SaysOne Says → (field : Option Data) (x y : X) → GivenOr default Says field x → GivenOr default Says field y → x ≡ y
GivenOr-one default Says one None x y a b = a ∙ sym b
GivenOr-one default Says one (Some d) x y a b = one d x y a b

SaysTable-one : {X : Type 0} (IsTable : Members → X → Type 0) → ((fields : Members) (x y : X) → IsTable fields x → IsTable fields y → x ≡ y) → SaysOne (SaysTable IsTable)
SaysTable-one IsTable one d x y a b =
    let both : table a.0 ≡ table b.0 = sym a.1 ∙ b.1 in
    let same : a.0 ≡ b.0 = cc in
    one b.0 x y (rw same at a.2) b.2

definitions_one : (fields : Members) (x y : List Definition) → AreDefinitions fields x → AreDefinitions fields y → x ≡ y
definitions_one no_members [] [] a b = refl
definitions_one no_members [] (y ∷ ys) a b = absurd b
definitions_one no_members (x ∷ xs) ys a b = absurd a
definitions_one (member k v rest) [] ys a b = absurd a
definitions_one (member k v rest) (x ∷ xs) [] a b = absurd b
definitions_one (member k v rest) (x ∷ xs) (y ∷ ys) a b =
    let head = definition_one k v x y a.0 b.0 in
    let tail = definitions_one rest xs ys a.1 b.1 in
    λ i. head i ∷ tail i

row_one : (fields : Members) (x y : ShortRow) → IsShortRow fields x → IsShortRow fields y → x ≡ y
row_one fields x y a b =
    let from = Given-one SaysCallers SaysCallers-one _ x.from y.from a.from b.from in
    let classes = Given-one SaysWords SaysWords-one _ x.classes y.classes a.class b.class in
    let syntaxes = Given-one SaysTextsOnce SaysTextsOnce-one _ x.syntaxes y.syntaxes a.syntax b.syntax in
    λ i. record { from = from i; classes = classes i; syntaxes = syntaxes i }

rule_one : (fields : Members) (x y : ShortRule) → IsShortRule fields x → IsShortRule fields y → x ≡ y
rule_one fields x y a b =
    let from = GivenOr-one any.Any SaysAnyWords SaysAnyWords-one _ x.from y.from a.from b.from in
    let classes = GivenOr-one any.Any SaysAnyWords SaysAnyWords-one _ x.classes y.classes a.class b.class in
    let modality = GivenOr-one field.Any SaysField SaysField-one _ x.modality y.modality a.modality b.modality in
    let station = GivenOr-one field.Any SaysField SaysField-one _ x.station y.station a.station b.station in
    let except = GivenOr-one [] SaysStations SaysStations-one _ x.except y.except a.except b.except in
    let to = GivenOr-one [] (IsListOf SaysText) (IsListOf-one SaysText SaysText-one) _ x.to y.to a.to b.to in
    let keep = GivenOr-one _ SaysFlag SaysFlag-one _ x.keep y.keep a.keep b.keep in
    λ i. record { from = from i; classes = classes i; modality = modality i; station = station i; except = except i; to = to i; keep = keep i }

node_one : (fields : Members) (x y : ShortNode) → IsShortNode fields x → IsShortNode fields y → x ≡ y
node_one fields x y a b =
    let name = Given-one (SaysFormed IsPlainWord) (SaysFormed-one IsPlainWord) _ x.name y.name a.name b.name in
    let listens = IsListens-one true fields x.listens y.listens a.listens b.listens in
    let max_pdu = GivenOr-one _ SaysNumber SaysNumber-one _ x.max_pdu y.max_pdu a.max_pdu b.max_pdu in
    let accepts = GivenOr-one [] (IsListOf (SaysTable IsShortRow)) (IsListOf-one (SaysTable IsShortRow) (SaysTable-one IsShortRow row_one)) _ x.accepts y.accepts a.accept b.accept in
    let rules = GivenOr-one [] (IsListOf (SaysTable IsShortRule)) (IsListOf-one (SaysTable IsShortRule) (SaysTable-one IsShortRule rule_one)) _ x.rules y.rules a.rule b.rule in
    λ i. record { name = name i; listens = listens i; max_pdu = max_pdu i; accepts = accepts i; rules = rules i }

-- where a node that listens nowhere has accept rows, the table says no node
pub no_rows : (fields : Members) (listens : Listens) (accepts : List ShortRow) → IsListens true fields listens
    → GivenOr [] (IsListOf (SaysTable IsShortRow)) (get_member (codes "accept") fields) accepts → (MayAccept listens accepts → ⊥) → (x : ShortNode) → IsShortNode fields x → ⊥
no_rows fields listens accepts where_it rows may_not x is =
    let same_place = IsListens-one true fields x.listens listens is.listens where_it in
    let same_rows = GivenOr-one [] (IsListOf (SaysTable IsShortRow)) (IsListOf-one (SaysTable IsShortRow) (SaysTable-one IsShortRow row_one)) _ x.accepts accepts is.accept rows in
    may_not (subst (λ (l : Listens). MayAccept l accepts) same_place (subst (λ (r : List ShortRow). MayAccept x.listens r) same_rows is.may_accept))

flow_one : (fields : Members) (x y : ShortFlow) → IsShortFlow fields x → IsShortFlow fields y → x ≡ y
flow_one fields x y a b =
    let at = Given-one SaysWords SaysWords-one _ x.at y.at a.at b.at in
    let to = Given-one SaysWords SaysWords-one _ x.to y.to a.to b.to in
    let classes = Given-one SaysWords SaysWords-one _ x.classes y.classes a.class b.class in
    let syntaxes = Given-one (IsSomeOf SaysText) (IsSomeOf-one SaysText SaysText-one) _ x.syntaxes y.syntaxes a.syntax b.syntax in
    let modalities = Given-one SaysValues SaysValues-one _ x.modalities y.modalities a.modality b.modality in
    let stations = Given-one SaysValues SaysValues-one _ x.stations y.stations a.station b.station in
    λ i. record { at = at i; to = to i; classes = classes i; syntaxes = syntaxes i; modalities = modalities i; stations = stations i }

pub short_one : (fields : Members) (x y : ShortPlan) → IsShortPlan fields x → IsShortPlan fields y → x ≡ y
short_one fields x y a b =
    let sets = GivenOr-one [] (SaysTable AreDefinitions) (SaysTable-one AreDefinitions definitions_one) _ x.sets y.sets a.set b.set in
    let groups = GivenOr-one [] (SaysTable AreDefinitions) (SaysTable-one AreDefinitions definitions_one) _ x.groups y.groups a.group b.group in
    let nodes = GivenOr-one [] (IsListOf (SaysTable IsShortNode)) (IsListOf-one (SaysTable IsShortNode) (SaysTable-one IsShortNode node_one)) _ x.nodes y.nodes a.node b.node in
    let flows = GivenOr-one [] (IsListOf (SaysTable IsShortFlow)) (IsListOf-one (SaysTable IsShortFlow) (SaysTable-one IsShortFlow flow_one)) _ x.flows y.flows a.flow b.flow in
    λ i. record { sets = sets i; groups = groups i; nodes = nodes i; flows = flows i }

callers_one : (groups : List Definition) (from x y : Callers) → IsCallers groups from x → IsCallers groups from y → x ≡ y
callers_one groups callers.Any x y a b = a ∙ sym b
callers_one groups (callers.Listed words) x y a b = a.2 ∙ (ap callers.Listed (yields_one (YieldsNodes groups) (nodes_one groups) words a.0 b.0 a.1 b.1) ∙ sym b.2)

patterns_one : (Of : Text → List Text → Type 0) → ((w : Text) (a b : List Text) → Of w a → Of w b → a ≡ b) → (words : AnyWords) (x y : List Pattern) → ArePatterns Of words x → ArePatterns Of words y → x ≡ y
patterns_one Of one any.Any x y a b = a ∙ sym b
patterns_one Of one (any.Listed words) x y a b = a.2 ∙ (ap (map Literal) (yields_one Of one words a.0 b.0 a.1 b.1) ∙ sym b.2)

module _ (l : Lookups) where
  rows_one : (row : ShortRow) (x y : List AcceptText) → YieldsRows l row x → YieldsRows l row y → x ≡ y
  rows_one row x y a b =
      let from = callers_one l.groups row.from a.from b.from a.each_caller b.each_caller in
      let classes = yields_one (YieldsClasses l.classes l.usual l.sets) (classes_one l.classes l.usual l.sets) row.classes a.classes b.classes a.each_class b.each_class in
      let syntaxes = yields_one (YieldsSyntax l.syntaxes) (syntax_one l.syntaxes) row.syntaxes a.syntaxes b.syntaxes a.each_syntax b.each_syntax in
      a.are ∙ ((λ i. map (row_of (from i) (syntaxes i)) (classes i)) ∙ sym b.are)

  rules_one : (rule : ShortRule) (x y : List Rule) → YieldsRules l rule x → YieldsRules l rule y → x ≡ y
  rules_one rule x y a b =
      let froms = patterns_one (YieldsNodes l.groups) (nodes_one l.groups) rule.from a.froms b.froms a.each_caller b.each_caller in
      let classes = patterns_one (YieldsClasses l.classes l.usual l.sets) (classes_one l.classes l.usual l.sets) rule.classes a.classes b.classes a.each_class b.each_class in
      let to = yields_one (YieldsNodes l.groups) (nodes_one l.groups) rule.to a.to b.to a.each_target b.each_target in
      a.are ∙ ((λ i. flat_map (λ from. map (rule_of rule (to i) from) (classes i)) (froms i)) ∙ sym b.are)

  whole_one : (node : ShortNode) (x y : List NodeText) → YieldsNode l node x → YieldsNode l node y → x ≡ y
  whole_one node x y a b =
      let accepts = yields_one (YieldsRows l) rows_one node.accepts a.accepts b.accepts a.each_row b.each_row in
      let rules = yields_one (YieldsRules l) rules_one node.rules a.rules b.rules a.each_rule b.each_rule in
      a.are ∙ ((λ i. record { name = node.name; listens = node.listens; max_pdu = node.max_pdu; accepts = accepts i; rules = rules i } ∷ []) ∙ sym b.are)

  flows_one : (flow : ShortFlow) (x y : List FlowText) → YieldsFlows l flow x → YieldsFlows l flow y → x ≡ y
  flows_one flow x y a b =
      let ats = yields_one (YieldsNodes l.groups) (nodes_one l.groups) flow.at a.ats b.ats a.each_at b.each_at in
      let tos = yields_one (YieldsNodes l.groups) (nodes_one l.groups) flow.to a.tos b.tos a.each_to b.each_to in
      let classes = yields_one (YieldsClasses l.classes l.usual l.sets) (classes_one l.classes l.usual l.sets) flow.classes a.classes b.classes a.each_class b.each_class in
      let syntaxes = yields_one (YieldsSyntax l.syntaxes) (syntax_one l.syntaxes) flow.syntaxes a.syntaxes b.syntaxes a.each_syntax b.each_syntax in
      a.are ∙ ((λ i. flat_map (λ at. map (flow_of flow (classes i) (syntaxes i) at) (tos i)) (ats i)) ∙ sym b.are)

pub means_one : (short : ShortPlan) (x y : PlanText) → Means short x → Means short y → x ≡ y
means_one short x y a b =
    let l = lookups_of short in
    let nodes = yields_one (YieldsNode l) (whole_one l) short.nodes x.nodes y.nodes a.nodes b.nodes in
    let flows = yields_one (YieldsFlows l) (flows_one l) short.flows x.flows y.flows a.flows b.flows in
    let format = a.format ∙ sym b.format in
    λ i. record { format = format i; nodes = nodes i; flows = flows i }

pub stands_one : (root : Members) (x y : Text) → StandsFor root x → StandsFor root y → x ≡ y
stands_one root x y a b =
    let short = short_one root a.short b.short a.says b.says in
    let P : ShortPlan → Type 0 = λ s. Means s a.plan in
    a.is ∙ (ap plan_text (means_one b.short a.plan b.plan (subst P short a.means) b.means) ∙ sym b.is)
