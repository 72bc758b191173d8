-- Laws of expansions, and small words.
use Rattle.std.specs.Prelude.{◌≡◌, ◌≢◌, ℕ, ◌+◌, ◌<◌, ◌≤◌, List, [], ◌∷◌, codes, length, replicate}
use Rattle.std.specs.Prelude.{sum_by, map, flat_map}
use Rattle.toml.specs.Data.{Members}
use Rattle.dr_base.specs.Texts.{Text}
use Rattle.dr_plan_expand.specs.Lists.{Yields}
use Rattle.dr_plan_expand.specs.Standard.{class_tables, usual_tables}
use Rattle.dr_plan_expand.specs.Words.{Known, YieldsNodes, YieldsOfSet}
use Rattle.dr_route.specs.declared.accept.Callers.{Callers}
use Rattle.dr_route.specs.declared.accept.Callers.TheVariants as callers
use Rattle.dr_route.specs.declared.rule.Rule.{Rule}
use Rattle.dr_plan_model.specs.declared.plan.Values.{Values}
use Rattle.dr_plan_model.specs.declared.plan.Values.TheVariants as values
use Rattle.dr_plan_text.specs.declared.words.AcceptText.{AcceptText}
use Rattle.dr_plan_text.specs.declared.words.NodeText.{NodeText}
use Rattle.dr_plan_text.specs.declared.words.FlowText.{FlowText}
use Rattle.dr_plan_text.specs.declared.words.PlanText.{PlanText}
use Rattle.dr_plan_expand.specs.Meanings.{Means}
use Rattle.dr_plan_expand.specs.Amounts.{most, list_amount, word_nodes, words_size, IsWithin}
use Rattle.dr_plan_expand.specs.Small.{scanners}
use Rattle.dr_plan_expand.specs.declared.short.ShortPlan.{ShortPlan}
use Rattle.dr_plan_expand.specs.Expanding.{Expands, ExpandsTo, Fails}
use Rattle.dr_plan_expand.specs.declared.fault.ExpandFault.{ExpandFault}
use Rattle.dr_plan_expand.specs.declared.fault.ExpandFault.TheVariants.{Memory}

-- a text expands to one text at most
abbrev pub EachTextExpandsToOne : Type 0
EachTextExpandsToOne = (text a b : Text) → Expands text a → Expands text b → a ≡ b

-- what a text expands to is its own expansion
abbrev pub ExpansionsAreTheirOwn : Type 0
ExpansionsAreTheirOwn = (text core : Text) → Expands text core → Expands core core

-- want of memory aside, no text expands and fails
abbrev pub NoneExpandsAndFails : Type 0
NoneExpandsAndFails =
    (root : Members) (core : Text) (fault : ExpandFault)
    → ExpandsTo root core → Fails root fault → fault ≢ Memory → ⊥

-- of all faults of a text, one is told
abbrev pub OneExpandFaultIsTold : Type 0
OneExpandFaultIsTold =
    (root : Members) (a b : ExpandFault)
    → Fails root a → Fails root b → a ≢ Memory → b ≢ Memory → a ≡ b

-- the name of a node stands for that node
abbrev pub NodeStandsForItself : Type 0
NodeStandsForItself = YieldsNodes [] (codes "CT1") (codes "CT1" ∷ [])

-- a group that nobody defines stands for none
abbrev pub StrangeGroupStandsForNone : Type 0
StrangeGroupStandsForNone = (names : List Text) → YieldsNodes [] (codes "@all") names → ⊥

-- how many words stand for callers, and for the values of a flow: one for any
abbrev pub callers_count : Callers → ℕ
callers_count callers.Any = 1
callers_count (callers.Listed names) = length names

abbrev pub values_count : Values → ℕ
values_count values.Any = 1
values_count (values.Listed own) = length own.literals + length own.prefixes

-- how many words stand in a row, a rule, a node and a flow, with one for the table itself
abbrev pub row_words : AcceptText → ℕ
row_words row = 1 + (callers_count row.from + length row.syntaxes)

abbrev pub rule_words : Rule → ℕ
rule_words rule = 1 + (length rule.except + length rule.to)

abbrev pub node_words : NodeText → ℕ
node_words node = 1 + (sum_by row_words node.accepts + sum_by rule_words node.rules)

abbrev pub flow_words : FlowText → ℕ
flow_words flow =
    1 + (length flow.classes + length flow.syntaxes
    + values_count flow.modalities
    + values_count flow.stations)

abbrev pub plan_words : PlanText → ℕ
plan_words plan = sum_by node_words plan.nodes + sum_by flow_words plan.flows

-- a plan that stands for no more than one may means one with no more words
abbrev pub MeaningsAreBounded : Type 0
MeaningsAreBounded =
    (short : ShortPlan) (plan : PlanText)
    → Means short plan → IsWithin short → plan_words plan ≤ most

-- no text is without an answer: it expands, or it fails otherwise than for want of memory
abbrev pub EachTextHasAnAnswer : Type 0
EachTextHasAnAnswer =
    (root : Members)
    → ((core : Text) → ExpandsTo root core → ⊥)
    → ((fault : ExpandFault) → fault ≢ Memory → Fails root fault → ⊥)
    → ⊥

-- a group of two nodes with a node beside it counts for three
abbrev pub GroupCountsItsNodes : Type 0
GroupCountsItsNodes =
    words_size (word_nodes (scanners ∷ [])) (codes "@scanners" ∷ codes "MR1" ∷ []) ≡ 3

-- a group that nobody defines counts for one
abbrev pub StrangerCountsForOne : Type 0
StrangerCountsForOne = word_nodes [] (codes "@scanners") ≡ 1

-- and so does the word without a byte
abbrev pub EmptyWordCountsForOne : Type 0
EmptyWordCountsForOne = word_nodes [] [] ≡ 1

-- a word of 129 bytes is more than a plan may stand for
abbrev pub LongWordIsTooMuch : Type 0
LongWordIsTooMuch = most < word_nodes [] (replicate 129 65)

-- and so is a list of 1,025, where one of 1,024 is that many
abbrev pub LongListIsTooMuch : Type 0
LongListIsTooMuch = (list_amount 1024 ≡ 1024) × (most < list_amount 1025)

-- a list of 1,025 words is too much too, whatever its words are
abbrev pub ListOfManyWordsIsTooMuch : Type 0
ListOfManyWordsIsTooMuch =
    (size : Text → ℕ) (words : List Text)
    → 1024 < sum_by size words → most < words_size size words

-- the product's set of all storage classes is every class of the tables, in their order
abbrev pub every_class : List Text
every_class = flat_map (map (λ (known : Known). known.2)) class_tables

abbrev pub AllStorageIsEveryClass : Type 0
AllStorageIsEveryClass =
    Yields (Yields (YieldsOfSet (codes "all-storage"))) usual_tables every_class
