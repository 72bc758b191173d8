-- How much a plan of format 3 stands for, as it is counted before anything is made of it.
use Rattle.std.specs.Prelude.{ℕ, ◌+◌, ◌*◌, ◌≤◌, List, [], ◌∷◌, length, sum_by, cond, nat_eq}
use Rattle.std.specs.Prelude.{nat_le}
use Rattle.std.specs.Str.{bytes_eq}
use Rattle.dr_base.specs.Texts.{Text}
use Rattle.dr_route.specs.declared.accept.Callers.{Callers}
use Rattle.dr_route.specs.declared.accept.Callers.TheVariants as callers
use Rattle.dr_plan_model.specs.declared.plan.Values.{Values}
use Rattle.dr_plan_model.specs.declared.plan.Values.TheVariants as values
use Rattle.dr_plan_expand.specs.Words.{OfSet}
use Rattle.dr_plan_expand.specs.Meanings.{Lookups, lookups_of}
use Rattle.dr_plan_expand.specs.declared.short.AnyWords.{AnyWords}
use Rattle.dr_plan_expand.specs.declared.short.AnyWords.TheVariants as any
use Rattle.dr_plan_expand.specs.declared.short.Definition.{Definition}
use Rattle.dr_plan_expand.specs.declared.short.ShortRow.{ShortRow}
use Rattle.dr_plan_expand.specs.declared.short.ShortRule.{ShortRule}
use Rattle.dr_plan_expand.specs.declared.short.ShortNode.{ShortNode}
use Rattle.dr_plan_expand.specs.declared.short.ShortFlow.{ShortFlow}
use Rattle.dr_plan_expand.specs.declared.short.ShortPlan.{ShortPlan}

-- the most that a plan may stand for, and one more
abbrev pub most : ℕ
most = 262144

abbrev pub too_much : ℕ
too_much = 262145

-- the number of a list: above 1,024 it is too much
abbrev pub list_amount : ℕ → ℕ
list_amount n = cond (nat_le n 1024) n too_much

-- how many words the first definition of this name has; without one, the number that is given
abbrev pub defined_size : List Definition → Text → ℕ → ℕ
defined_size [] name other = other
defined_size (definition ∷ more) name other =
    cond (bytes_eq definition.name name) (length definition.words) (defined_size more name other)

-- how many of the classes are of the set of this name
abbrev pub one_if_in : Text → OfSet → ℕ
one_if_in set class = cond (bytes_eq class.0 set) 1 0

abbrev pub usual_size : List (List OfSet) → Text → ℕ
usual_size usual set = list_amount (sum_by (sum_by (one_if_in set)) usual)

-- for how many a word stands: for as many as its name where it begins with `@`, else for one
abbrev pub marked_size : (Text → ℕ) → Text → ℕ
marked_size named [] = 1
marked_size named (byte ∷ name) = cond (nat_eq byte 64) (named name) 1

-- the same; a word of more than 128 bytes is too much
abbrev pub word_size : (Text → ℕ) → Text → ℕ
word_size named word = cond (nat_le (length word) 128) (marked_size named word) too_much

-- for how many nodes a word stands, and for how many classes; one that nobody defines counts too
abbrev pub word_nodes : List Definition → Text → ℕ
word_nodes groups = word_size (λ name. defined_size groups name 1)

abbrev pub word_classes : List (List OfSet) → List Definition → Text → ℕ
word_classes usual sets = word_size (λ name. defined_size sets name (usual_size usual name))

-- for how many a list of words stands
abbrev pub words_size : (Text → ℕ) → List Text → ℕ
words_size size words = list_amount (sum_by size words)

-- the same of the callers of a row, and of a field of a rule
abbrev pub callers_size : List Definition → Callers → ℕ
callers_size groups callers.Any = 1
callers_size groups (callers.Listed words) = words_size (word_nodes groups) words

abbrev pub any_size : (Text → ℕ) → AnyWords → ℕ
any_size size any.Any = 1
any_size size (any.Listed words) = words_size size words

-- how many modalities, or how many stations, a flow lists
abbrev pub values_size : Values → ℕ
values_size values.Any = 1
values_size (values.Listed own) =
    list_amount (length own.literals) + list_amount (length own.prefixes)

-- a row: one for each class, and each with its callers and transfer syntaxes
abbrev pub row_size : Lookups → ShortRow → ℕ
row_size l row =
    words_size (word_classes l.usual l.sets) row.classes
    * (1 + (callers_size l.groups row.from + words_size (word_nodes []) row.syntaxes))

-- a rule: one for each caller and class, and each with its exceptions and its targets
abbrev pub rule_size : Lookups → ShortRule → ℕ
rule_size l rule =
    any_size (word_nodes l.groups) rule.from
    * any_size (word_classes l.usual l.sets) rule.classes
    * (1 + (list_amount (length rule.except) + words_size (word_nodes l.groups) rule.to))

-- a node, with its rows and rules
abbrev pub node_size : Lookups → ShortNode → ℕ
node_size l node =
    1 + (sum_by (row_size l) node.accepts + sum_by (rule_size l) node.rules)

-- the lists that each flow has of those for which one stands
abbrev pub lists_size : Lookups → ShortFlow → ℕ
lists_size l flow =
    1 + (words_size (word_classes l.usual l.sets) flow.classes
    + words_size (word_nodes []) flow.syntaxes
    + values_size flow.modalities
    + values_size flow.stations)

-- a flow: one for each node where it enters and each to which it goes, and each with its lists
abbrev pub flow_size : Lookups → ShortFlow → ℕ
flow_size l flow =
    words_size (word_nodes l.groups) flow.at
    * words_size (word_nodes l.groups) flow.to
    * lists_size l flow

-- a definition: its words
abbrev pub definition_size : Definition → ℕ
definition_size definition = words_size (word_nodes []) definition.words

-- how many definitions there are, and their words
abbrev pub definitions_size : List Definition → ℕ
definitions_size definitions = list_amount (length definitions) + sum_by definition_size definitions

-- all of a plan
abbrev pub plan_size : Lookups → ShortPlan → ℕ
plan_size l short =
    definitions_size short.sets
    + (definitions_size short.groups
    + (sum_by (node_size l) short.nodes + sum_by (flow_size l) short.flows))

-- the plan stands for no more than a plan may
abbrev pub IsWithin : ShortPlan → Type 0
IsWithin short = plan_size (lookups_of short) short ≤ most
