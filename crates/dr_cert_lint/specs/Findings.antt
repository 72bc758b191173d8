-- What is sound in a plan and still looks wrong.
use Rattle.std.specs.Prelude.{◌≡◌, ℕ, ◌-◌, List, [], ◌∷◌, ◌++◌, codes, decimal, take, Contains}
use Rattle.std.specs.Borrow.{Bor}
use Rattle.dr_base.specs.Texts.{Text}
use Rattle.dr_base.specs.Syntaxes.{syntax_uid}
use Rattle.dr_base.specs.declared.syntax.Syntax.{Syntax}
use Rattle.dr_base.specs.declared.syntax.Syntax.TheVariants.{Implicit, Explicit}
use Rattle.dr_route.specs.Routes.{local, Holds, Takes}
use Rattle.dr_route.specs.declared.accept.AcceptRow.{AcceptRow}
use Rattle.dr_route.specs.declared.key.Key.{Key}
use Rattle.dr_route.specs.declared.rule.Rule.{Rule}
use Rattle.dr_plan_model.specs.Networks.{Network}
use Rattle.dr_plan_model.specs.Walks.{IsReached}
use Rattle.dr_plan_model.specs.declared.plan.Flow.{Flow}
use Rattle.dr_plan_model.specs.declared.plan.Node.{Node}
use Rattle.dr_cert_lint.specs.Bringing.{BringsClass, BringsIn, IsAgain}
use Rattle.dr_cert_lint.specs.Texts.{RowIf, AreRows}

-- no key comes to the node
abbrev pub IsUnreached : Network → Node → Type 0
IsUnreached plan node = (key : Key) (caller : Text) → IsReached plan key caller node.name → ⊥

-- nothing that comes to the node from another one is taken by the accept row
abbrev pub IsUnused : Network → Node → AcceptRow → Type 0
IsUnused plan node row =
    (key : Key) (caller : Text)
    → IsReached plan key caller node.name
    → (caller ≡ local → ⊥)
    → Takes row caller key.class key.syntax
    → ⊥

-- the rule holds for nothing that comes to the node
abbrev pub IsIdle : Network → Node → Rule → Type 0
IsIdle plan node rule =
    (key : Key) (caller : Text) → IsReached plan key caller node.name → Holds rule caller key → ⊥

-- the accept row takes its class in that transfer syntax, and some flow brings the class, but none
-- in that syntax
abbrev pub IsUnbrought : List Flow → AcceptRow → Syntax → Type 0
IsUnbrought flows row syntax =
    (Contains row.syntaxes syntax × BringsClass flows row.class)
    × (BringsIn flows row.class syntax → ⊥)

-- ---- the lines: fields joined by one tab

-- of a node to which nothing comes: `node` and its title
abbrev pub whole_row : Node → Text
whole_row node = codes "node" ++ (9 ∷ node.name) ++ (10 ∷ [])

-- of an accept row by which nothing is taken: `accept`, the node, the row's number, and its class
abbrev pub unused_row : Node → ℕ → AcceptRow → Text
unused_row node number row =
    codes "accept" ++ (9 ∷ node.name) ++ (9 ∷ decimal number) ++ (9 ∷ row.class) ++ (10 ∷ [])

-- of a transfer syntax in which nothing is brought: `syntax`, the node, the row's number, its
-- class, and the syntax
abbrev pub syntax_row : Node → ℕ → AcceptRow → Syntax → Text
syntax_row node number row syntax =
    codes "syntax" ++ (9 ∷ node.name) ++ (9 ∷ decimal number) ++ (9 ∷ row.class)
    ++ (9 ∷ syntax_uid syntax) ++ (10 ∷ [])

-- of a rule that holds for nothing: `rule`, the node, and the rule's number
abbrev pub rule_row : Node → ℕ → Text
rule_row node number = codes "rule" ++ (9 ∷ node.name) ++ (9 ∷ decimal number) ++ (10 ∷ [])

-- of a flow that was given before: `flow`, its number, where it is, and where it goes
abbrev pub flow_row : ℕ → Flow → Text
flow_row number flow =
    codes "flow" ++ (9 ∷ decimal number) ++ (9 ∷ flow.at) ++ (9 ∷ flow.to) ++ (10 ∷ [])

-- of a node: whether nothing comes there
abbrev pub IsWholeText : Network → Node → Text → Type 0
IsWholeText plan node text = RowIf (IsUnreached plan node) (whole_row node) text

-- of an accept row: whether nothing is taken by it
abbrev pub IsUnusedText : Network → Node → ℕ → AcceptRow → Text → Type 0
IsUnusedText plan node number row text =
    RowIf (IsUnused plan node row) (unused_row node number row) text

-- of an accept row and a transfer syntax: whether the row takes it in vain
abbrev pub IsSyntaxText : List Flow → Node → ℕ → AcceptRow → Syntax → Text → Type 0
IsSyntaxText flows node number row syntax text =
    RowIf (IsUnbrought flows row syntax) (syntax_row node number row syntax) text

-- of an accept row, by its number: whether it is unused, and then in which of the two transfer
-- syntaxes nothing comes
abbrev pub IsAcceptText : Network → Node → ℕ → AcceptRow → Text → Type 0
IsAcceptText plan node number row text =
    (unused implicit explicit : Text)
    × IsUnusedText plan node number row unused
    × IsSyntaxText plan.flows node number row Implicit implicit
    × IsSyntaxText plan.flows node number row Explicit explicit
    × (text ≡ unused ++ implicit ++ explicit)

-- of a rule: whether it holds for nothing
abbrev pub IsRuleText : Network → Node → ℕ → Rule → Text → Type 0
IsRuleText plan node number rule text = RowIf (IsIdle plan node rule) (rule_row node number) text

-- of a node: whether nothing comes there, then its accept rows, then its rules, each numbered from
-- 1
abbrev pub IsNodeText : Network → Node → Text → Type 0
IsNodeText plan node text =
    (whole accepts rules : Text)
    × IsWholeText plan node whole
    × AreRows (IsAcceptText plan node) 1 node.accepts accepts
    × AreRows (IsRuleText plan node) 1 node.rules rules
    × (text ≡ whole ++ accepts ++ rules)

-- of a flow: whether it stands among those before it
abbrev pub IsFlowText : List Flow → ℕ → Flow → Text → Type 0
IsFlowText before number flow text = RowIf (IsAgain before flow) (flow_row number flow) text

-- All that is sound and still looks wrong, in the order of the plan: of each node, and then of each
-- flow. There is a line for each such thing, and no other.
abbrev pub IsLintText : Network → Text → Type 0
IsLintText plan text =
    (nodes flows : Text)
    × AreRows (λ number. IsNodeText plan) 1 plan.nodes nodes
    × AreRows (λ number. IsFlowText (take (number - 1) plan.flows) number) 1 plan.flows flows
    × (text ≡ nodes ++ flows)
