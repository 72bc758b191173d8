-- A text has one answer.
use Rattle.std.proofs.Common.{◌≡◌, ◌≢◌, ℕ, pos, ◌⊎◌, inl, inr, refl, sym, ◌∙◌, ap, subst, Ok, Err, List, [], ◌∷◌, map, length, arith}
use Rattle.std.specs.Prelude.{Result}
use Rattle.sha2.specs.Sha256.{sha256}
use Rattle.dr_base.specs.Texts.{Text}
use Rattle.dr_base.specs.Syntaxes.{syntax_uid}
use Rattle.dr_base.specs.declared.syntax.Syntax.{Syntax}
use Rattle.dr_base.specs.declared.syntax.Syntax.TheVariants.{Implicit, Explicit}
use Rattle.dr_route.specs.declared.accept.Callers.{Callers}
use Rattle.dr_route.specs.declared.accept.AcceptRow.{AcceptRow}
use Rattle.dr_route.specs.declared.rule.Rule.{Rule}
use Rattle.dr_plan_model.specs.declared.plan.Node.{Node}
use Rattle.dr_plan_model.specs.declared.listens.Listens.{Listens}
use Rattle.dr_plan_model.specs.declared.plan.Flow.{Flow}
use Rattle.dr_plan_model.specs.declared.plan.Values.{Values}
use Rattle.dr_plan_model.specs.declared.plan.Format.{Format}
use Rattle.dr_plan_model.specs.Networks.{Network}
use Rattle.dr_plan_text.specs.declared.words.AcceptText.{AcceptText}
use Rattle.dr_plan_text.specs.declared.words.NodeText.{NodeText}
use Rattle.dr_plan_text.specs.declared.words.FlowText.{FlowText}
use Rattle.dr_plan_text.specs.declared.words.PlanText.{PlanText}
use Rattle.dr_plan_text.specs.Tables.{IsToml, Writes}
use Rattle.dr_plan_text.proofs.OnePlan.{one_plan}
use Rattle.dr_plan_core.specs.declared.fault.PlanFault.{PlanFault}
use Rattle.dr_plan_core.specs.declared.fault.PlanFault.TheVariants as fault
use Rattle.dr_plan_core.specs.Spelling.{written_row, written_node, written_flow, written_plan}
use Rattle.dr_plan_core.specs.Reading.{Passes, ReadsCore}

-- a plan passes, or has one first fault
passes_once : (plan : PlanText) (r s : Result (Unit {0}) PlanFault) → r ≢ Err fault.Memory → s ≢ Err fault.Memory → Passes plan r → Passes plan s → r ≡ s
passes_once plan (Err fault.NotToml) s m n a b = absurd a
passes_once plan (Err fault.Field) s m n a b = absurd a
passes_once plan (Err fault.Memory) s m n a b = absurd (m refl)
passes_once plan (Err fault.UnknownName) s m n a b = absurd a
passes_once plan r (Err fault.NotToml) m n a b = absurd b
passes_once plan r (Err fault.Field) m n a b = absurd b
passes_once plan r (Err fault.Memory) m n a b = absurd (n refl)
passes_once plan r (Err fault.UnknownName) m n a b = absurd b
passes_once plan (Ok u) (Ok v) m n a b = refl
passes_once plan (Ok u) (Err fault.Syntax) m n a b = absurd (b a.0)
passes_once plan (Ok u) (Err fault.Name) m n a b = absurd (b.1 a.1)
passes_once plan (Ok u) (Err fault.Limit) m n a b = absurd (b.2 a.2)
passes_once plan (Ok u) (Err fault.UnknownNode) m n a b = absurd (b.3 a.3)
passes_once plan (Ok u) (Err fault.SelfRoute) m n a b = absurd (b.4 a.4)
passes_once plan (Err fault.Syntax) (Ok v) m n a b = absurd (a b.0)
passes_once plan (Err fault.Syntax) (Err fault.Syntax) m n a b = refl
passes_once plan (Err fault.Syntax) (Err fault.Name) m n a b = absurd (a b.0)
passes_once plan (Err fault.Syntax) (Err fault.Limit) m n a b = absurd (a b.0)
passes_once plan (Err fault.Syntax) (Err fault.UnknownNode) m n a b = absurd (a b.0)
passes_once plan (Err fault.Syntax) (Err fault.SelfRoute) m n a b = absurd (a b.0)
passes_once plan (Err fault.Name) (Ok v) m n a b = absurd (a.1 b.1)
passes_once plan (Err fault.Name) (Err fault.Syntax) m n a b = absurd (b a.0)
passes_once plan (Err fault.Name) (Err fault.Name) m n a b = refl
passes_once plan (Err fault.Name) (Err fault.Limit) m n a b = absurd (a.1 b.1)
passes_once plan (Err fault.Name) (Err fault.UnknownNode) m n a b = absurd (a.1 b.1)
passes_once plan (Err fault.Name) (Err fault.SelfRoute) m n a b = absurd (a.1 b.1)
passes_once plan (Err fault.Limit) (Ok v) m n a b = absurd (a.2 b.2)
passes_once plan (Err fault.Limit) (Err fault.Syntax) m n a b = absurd (b a.0)
passes_once plan (Err fault.Limit) (Err fault.Name) m n a b = absurd (b.1 a.1)
passes_once plan (Err fault.Limit) (Err fault.Limit) m n a b = refl
passes_once plan (Err fault.Limit) (Err fault.UnknownNode) m n a b = absurd (a.2 b.2)
passes_once plan (Err fault.Limit) (Err fault.SelfRoute) m n a b = absurd (a.2 b.2)
passes_once plan (Err fault.UnknownNode) (Ok v) m n a b = absurd (a.3 b.3)
passes_once plan (Err fault.UnknownNode) (Err fault.Syntax) m n a b = absurd (b a.0)
passes_once plan (Err fault.UnknownNode) (Err fault.Name) m n a b = absurd (b.1 a.1)
passes_once plan (Err fault.UnknownNode) (Err fault.Limit) m n a b = absurd (b.2 a.2)
passes_once plan (Err fault.UnknownNode) (Err fault.UnknownNode) m n a b = refl
passes_once plan (Err fault.UnknownNode) (Err fault.SelfRoute) m n a b = absurd (a.3 b.3)
passes_once plan (Err fault.SelfRoute) (Ok v) m n a b = absurd (a.4 b.4)
passes_once plan (Err fault.SelfRoute) (Err fault.Syntax) m n a b = absurd (b a.0)
passes_once plan (Err fault.SelfRoute) (Err fault.Name) m n a b = absurd (b.1 a.1)
passes_once plan (Err fault.SelfRoute) (Err fault.Limit) m n a b = absurd (b.2 a.2)
passes_once plan (Err fault.SelfRoute) (Err fault.UnknownNode) m n a b = absurd (b.3 a.3)
passes_once plan (Err fault.SelfRoute) (Err fault.SelfRoute) m n a b = refl

map_same : {X Y : Type 0} (f : X → Y) → ((x y : X) → f x ≡ f y → x ≡ y) → (xs ys : List X) → map f xs ≡ map f ys → xs ≡ ys
map_same f one [] [] e = refl
map_same f one [] (y ∷ ys) e = cc
map_same f one (x ∷ xs) [] e = cc
map_same f one (x ∷ xs) (y ∷ ys) e =
    let head : f x ≡ f y = cc in
    let tail : map f xs ≡ map f ys = cc in
    cc (one x y head, map_same f one xs ys tail)

uid_same : (a b : Syntax) → syntax_uid a ≡ syntax_uid b → a ≡ b
uid_same Implicit Implicit e = refl
uid_same Implicit Explicit e = absurd (let l : ◌≡◌ {A = ℕ} 17 19 = ap (λ (t : Text). length t) e in omega arith)
uid_same Explicit Implicit e = absurd (let l : ◌≡◌ {A = ℕ} 19 17 = ap (λ (t : Text). length t) e in omega arith)
uid_same Explicit Explicit e = refl

same_row : (from from2 : Callers) (class class2 : Text) (syntaxes syntaxes2 : List Syntax) → from ≡ from2 → class ≡ class2 → syntaxes ≡ syntaxes2 →
    (let x : AcceptRow = record { from = from; class = class; syntaxes = syntaxes } in let y : AcceptRow = record { from = from2; class = class2; syntaxes = syntaxes2 } in x ≡ y)
same_row from from2 class class2 syntaxes syntaxes2 e_from e_class e_syntaxes = rw (e_from, e_class, e_syntaxes) refl

row_same : (x y : AcceptRow) → written_row x ≡ written_row y → x ≡ y
row_same x y e = same_row x.from y.from x.class y.class x.syntaxes y.syntaxes (ap (λ (t : AcceptText). t.from) e) (ap (λ (t : AcceptText). t.class) e)
    (map_same syntax_uid uid_same x.syntaxes y.syntaxes (ap (λ (t : AcceptText). t.syntaxes) e))

same_node : (name name2 : Text) (listens listens2 : Listens) (max_pdu max_pdu2 : ℕ) (accepts accepts2 : List AcceptRow) (rules rules2 : List Rule) → name ≡ name2 → listens ≡ listens2 → max_pdu ≡ max_pdu2 → accepts ≡ accepts2 → rules ≡ rules2 →
    (let x : Node = record { name = name; listens = listens; max_pdu = max_pdu; accepts = accepts; rules = rules } in let y : Node = record { name = name2; listens = listens2; max_pdu = max_pdu2; accepts = accepts2; rules = rules2 } in x ≡ y)
same_node name name2 listens listens2 max_pdu max_pdu2 accepts accepts2 rules rules2 e_name e_listens e_max_pdu e_accepts e_rules = rw (e_name, e_listens, e_max_pdu, e_accepts, e_rules) refl

node_same : (x y : Node) → written_node x ≡ written_node y → x ≡ y
node_same x y e =
    let numbers : pos x.max_pdu ≡ pos y.max_pdu = ap (λ (t : NodeText). t.max_pdu) e in
    let max_pdu : x.max_pdu ≡ y.max_pdu = cc in
    same_node x.name y.name x.listens y.listens x.max_pdu y.max_pdu x.accepts y.accepts x.rules y.rules (ap (λ (t : NodeText). t.name) e) (ap (λ (t : NodeText). t.listens) e) max_pdu
    (map_same written_row row_same x.accepts y.accepts (ap (λ (t : NodeText). t.accepts) e)) (ap (λ (t : NodeText). t.rules) e)

same_flow : (at at2 : Text) (to to2 : Text) (classes classes2 : List Text) (syntaxes syntaxes2 : List Syntax) (modalities modalities2 : Values) (stations stations2 : Values) → at ≡ at2 → to ≡ to2 → classes ≡ classes2 → syntaxes ≡ syntaxes2 → modalities ≡ modalities2 → stations ≡ stations2 →
    (let x : Flow = record { at = at; to = to; classes = classes; syntaxes = syntaxes; modalities = modalities; stations = stations } in let y : Flow = record { at = at2; to = to2; classes = classes2; syntaxes = syntaxes2; modalities = modalities2; stations = stations2 } in x ≡ y)
same_flow at at2 to to2 classes classes2 syntaxes syntaxes2 modalities modalities2 stations stations2 e_at e_to e_classes e_syntaxes e_modalities e_stations = rw (e_at, e_to, e_classes, e_syntaxes, e_modalities, e_stations) refl

flow_same : (x y : Flow) → written_flow x ≡ written_flow y → x ≡ y
flow_same x y e = same_flow x.at y.at x.to y.to x.classes y.classes x.syntaxes y.syntaxes x.modalities y.modalities x.stations y.stations
    (ap (λ (t : FlowText). t.at) e) (ap (λ (t : FlowText). t.to) e) (ap (λ (t : FlowText). t.classes) e)
    (map_same syntax_uid uid_same x.syntaxes y.syntaxes (ap (λ (t : FlowText). t.syntaxes) e)) (ap (λ (t : FlowText). t.modalities) e) (ap (λ (t : FlowText). t.stations) e)

same_network : (format format2 : Format) (nodes nodes2 : List Node) (flows flows2 : List Flow) (digest digest2 : List ℕ) → format ≡ format2 → nodes ≡ nodes2 → flows ≡ flows2 → digest ≡ digest2 →
    (let x : Network = record { format = format; nodes = nodes; flows = flows; digest = digest } in let y : Network = record { format = format2; nodes = nodes2; flows = flows2; digest = digest2 } in x ≡ y)
same_network format format2 nodes nodes2 flows flows2 digest digest2 e_format e_nodes e_flows e_digest = rw (e_format, e_nodes, e_flows, e_digest) refl

network_same : (x y : Network) → written_plan x ≡ written_plan y → x.digest ≡ y.digest → x ≡ y
network_same x y e digest = same_network x.format y.format x.nodes y.nodes x.flows y.flows x.digest y.digest
    (ap (λ (t : PlanText). t.format) e) (map_same written_node node_same x.nodes y.nodes (ap (λ (t : PlanText). t.nodes) e)) (map_same written_flow flow_same x.flows y.flows (ap (λ (t : PlanText). t.flows) e)) digest

-- the answer, without the plan
abbrev passed : Result Network PlanFault → Result (Unit {0}) PlanFault
passed (Ok plan) = Ok tt
passed (Err f) = Err f

-- an answer to a text that writes a plan
record Answered (text : Text) (r : Result Network PlanFault) : Type 0 where
  written : PlanText
  writes : Writes text written
  passes : Passes written (passed r)
  whole : (plan : Network) → r ≡ Ok plan → (written ≡ written_plan plan) × (plan.digest ≡ sha256 text)

abbrev Kind : Text → Result Network PlanFault → Type 0
Kind text r = ((r ≡ Err fault.NotToml) × (IsToml text → ⊥)) ⊎ (((r ≡ Err fault.Field) × (IsToml text × ((plan : PlanText) → Writes text plan → ⊥))) ⊎ Answered text r)

answered : (text : Text) (f : PlanFault) (plan : PlanText) → Writes text plan → Passes plan (Err f) → Answered text (Err f)
answered text f plan writes passes = record { written = plan; writes = writes; passes = passes; whole = λ p e. cc }

kind : (text : Text) (r : Result Network PlanFault) → r ≢ Err fault.Memory → ReadsCore text r → Kind text r
kind text (Ok plan) m h = inr (inr (record {
  written = written_plan plan;
  writes = h.0;
  passes = h.1;
  whole = λ p e. (let same : plan ≡ p = cc in (ap written_plan same, rw same at h.2));
}))
kind text (Err fault.NotToml) m h = inl (refl, h)
kind text (Err fault.Field) m h = inr (inl (refl, h))
kind text (Err fault.Syntax) m h = inr (inr (answered text fault.Syntax h.0 h.1 h.2))
kind text (Err fault.Name) m h = inr (inr (answered text fault.Name h.0 h.1 h.2))
kind text (Err fault.Limit) m h = inr (inr (answered text fault.Limit h.0 h.1 h.2))
kind text (Err fault.UnknownNode) m h = inr (inr (answered text fault.UnknownNode h.0 h.1 h.2))
kind text (Err fault.UnknownName) m h = absurd h.2
kind text (Err fault.SelfRoute) m h = inr (inr (answered text fault.SelfRoute h.0 h.1 h.2))
kind text (Err fault.Memory) m h = absurd (m refl)

not_memory : (r : Result Network PlanFault) → r ≢ Err fault.Memory → passed r ≢ Err fault.Memory
not_memory (Ok plan) m e = cc
not_memory (Err f) m e = m (let same : f ≡ fault.Memory = cc in ap Err same)

same_passed : (r s : Result Network PlanFault) → passed r ≡ passed s → ((p q : Network) → r ≡ Ok p → s ≡ Ok q → p ≡ q) → r ≡ s
same_passed (Ok p) (Ok q) e h = ap Ok (h p q refl refl)
same_passed (Ok p) (Err g) e h = cc
same_passed (Err f) (Ok q) e h = cc
same_passed (Err f) (Err g) e h = (let same : f ≡ g = cc in ap Err same)

is_toml : (text : Text) (r : Result Network PlanFault) → Answered text r → IsToml text
is_toml text r a = (a.writes.0, a.writes.1)

both : (text : Text) (r s : Result Network PlanFault) → r ≢ Err fault.Memory → s ≢ Err fault.Memory → Answered text r → Answered text s → r ≡ s
both text r s m n a b =
    let plans = one_plan text a.written b.written a.writes b.writes in
    let P : PlanText → Type 0 = λ plan. Passes plan (passed r) in
    same_passed r s (passes_once b.written (passed r) (passed s) (not_memory r m) (not_memory s n) (subst P plans a.passes) b.passes)
    (λ p q is_p is_q. network_same p q (sym (a.whole p is_p).0 ∙ (plans ∙ (b.whole q is_q).0)) ((a.whole p is_p).1 ∙ sym (b.whole q is_q).1))

pub one_core_answer : (text : Text) (r s : Result Network PlanFault) → r ≢ Err fault.Memory → s ≢ Err fault.Memory → ReadsCore text r → ReadsCore text s → r ≡ s
one_core_answer text r s m n a b = elim (kind text r m a) [
  | inl x ↦ elim (kind text s n b) [
    | inl y ↦ x.0 ∙ sym y.0
    | inr y ↦ elim y [ inl z ↦ absurd (x.1 z.1.0) | inr z ↦ absurd (x.1 (is_toml text s z)) ]
  ]
  | inr w ↦ elim w [
    | inl x ↦ elim (kind text s n b) [
      | inl y ↦ absurd (y.1 x.1.0)
      | inr y ↦ elim y [ inl z ↦ x.0 ∙ sym z.0 | inr z ↦ absurd (x.1.1 z.written z.writes) ]
    ]
    | inr x ↦ elim (kind text s n b) [
      | inl y ↦ absurd (y.1 (is_toml text r x))
      | inr y ↦ elim y [ inl z ↦ absurd (z.1.1 x.written x.writes) | inr z ↦ both text r s m n x z ]
    ]
  ]
]
