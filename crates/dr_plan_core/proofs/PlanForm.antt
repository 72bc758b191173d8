-- A plan that passed its tests is well-formed.
use Rattle.std.proofs.Common.{◌≡◌, ◌≢◌, ℕ, pos, refl, sym, ◌∙◌, ap, List, [], ◌∷◌, map, length, get_or, Contains, Ok}
use Rattle.std.specs.Prelude.{All}
use Rattle.std.proofs.lemmas.List.{length-map}
use Rattle.toml.specs.Data.{Members}
use Rattle.dr_base.specs.Texts.{Text}
use Rattle.dr_base.specs.Syntaxes.{syntax_uid}
use Rattle.dr_route.specs.declared.rule.Pattern.{Pattern}
use Rattle.dr_route.specs.declared.rule.Pattern.TheVariants.{Any, Literal}
use Rattle.dr_route.specs.declared.rule.Rule.{Rule}
use Rattle.dr_route.specs.declared.accept.Callers.{Callers}
use Rattle.dr_route.specs.declared.accept.Callers.TheVariants as callers
use Rattle.dr_route.specs.declared.accept.AcceptRow.{AcceptRow}
use Rattle.dr_plan_model.specs.declared.plan.Node.{Node}
use Rattle.dr_plan_model.specs.declared.plan.Flow.{Flow}
use Rattle.dr_plan_model.specs.declared.plan.Format.{Format}
use Rattle.dr_plan_model.specs.Formed.{IsName, IsMaxPdu, IsKnownName, HasForm, IsRuleOf, AreKnownCallers, IsAcceptRow, IsWellFormedNode, IsWellFormedFlow, IsInFormat, RuleFits, ValuesFit, AreWellFormed}
use Rattle.dr_plan_model.specs.Listening.{ListensFits, MayAccept}
use Rattle.dr_plan_model.specs.declared.listens.Listens.{Listens}
use Rattle.dr_plan_model.specs.declared.listens.Listens.TheVariants.{Nowhere, At}
use Rattle.dr_plan_text.specs.declared.words.NodeText.{NodeText}
use Rattle.dr_plan_text.specs.declared.words.FlowText.{FlowText}
use Rattle.dr_plan_text.specs.declared.words.PlanText.{PlanText}
use Rattle.dr_plan_text.specs.Tables.{IsRoot, FitsFormat}
use Rattle.dr_plan_core.specs.Spelling.{written_row, written_node, written_flow}
use Rattle.dr_plan_core.specs.Reading.{EachCaller, EachNameOfNode, node_names, HasMaxPdu, Passes}
use Rattle.dr_plan_core.proofs.Forms.{RowForm, RuleForm, NodeForm, FlowForm, nodes_form, flows_form}
use Rattle.dr_plan_core.proofs.Mapped.{All-unmap, AllPairs-unmap, AllPairs-weaker, sum_by-map, Contains-unmap, not_nil-unmap}

abbrev the_plan : Format → List Node → List Flow → PlanText
the_plan format nodes flows = record { format = format; nodes = map written_node nodes; flows = map written_flow flows }

-- a name of the text is the name of a node
known_name : (format : Format) (nodes : List Node) (flows : List Flow) (name : Text) → Contains (node_names (the_plan format nodes flows)) name → IsKnownName nodes name
known_name format nodes flows name among =
    let text = Contains-unmap (λ (n : NodeText). n.name) (map written_node nodes) name among in
    let node = Contains-unmap written_node nodes text.0 text.1 in
    (node.0, node.1, ap (λ (n : NodeText). n.name) node.2 ∙ text.2)

-- the format has what the text names, and then what the plan does
in_format : (format : Format) (nodes : List Node) (flows : List Flow) → FitsFormat (the_plan format nodes flows) → IsInFormat format nodes flows
in_format format nodes flows fits = record {
  each_rule = All-unmap written_node (λ (n : NodeText). All (RuleFits format) n.rules) nodes fits.rules;
  each_flow = All-unmap written_flow (λ (f : FlowText). ValuesFit format f.modalities f.stations) flows fits.flows;
}

module _ (format : Format) (nodes : List Node) (flows : List Flow) where
  abbrev Known : Text → Type 0
  Known = Contains (node_names (the_plan format nodes flows))

  known : (name : Text) → Known name → IsKnownName nodes name
  known = known_name format nodes flows

  all_known : (names : List Text) → All Known names → All (IsKnownName nodes) names
  all_known names all = λ k d h. known (get_or names k d) (all k d h)

  known_callers : (from : Callers) → EachCaller Known from → AreKnownCallers nodes from
  known_callers callers.Any each = tt
  known_callers (callers.Listed names) each = all_known names each

  known_form : (pattern : Pattern) → HasForm Known pattern → HasForm (IsKnownName nodes) pattern
  known_form Any has = tt
  known_form (Literal name) has = known name has

  row : (r : AcceptRow) → RowForm (written_row r) → EachCaller Known r.from → IsAcceptRow nodes r
  row r form from = record {
    from = known_callers r.from from;
    class = form.class;
    some = not_nil-unmap syntax_uid r.syntaxes form.some;
    apart = AllPairs-weaker (λ a b. syntax_uid a ≢ syntax_uid b) (λ a b. a ≢ b) r.syntaxes (λ x y apart same. apart (ap syntax_uid same)) (AllPairs-unmap syntax_uid r.syntaxes form.apart);
  }

  rule : (name : Text) (r : Rule) → RuleForm r → HasForm Known r.from × All Known r.to → All (λ to. to ≢ name) r.to → IsRuleOf nodes name r
  rule name r form names apart = record {
    from = known_form r.from names.0;
    class = form.class;
    modality = form.modality;
    station = form.station;
    except = form.except;
    to = λ k d h. (known (get_or r.to k d) (names.1 k d h), apart k d h);
  }

  max_pdu : (bytes : ℕ) (n : NodeText) → n.max_pdu ≡ pos bytes → HasMaxPdu n → IsMaxPdu bytes
  max_pdu bytes n e has = let same : bytes ≡ has.bytes = (let both : pos bytes ≡ pos has.bytes = sym e ∙ has.is in cc) in rw same has.in_range

  -- a node that listens nowhere and accepts nothing as it is written accepts nothing
  may_accept : (place : Listens) (rows : List AcceptRow) → MayAccept place (map written_row rows) → MayAccept place rows
  may_accept Nowhere [] may = refl
  may_accept Nowhere (r ∷ rows) may = cc
  may_accept (At address bind) rows may = tt

  node : (n : Node) → NodeForm (written_node n) → EachNameOfNode IsName (written_node n) → HasMaxPdu (written_node n) → EachNameOfNode Known (written_node n) →
      All (λ (r : Rule). All (λ to. to ≢ n.name) r.to) n.rules → IsWellFormedNode nodes n
  node n form names pdu knows apart = record {
    name = names.name;
    addresses = form.addresses;
    may_accept = may_accept n.listens n.accepts form.may_accept;
    max_pdu = max_pdu n.max_pdu (written_node n) refl pdu;
    accepts = λ k d h. row (get_or n.accepts k d) (All-unmap written_row RowForm n.accepts form.accepts k d h) (All-unmap written_row (λ r. EachCaller Known r.from) n.accepts knows.accepts k d h);
    rules = λ k d h. rule n.name (get_or n.rules k d) (form.rules k d h) (knows.rules k d h) (apart k d h);
  }

  flow : (f : Flow) → FlowForm (written_flow f) → Known f.at × Known f.to → f.at ≢ f.to → IsWellFormedFlow nodes f
  flow f form knows apart = record {
    at = known f.at knows.0;
    to = known f.to knows.1;
    apart = apart;
    classes = form.classes;
    syntaxes = not_nil-unmap syntax_uid f.syntaxes form.syntaxes;
    modalities = form.modalities;
    stations = form.stations;
  }

  pub well_formed : (root : Members) → IsRoot root (the_plan format nodes flows) → Passes (the_plan format nodes flows) (Ok tt) → AreWellFormed format nodes flows
  well_formed root is passes =
      let plan = the_plan format nodes flows in
      let node_forms = All-unmap written_node NodeForm nodes (nodes_form root plan is) in
      let names = All-unmap written_node (EachNameOfNode IsName) nodes passes.1.formed.nodes in
      let pdus = All-unmap written_node HasMaxPdu nodes passes.2.max_pdu in
      let knows = All-unmap written_node (EachNameOfNode Known) nodes passes.3.nodes in
      let apart = All-unmap written_node (λ (n : NodeText). All (λ (r : Rule). All (λ to. to ≢ n.name) r.to) n.rules) nodes passes.4.rules in
      let flow_forms = All-unmap written_flow FlowForm flows (flows_form root plan is) in
      let flow_names = All-unmap written_flow (λ (f : FlowText). Known f.at × Known f.to) flows passes.3.flows in
      let flows_apart = All-unmap written_flow (λ (f : FlowText). f.at ≢ f.to) flows passes.4.flows in
      record {
        few_nodes = rw (length-map nodes written_node) at passes.2.few_nodes;
        few_rules = rw (sum_by-map written_node (λ (n : NodeText). length n.rules) nodes, length-map flows written_flow) at passes.2.few_rules;
        apart = AllPairs-unmap (λ (n : Node). n.name) nodes (rw (map_map nodes) at passes.1.apart);
        each_node = λ k d h. node (get_or nodes k d) (node_forms k d h) (names k d h) (pdus k d h) (knows k d h) (apart k d h);
        each_flow = λ k d h. flow (get_or flows k d) (flow_forms k d h) (flow_names k d h) (flows_apart k d h);
        in_format = in_format format nodes flows is.fits;
        listen = All-unmap written_node (λ (n : NodeText). ListensFits format n.listens) nodes is.fits.listen;
      }
    where
      map_map : (ns : List Node) → map (λ (n : NodeText). n.name) (map written_node ns) ≡ map (λ (n : Node). n.name) ns
      map_map [] = refl
      map_map (n ∷ ns) = ap (λ t. n.name ∷ t) (map_map ns)
