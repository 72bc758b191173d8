-- A site is put together from its node's rows.
use Rattle.std.proofs.Common.{◌≡◌, ℕ, sym, ◌∙◌, ap, subst, List}
use Rattle.std.specs.Prelude.{filter}
use Rattle.dr_base.specs.Texts.{Text}
use Rattle.dr_route.specs.declared.rule.Rule.{Rule}
use Rattle.dr_route.specs.declared.accept.AcceptRow.{AcceptRow}
use Rattle.dr_route.specs.declared.cell.Literals.{Literals}
use Rattle.dr_plan_model.specs.declared.plan.Node.{Node}
use Rattle.dr_plan_model.specs.declared.plan.Flow.{Flow}
use Rattle.dr_plan_model.specs.Networks.{Network}
use Rattle.dr_plan_model.specs.Plans.{AreLiteralsOf, IsTheNode}
use Rattle.dr_plan_sound.specs.declared.certificate.Line.{Line}
use Rattle.dr_plan_sound.specs.declared.certificate.Hop.{Hop}
use Rattle.dr_plan_sound.specs.declared.certificate.Certificate.{Certificate}
use Rattle.dr_cert.specs.Indexing.{IsIndexOf}
use Rattle.dr_site.specs.Parts.{Part, IsPartOf, AreHopsFrom, is_at, is_of}
use Rattle.dr_site.specs.Sites.{IsCertified, IsSite}

-- the type of sites keeps what it must
pub is_site : (plan : Network) (certificate : Certificate) (part : Part) → IsCertified plan certificate → IsPartOf plan certificate part → IsSite part
is_site plan certificate part sealed is_part = record {
  sorted = is_part.lines.sorted;
  some = (plan, certificate, sealed, is_part);
}

-- what each call gave makes the part
pub assembled : (plan : Network) (certificate : Certificate) (name : Text) (node : Node) → IsTheNode plan name node →
    (n : Text) (max_pdu : ℕ) (digest : List ℕ) (rules : List Rule) (accepts : List AcceptRow) (flows : List Flow) (lines : List Line) (hops : List Hop) (literals : Literals) →
    n ≡ name → max_pdu ≡ node.max_pdu → digest ≡ plan.digest → rules ≡ node.rules → accepts ≡ node.accepts →
    {all_flows : List Flow} → all_flows ≡ plan.flows → flows ≡ filter (is_at name) all_flows →
    {all_lines : List Line} → all_lines ≡ certificate.lines → {own : List Line} → own ≡ filter (is_of name) all_lines →
    {own_slice : List Line} → own_slice ≡ own → IsIndexOf own_slice lines →
    {all_hops : List Hop} → all_hops ≡ certificate.hops → AreHopsFrom name all_hops hops →
    AreLiteralsOf plan literals →
    IsPartOf plan certificate (record { name = n; max_pdu = max_pdu; digest = digest; rules = rules; accepts = accepts; flows = flows; lines = lines; hops = hops; literals = literals })
assembled plan certificate name node is_node n max_pdu digest rules accepts flows lines hops literals named long of_plan by_rules by_accepts
    all_flows at_flows all_lines own slice index all_hops from_hops values =
    let P : Text → Type 0 = λ m. IsPartOf plan certificate (record { name = m; max_pdu = max_pdu; digest = digest; rules = rules; accepts = accepts; flows = flows; lines = lines; hops = hops; literals = literals }) in
    let Q : List Line → Type 0 = λ ls. IsIndexOf ls lines in
    let R : List Hop → Type 0 = λ hs. AreHopsFrom name hs hops in
    subst P (sym named) (record {
      node = (node, is_node, long, by_rules, by_accepts);
      digest = of_plan;
      flows = at_flows ∙ ap (filter (is_at name)) all_flows;
      lines = subst Q (slice ∙ (own ∙ ap (filter (is_of name)) all_lines)) index;
      hops = subst R all_hops from_hops;
      literals = values;
    })
