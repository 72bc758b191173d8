-- The part of a plan and of its certificate that one node works by.
use Rattle.std.specs.Prelude.{◌≡◌, ℕ, Bool, List, filter, Contains, IsPermutation}
use Rattle.std.specs.List.Sorted.{IsNonDecreasingBy}
use Rattle.std.specs.Str.{bytes_eq}
use Rattle.dr_base.specs.Texts.{Text}
use Rattle.dr_route.specs.declared.rule.Rule.{Rule}
use Rattle.dr_route.specs.declared.accept.AcceptRow.{AcceptRow}
use Rattle.dr_route.specs.declared.cell.Literals.{Literals}
use Rattle.dr_plan_model.specs.declared.plan.Node.{Node}
use Rattle.dr_plan_model.specs.declared.plan.Flow.{Flow}
use Rattle.dr_plan_model.specs.Networks.{Network}
use Rattle.dr_plan_model.specs.Plans.{AreLiteralsOf, IsTheNode}
use Rattle.dr_plan_sound.specs.declared.certificate.Line.{Line}
use Rattle.dr_plan_sound.specs.declared.certificate.Hop.{Hop}
use Rattle.dr_plan_sound.specs.declared.certificate.Certificate.{Certificate}
use Rattle.dr_cert.specs.Indexing.{IsIndexOf}

-- what one node works by, its part of a plan and of the certificate, as contracts see a site
pub record Part : Type 0 where
  pub name : Text
  pub max_pdu : ℕ
  pub digest : List ℕ
  pub rules : List Rule
  pub accepts : List AcceptRow
  pub flows : List Flow
  pub lines : List Line
  pub hops : List Hop
  pub literals : Literals

-- instances of the flow enter at the site of that name
abbrev pub is_at : Text → Flow → Bool
is_at name flow = bytes_eq flow.at name

-- the line is of the node of that name
abbrev pub is_of : Text → Line → Bool
is_of name line = bytes_eq line.stop.node name

-- the hop begins at the node of that name
abbrev pub begins_at : Text → Hop → Bool
begins_at name hop = bytes_eq hop.from name

-- the hop ends at the node of that name
abbrev pub ends_at : Text → Hop → Bool
ends_at name hop = bytes_eq hop.to name

-- the hops that begin at the node, by their ids
pub record AreHopsFrom (name : Text) (all hops : List Hop) : Type 0 where
  pub same : IsPermutation (filter (begins_at name) all) hops
  pub by_id : IsNonDecreasingBy (λ (hop : Hop). hop.id) hops

-- The node's own rules, accept rows and flows in the order of the plan's text, its own lines in the
-- order of their stops, the hops that begin at it by their ids, and the plan's digest and literals.
pub record IsPartOf (plan : Network) (certificate : Certificate) (part : Part) : Type 0 where
  pub node : (node : Node)
      × IsTheNode plan part.name node
      × (part.max_pdu ≡ node.max_pdu)
      × (part.rules ≡ node.rules)
      × (part.accepts ≡ node.accepts)
  pub digest : part.digest ≡ plan.digest
  pub flows : part.flows ≡ filter (is_at part.name) plan.flows
  pub lines : IsIndexOf (filter (is_of part.name) certificate.lines) part.lines
  pub hops : AreHopsFrom part.name certificate.hops part.hops
  pub literals : AreLiteralsOf plan part.literals

-- the hops from the site's node to that one, by their ids
abbrev pub hops_to : Part → Text → List Hop
hops_to part dest = filter (ends_at dest) part.hops

-- the hop is one of the site's, to that node
abbrev pub IsHopTo : Part → Text → Hop → Type 0
IsHopTo part dest hop = Contains part.hops hop × (hop.to ≡ dest)
