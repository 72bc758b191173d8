-- The certificate of a plan.
use Rattle.std.specs.Prelude.{◌≡◌, ℕ, ◌+◌, ◌*◌, ◌↔◌, List, AllPairs, Contains, Some, slice_get}
use Rattle.std.specs.declared.cmp.Ordering.{Ordering}
use Rattle.std.specs.declared.cmp.Ordering.TheVariants.{Less}
use Rattle.std.specs.Ordering.{ordering_then}
use Rattle.dr_base.specs.Texts.{Text, text_cmp}
use Rattle.dr_base.specs.Syntaxes.{syntax_uid}
use Rattle.dr_base.specs.declared.syntax.Syntax.{Syntax}
use Rattle.dr_route.specs.declared.key.Key.{Key}
use Rattle.dr_plan_model.specs.Networks.{Network}
use Rattle.dr_plan_model.specs.Plans.{LiesIn}
use Rattle.dr_plan_model.specs.Walks.{IsReached, GoesOver}
use Rattle.dr_plan_sound.specs.declared.certificate.Line.{Line}
use Rattle.dr_plan_sound.specs.declared.certificate.Hop.{Hop}
use Rattle.dr_plan_sound.specs.declared.certificate.Certificate.{Certificate}
use Rattle.dr_plan_sound.specs.Soundness.{IsRank}
use Rattle.dr_plan_sound.specs.Printed.{printed_line, printed_hop}

-- some key of the cell comes to the node from the caller, and has this rank there
abbrev pub HasLine : Network → Line → Type 0
HasLine plan line =
    (key : Key)
    × LiesIn plan line.stop.cell key
    × IsReached plan key line.stop.caller line.stop.node
    × IsRank plan key line.stop.caller line.stop.node line.rank

-- byte order of the class, then of the transfer syntax
abbrev pub pair_cmp : Text × Syntax → Text × Syntax → Ordering
pair_cmp a b = ordering_then (text_cmp a.0 b.0) (text_cmp (syntax_uid a.1) (syntax_uid b.1))

-- the pairs that go over a hop, in that order, each once
pub record AreHopPairs (plan : Network) (from to : Text) (all : List (Text × Syntax)) : Type 0 where
  pub ordered : AllPairs (λ p q. pair_cmp p q ≡ Less) all
  pub each : (pair : Text × Syntax) → Contains all pair ↔ GoesOver plan from to pair

-- the pair has its number on the hop: 1, 3, 5 and so on
abbrev pub HasHop : Network → Hop → Type 0
HasHop plan hop =
    (all : List (Text × Syntax))
    × (k : ℕ)
    × AreHopPairs plan hop.from hop.to all
    × (slice_get all k ≡ Some (hop.class, hop.syntax))
    × (hop.id ≡ 2 * k + 1)

-- The certificate of the plan: its format and digest, exactly its lines, and exactly the numbered
-- pairs of its hops. Each kind stands in the byte order of its printed lines, each line once.
pub record IsCertificateOf (plan : Network) (certificate : Certificate) : Type 0 where
  pub format : certificate.format ≡ plan.format
  pub digest : certificate.digest ≡ plan.digest
  pub lines : (line : Line) → Contains certificate.lines line ↔ HasLine plan line
  pub hops : (hop : Hop) → Contains certificate.hops hop ↔ HasHop plan hop
  pub lines_ordered :
      AllPairs (λ a b. text_cmp (printed_line a) (printed_line b) ≡ Less) certificate.lines
  pub hops_ordered :
      AllPairs (λ a b. text_cmp (printed_hop a) (printed_hop b) ≡ Less) certificate.hops
