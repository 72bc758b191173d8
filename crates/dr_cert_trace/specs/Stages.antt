-- The places that a key comes to, those from which it may go farthest first.
use Rattle.std.specs.Prelude.{◌≡◌, ℕ, ◌+◌, ◌-◌, ◌^◌, ◌⊎◌, ◌++◌, ◌∷◌, List, [], Contains}
use Rattle.std.specs.List.Sorted.{IsNonDecreasingBy}
use Rattle.dr_base.specs.Texts.{Text}
use Rattle.dr_route.specs.declared.key.Key.{Key}
use Rattle.dr_plan_model.specs.Networks.{Network}
use Rattle.dr_plan_model.specs.Walks.{IsReached}
use Rattle.dr_plan_sound.specs.declared.certificate.Line.{Line}
use Rattle.dr_plan_sound.specs.Soundness.{IsRank}
use Rattle.dr_cert_trace.specs.declared.stages.TraceStage.{TraceStage}

-- the stage's place has a rank, and its depth is what is missing of the greatest number
abbrev pub HasDepth : Network → Key → TraceStage → Type 0
HasDepth plan key stage =
    (rank : ℕ)
    × IsRank plan key stage.place.0 stage.place.1 rank
    × (stage.depth + rank ≡ 2 ^ 32 - 1)

-- the line's place is one stage more, where the key comes there
abbrev pub GathersStages : Network → Key → Line → List TraceStage → List TraceStage → Type 0
GathersStages plan key line old new =
    ((stage : TraceStage) × HasDepth plan key stage
    × (stage.place ≡ (line.stop.caller, line.stop.node))
    × (new ≡ old ++ stage ∷ []))
    ⊎ ((IsReached plan key line.stop.caller line.stop.node → ⊥) × (new ≡ old))

-- each stage has its depth, and each place that the key comes to is a stage
pub record AreStages (plan : Network) (key : Key) (stages : List TraceStage) : Type 0 where
  pub each : (stage : TraceStage) → Contains stages stage → HasDepth plan key stage
  pub all : (caller name : Text)
      → IsReached plan key caller name
      → (stage : TraceStage) × Contains stages stage × (stage.place ≡ (caller, name))

-- the same, and the depths don't fall
abbrev pub AreOrdered : Network → Key → List TraceStage → Type 0
AreOrdered plan key stages =
    AreStages plan key stages × IsNonDecreasingBy (λ (stage : TraceStage). stage.depth) stages
