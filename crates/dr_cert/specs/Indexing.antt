-- Lines in the order of their stops, where they can be found.
use Rattle.std.specs.Prelude.{◌≡◌, ℕ, List, AllPairs, Contains, Some, slice_get}
use Rattle.std.specs.BTreeMap.{BTreeMap, get}
use Rattle.std.specs.declared.cmp.Ordering.TheVariants.{Less}
use Rattle.dr_plan_sound.specs.declared.certificate.Stop.{Stop}
use Rattle.dr_plan_sound.specs.declared.certificate.Line.{Line}
use Rattle.dr_plan_sound.specs.Stops.{stop_cmp}
use Rattle.dr_cert.specs.Conditions.{HasALine}

-- the lines stand in the order of their stops, each stop once
abbrev pub AreSorted : List Line → Type 0
AreSorted lines = AllPairs (λ a b. stop_cmp a.stop b.stop ≡ Less) lines

-- an index of the lines: for each stop that has lines just one of them, in the order of stops
pub record IsIndexOf (lines index : List Line) : Type 0 where
  pub sound : (line : Line) → Contains index line → Contains lines line
  pub whole : (stop : Stop) → HasALine lines stop → HasALine index stop
  pub sorted : AreSorted index

-- the line of the stop stands at this place of the list
abbrev pub StandsAt : List Line → Stop → ℕ → Type 0
StandsAt lines stop place = (line : Line) × (slice_get lines place ≡ Some line) × (line.stop ≡ stop)

-- some line of the list is of the stop, with this rank
abbrev pub HasRank : List Line → Stop → ℕ → Type 0
HasRank lines stop rank = Contains lines (record { stop = stop; rank = rank })

-- no line of the list is of the stop
abbrev pub HasNoLine : List Line → Stop → Type 0
HasNoLine lines stop = HasALine lines stop → ⊥

-- the line of a stop with its rank
abbrev pub line_of : Stop × ℕ → Line
line_of entry = record { stop = entry.0; rank = entry.1 }

-- ranks by stops: for each stop that has lines just one of their ranks
pub record AreRanksOf (lines : List Line) (ranks : BTreeMap Stop ℕ) : Type 0 where
  pub sound : (stop : Stop) (rank : ℕ)
      → get stop_cmp ranks stop ≡ Some rank
      → Contains lines (record { stop = stop; rank = rank })
  pub whole : (stop : Stop) → HasALine lines stop
      → (rank : ℕ) × (get stop_cmp ranks stop ≡ Some rank)
