-- Lines that are right one by one: what a search leaves and what a verifier tests.
use Rattle.std.specs.Prelude.{◌≡◌, ℕ, ◌+◌, ◌<◌, ◌⊎◌, List, Contains}
use Rattle.dr_base.specs.Texts.{Text}
use Rattle.dr_route.specs.Routes.{local}
use Rattle.dr_route.specs.Laws.{key_of}
use Rattle.dr_route.specs.declared.key.Key.{Key}
use Rattle.dr_route.specs.declared.cell.OwnedCell.{OwnedCell}
use Rattle.dr_plan_model.specs.Networks.{Network}
use Rattle.dr_plan_model.specs.Plans.{LiesIn}
use Rattle.dr_plan_model.specs.Walks.{Sends, Keeps, Accepts, IsEntry, IsReached}
use Rattle.dr_plan_model.specs.Laws.{IsCellOf}
use Rattle.dr_plan_sound.specs.declared.certificate.Stop.{Stop}
use Rattle.dr_plan_sound.specs.declared.certificate.Line.{Line}

-- the line of a stop with a rank
abbrev pub line_at : Text → Text → OwnedCell → ℕ → Line
line_at caller node cell rank =
    record { stop = record { caller = caller; node = node; cell = cell }; rank = rank }

-- the node sends the keys of the stop's cell on to that node
abbrev pub SendsOn : Network → Stop → Text → Type 0
SendsOn plan stop to = Sends plan stop.node stop.caller (key_of stop.cell) to

-- One line among others: each node that it sends to accepts, and has a lower rank; one of them has
-- just the next lower rank, unless the rank is 0; and the node keeps or sends on.
pub record IsRanked (plan : Network) (lines : List Line) (stop : Stop) (rank : ℕ) : Type 0 where
  pub lower : (to : Text) → SendsOn plan stop to
      → Accepts plan to stop.node stop.cell.class stop.cell.syntax
      × ((s : ℕ) × Contains lines (line_at stop.node to stop.cell s) × (s < rank))
  pub next : (rank ≡ 0)
      ⊎ ((to : Text) × (s : ℕ) × SendsOn plan stop to
      × Contains lines (line_at stop.node to stop.cell s)
      × (rank ≡ s + 1))
  pub goes_on : Keeps plan stop.node stop.caller (key_of stop.cell)
      ⊎ ((to : Text) × SendsOn plan stop to)

-- All lines of a plan: each is right, its stop is one that a key comes to, no stop has two lines,
-- and each entry has one.
pub record AreRanked (plan : Network) (lines : List Line) : Type 0 where
  pub each : (stop : Stop) (rank : ℕ)
      → Contains lines (record { stop = stop; rank = rank })
      → IsRanked plan lines stop rank
  pub cells : (stop : Stop) (rank : ℕ)
      → Contains lines (record { stop = stop; rank = rank })
      → IsCellOf plan stop.cell
  pub reached : (stop : Stop) (rank : ℕ)
      → Contains lines (record { stop = stop; rank = rank })
      → IsReached plan (key_of stop.cell) stop.caller stop.node
  pub one : (stop : Stop) (r s : ℕ)
      → Contains lines (record { stop = stop; rank = r })
      → Contains lines (record { stop = stop; rank = s })
      → r ≡ s
  pub entries : (key : Key) (cell : OwnedCell) (site : Text)
      → LiesIn plan cell key → IsEntry plan site key
      → (rank : ℕ) × Contains lines (line_at local site cell rank)
