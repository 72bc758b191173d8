-- A rank found by the cell of a key.
use Rattle.std.proofs.Common.{ℕ, List}
use Rattle.dr_base.specs.Texts.{Text}
use Rattle.dr_route.specs.Cells.{InCell}
use Rattle.dr_route.specs.Laws.{key_of}
use Rattle.dr_route.specs.declared.key.Key.{Key}
use Rattle.dr_route.specs.declared.cell.Literals.{Literals}
use Rattle.dr_route.specs.declared.cell.OwnedCell.{OwnedCell}
use Rattle.dr_route.proofs.Agreement.{cell_alike}
use Rattle.dr_plan_model.specs.Networks.{Network}
use Rattle.dr_plan_model.specs.Plans.{AreLiteralsOf, IsWellFormed, LiesIn, literals_of}
use Rattle.dr_plan_model.specs.Walks.{IsReached}
use Rattle.dr_plan_model.proofs.WalksAlike.{reach_alike, cell_has_a_key}
use Rattle.dr_plan_sound.specs.declared.certificate.Stop.{Stop}
use Rattle.dr_plan_sound.specs.declared.certificate.Line.{Line}
use Rattle.dr_plan_sound.specs.Soundness.{IsRank}
use Rattle.dr_plan_sound.specs.Ranked.{AreRanked}
use Rattle.dr_plan_sound.proofs.RankedLines.{rank_holds, reached_has_line}
use Rattle.dr_plan_entries.proofs.Entries.{cell_that_lies}
use Rattle.dr_cert.specs.Indexing.{HasRank, HasNoLine}

pub lies_there : (plan : Network) (literals : Literals) (key : Key) (cell : OwnedCell) → AreLiteralsOf plan literals → InCell literals cell key → LiesIn plan cell key
lies_there plan literals key cell are lies = cell_alike literals (literals_of plan) are.same cell key lies

module _ (plan : Network) (formed : IsWellFormed plan) (index : List Line) (ranked : AreRanked plan index) (key : Key) (cell : OwnedCell) (lies : LiesIn plan cell key) (caller node : Text) where
  pub rank_there : (rank : ℕ) → HasRank index (record { caller = caller; node = node; cell = cell }) rank → IsReached plan key caller node × IsRank plan key caller node rank
  rank_there rank among =
      let stop : Stop = record { caller = caller; node = node; cell = cell } in
      let back : LiesIn plan cell (key_of cell) = cell_has_a_key plan formed cell (cell_that_lies plan cell key lies) in (
        reach_alike plan cell (key_of cell) key back lies caller node (ranked.reached stop rank among),
        rank_holds plan formed index ranked key cell lies caller node rank among,
      )

  pub no_rank : HasNoLine index (record { caller = caller; node = node; cell = cell }) → IsReached plan key caller node → ⊥
  no_rank none r = none (reached_has_line plan formed index ranked key cell lies caller node r)
