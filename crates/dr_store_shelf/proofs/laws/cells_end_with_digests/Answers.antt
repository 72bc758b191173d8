use Rattle.dr_store_shelf.proofs.CellLemmas.{nothing_behind, nothing_cut}
use Rattle.dr_store_shelf.proofs.laws.cells_end_with_digests.Goals as goal

pub returns : goal.returns
returns c = record {
  behind = λ cell tail ends longer. nothing_behind cell tail ends longer;
  cut = λ cell n ends shorter. nothing_cut cell n ends shorter;
}
