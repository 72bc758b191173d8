use Rattle.std.proofs.Common.{refl}
use Rattle.dr_route.proofs.Agreement.{part_has_value}
use Rattle.dr_route.proofs.laws.each_cell_has_a_key.Goals as goal

pub returns : goal.returns
returns c = λ literals cell modalities stations modality station. record {
  class = refl;
  syntax = refl;
  modality = part_has_value literals.modalities cell.modality modalities modality;
  station = part_has_value literals.stations cell.station stations station;
}
