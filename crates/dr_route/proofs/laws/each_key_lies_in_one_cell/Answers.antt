use Rattle.std.proofs.Common.{refl}
use Rattle.dr_route.proofs.Agreement.{some_part, one_cell}
use Rattle.dr_route.proofs.laws.each_key_lies_in_one_cell.Goals as goal

pub returns-clause-some : goal.returns-clause-some
returns-clause-some c = λ literals key.
    let modality = some_part literals.modalities key.modality in
    let station = some_part literals.stations key.station in (
      record { class = key.class; syntax = key.syntax; modality = modality.0; station = station.0 },
      record { class = refl; syntax = refl; modality = modality.1; station = station.1 },
    )

pub returns-clause-one : goal.returns-clause-one
returns-clause-one c = one_cell
