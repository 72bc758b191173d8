use Rattle.std.proofs.Common.{refl}
use Rattle.dr_dimse_scan.proofs.WorkedLemmas.{store_is_message, modality_read, modality_bad}
use Rattle.dr_dimse_scan.proofs.laws.worked_example.Goals as goal

pub returns : goal.returns
returns c = record { message = store_is_message; good = modality_read; bad = modality_bad; told = λ h. h; unnamed = refl; answer = refl; query = refl; large = refl }
