use Rattle.std.proofs.Common.{◌≤◌, ℕ, subst, sym}
use Rattle.dr_dimse.specs.Commands.{field_of, id_of, status_of}
use Rattle.dr_dimse.specs.Reads.{elements}
use Rattle.dr_dimse.proofs.OneCommand.{answer_status}
use Rattle.dr_dimse.proofs.reader.answer_of.Goals as goal

pub returns-in_default-number_of : goal.returns-in_default-number_of
returns-in_default-number_of c = λ y h.
    let it = answer_status (elements c.args.found.now) (field_of y) (id_of y) (status_of y) (subst (λ (f : ℕ). 0x8000 ≤ f) (sym h.0) c.requires) h.2 in
    c.in_default-number_of.ensures it.0 it.1
