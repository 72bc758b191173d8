use Rattle.dr_word_audit.proofs.auditing.tell_mismatch.Goals as goal

pub returns : goal.returns
returns c = (c.place_of-place.result, c.place_of-place.ensures, c.in_ok-line.ensures)
