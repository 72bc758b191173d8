use Rattle.dr_word_all.proofs.run.run_any.Goals as goal

pub returns-in-AdoptAmong : goal.returns-in-AdoptAmong
returns-in-AdoptAmong g c = rw c.in-AdoptAmong.is (rw c.as_slice-others.ensures.value at c.adopt_files-in-AdoptAmong.ensures)

pub returns-in-Rehearse : goal.returns-in-Rehearse
returns-in-Rehearse g c = rw c.in-Rehearse.is (rw c.as_slice-others-in-Rehearse.ensures.value at c.rehearse_files.ensures)
