use Rattle.dr_word_at.proofs.shown.put_progress.Goals as goal

pub returns : goal.returns
returns c =
    let came = c.in_ok-put_stage.ensures in (came.0, (c.in_ok-state.state.now, c.in_ok-state.ensures, came.1), came.2)
