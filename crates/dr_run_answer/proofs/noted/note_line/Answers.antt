use Rattle.std.proofs.Common.{◌∙◌, ap, sym, position}
use Rattle.dr_run_answer.specs.declared.noted.Minute.{Minute}
use Rattle.dr_run_answer.proofs.Lines.{added_minute, by_minute, raised_minute, then}
use Rattle.dr_run_answer.proofs.noted.note_line.Goals as goal

pub returns-in-Some : goal.returns-in-Some
returns-in-Some c =
    let line = c.args.line in
    by_minute c.args.minute line c.args.minutes.now.items c.in-Some.place c.raise_minute.new.one _
    (sym (ap (position (then c.args.minute line)) c.as_slice.ensures.value) ∙ sym c.place_in.ensures ∙ c.in-Some.is)
    (c.raise_minute.ensures ∙ ap (λ (x : Minute). raised_minute c.args.minute line x) c.index_mut.ensures.value)

pub returns-in-None : goal.returns-in-None
returns-in-None c = added_minute c.args.minute c.args.line c.add_minute.result c.args.minutes.now.items c.add_minute.new.minutes.items c.add_minute.ensures
