use Rattle.std.proofs.Common.{◌∙◌, ap, sym, position}
use Rattle.dr_run_answer.specs.Intakes.{is_by}
use Rattle.dr_run_answer.specs.declared.intake.Recent.{Recent}
use Rattle.dr_run_answer.proofs.Lines.{by_line, new_line, raised_line}
use Rattle.dr_run_answer.proofs.noted.add_line.Goals as goal

pub returns-in-Some : goal.returns-in-Some
returns-in-Some c =
    let line = c.args.line.now in
    by_line line c.args.lines.now.items c.in-Some.place c.raise_line.new.line _
    (sym (ap (position (is_by line.caller line.modality)) c.as_slice.ensures.value) ∙ sym c.place_by.ensures ∙ c.in-Some.is)
    (c.raise_line.ensures ∙ ap (λ (x : Recent). raised_line x line.stored line.refused) c.index_mut.ensures.value)

pub returns-in_ok-push-in-None : goal.returns-in_ok-push-in-None
returns-in_ok-push-in-None c =
    let line = c.args.line.now in
    new_line line c.args.lines.now.items c.push.new.self.items c.in_ok-copy-in-None.copy
    (sym (ap (position (is_by line.caller line.modality)) c.as_slice.ensures.value) ∙ sym c.place_by.ensures ∙ c.in-None.is)
    c.in_ok-copy-in-None.ensures c.in_ok-push-in-None.ensures.items
