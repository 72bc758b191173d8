use Rattle.std.proofs.Common.{◌∙◌, ◌++◌, List, ap}
use Rattle.dr_run_answer.specs.Answers.{brought_figures, bytes_figures}
use Rattle.dr_run_answer.specs.Responses.{response_figures}
use Rattle.dr_run_answer.specs.declared.intake.Brought.{Brought}
use Rattle.dr_run_answer.specs.declared.responses.ResponseCount.{ResponseCount}
use Rattle.dr_run_answer.proofs.Chained.{chained}
use Rattle.dr_run_control.proofs.reads.put_callers_of.Goals as goal

pub returns : goal.returns
returns c =
    let old = c.args.out.now.items in
    let brought = c.args.around.now.brought.items in
    let responses = c.args.around.now.responses.items in
    let first = c.put_callers.new.out.items in
    let second = c.put_stored_bytes.new.out.items in
    let e1 = c.in_ok-put_callers.ensures ∙ ap (λ (l : List Brought). old ++ brought_figures l) c.as_slice.ensures.value in
    let e2 = c.in_ok-put_stored_bytes.ensures ∙ ap (λ (l : List Brought). first ++ bytes_figures l) c.as_slice-2.ensures.value in
    let e3 = c.in_ok-put_responses.ensures ∙ ap (λ (l : List ResponseCount). second ++ response_figures l) c.as_slice-3.ensures.value in
    chained old (brought_figures brought ++ bytes_figures brought) (response_figures responses) second c.put_responses.new.out.items
    (chained old (brought_figures brought) (bytes_figures brought) first second e1 e2) e3
