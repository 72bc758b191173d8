use Rattle.std.proofs.Common.{◌∙◌, List, Option, ap, position, subst, sym, ℕ}
use Rattle.dr_run_answer.specs.Responses.{IsCountedUnder, is_line_of}
use Rattle.dr_run_answer.specs.declared.responses.ResponseCount.{ResponseCount}
use Rattle.dr_run_answer.proofs.Statuses.{raised_count, told_at, told_first}
use Rattle.dr_run_answer.proofs.responses.note_status.Goals as goal

pub returns-in-Some : goal.returns-in-Some
returns-in-Some c =
    let caller = c.args.caller.now in
    let xs = c.args.lines.now.items in
    let rule : IsCountedUnder caller c.args.status xs c.counted_under-under.result =
    (let P : List ResponseCount → Type 0 = λ ys. IsCountedUnder caller c.args.status ys c.counted_under-under.result in subst P c.as_slice.ensures.value c.counted_under-under.ensures) in
    told_at caller c.args.status c.counted_under-under.result xs rule c.in-Some.place c.raise.new.line _
    (sym (ap (position (is_line_of caller c.counted_under-under.result)) c.as_slice-2.ensures.value) ∙ sym c.place_of.ensures ∙ c.in-Some.is)
    (c.raise.ensures ∙ ap raised_count c.index_mut.ensures.value)

pub returns-in-None : goal.returns-in-None
returns-in-None c =
    let caller = c.args.caller.now in
    let xs = c.args.lines.now.items in
    let rule : IsCountedUnder caller c.args.status xs c.counted_under-under.result =
    (let P : List ResponseCount → Type 0 = λ ys. IsCountedUnder caller c.args.status ys c.counted_under-under.result in subst P c.as_slice.ensures.value c.counted_under-under.ensures) in
    told_first caller c.args.status c.counted_under-under.result xs rule c.add_first.new.lines.items c.add_first.result
    (sym (ap (position (is_line_of caller c.counted_under-under.result)) c.as_slice-2.ensures.value) ∙ sym c.place_of.ensures ∙ c.in-None.is)
    c.add_first.ensures
