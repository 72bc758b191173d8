use Rattle.std.proofs.Common.{◌∙◌, List, bytes_eq, position, ap, sym}
use Rattle.dr_run_answer.specs.declared.intake.Brought.{Brought}
use Rattle.dr_run_answer.proofs.Totals.{counted_at, raised, told_first}
use Rattle.dr_run_answer.proofs.noted.note_caller.Goals as goal

pub returns-in-Some : goal.returns-in-Some
returns-in-Some c =
    let share = c.share_of-share.result in
    let xs = c.args.callers.now.items in
    counted_at c.args.caller.now c.args.answer c.args.size share xs c.in-Some.place c.raise.new.brought _ c.share_of-share.ensures
    (sym (ap (λ (ys : List Brought). position (λ b. bytes_eq b.caller c.args.caller.now) ys) c.as_slice.ensures.value) ∙ sym c.place_of.ensures ∙ c.in-Some.is)
    (c.raise.ensures ∙ ap (λ (x : Brought). raised x share) c.index_mut.ensures.value)

pub returns-in-None : goal.returns-in-None
returns-in-None c =
    let share = c.share_of-share.result in
    let xs = c.args.callers.now.items in
    told_first c.args.caller.now c.args.answer c.args.size share xs c.add_first.new.callers.items c.add_first.result c.share_of-share.ensures
    (sym (ap (λ (ys : List Brought). position (λ b. bytes_eq b.caller c.args.caller.now) ys) c.as_slice.ensures.value) ∙ sym c.place_of.ensures ∙ c.in-None.is)
    c.add_first.ensures
