use Rattle.std.proofs.Common.{◌∙◌, ◌++◌, ℕ, List, ap}
use Rattle.dr_word_list.specs.Summaries.{queue_line}
use Rattle.dr_word_at.proofs.shown.put_queue.Goals as goal

pub returns : goal.returns
returns c =
    let dest = c.in_ok-dest.dest.now in
    let line = queue_line dest c.in_ok-waiting.waiting c.in_ok-held.held c.in_ok-done.done in (
      line c.number_at.result,
      (
        dest,
        c.in_ok-waiting.waiting,
        c.in_ok-held.held,
        c.in_ok-done.done,
        c.in_ok-dest.ensures,
        c.in_ok-waiting.ensures,
        c.in_ok-held.ensures,
        c.in_ok-done.ensures,
        ap line c.number_at.ensures,
      ),
      c.in_ok-put_queue_line.ensures
          ∙ ap (λ (t : List ℕ). c.args.out.now.items ++ queue_line t c.in_ok-waiting.waiting c.in_ok-held.held c.in_ok-done.done c.number_at.result) c.as_bytes.ensures.value,
    )
