use Rattle.std.proofs.Common.{◌∙◌, ◌++◌, ℕ, List, Some, ap}
use Rattle.dr_ledger_views.specs.Views.{how_many}
use Rattle.dr_ledger_views.specs.declared.stage.Stage.TheVariants as stages
use Rattle.dr_word_list.specs.Summaries.{queue_line}
use Rattle.dr_word_list.proofs.summary.put_queue.Goals as goal

pub returns : goal.returns
returns c =
    let n = c.counts_of-counts.result in
    let its = c.counts_of-counts.ensures in
    let rows = c.args.rows.now in
    let dest = c.args.dest.now in
    let waiting = how_many rows dest (Some stages.Waiting) in
    let held = how_many rows dest (Some stages.Held) in (
      queue_line c.as_bytes.result.now n.waiting n.held n.done n.oldest,
      (
        n.oldest,
        its.oldest,
        ap (λ (t : List ℕ). queue_line t n.waiting n.held n.done n.oldest) c.as_bytes.ensures
            ∙ (ap (λ (x : ℕ). queue_line dest x n.held n.done n.oldest) its.waiting
            ∙ (ap (λ (x : ℕ). queue_line dest waiting x n.done n.oldest) its.held
            ∙ ap (λ (x : ℕ). queue_line dest waiting held x n.oldest) its.done)),
      ),
      c.in_ok-put_queue_line.ensures,
    )
