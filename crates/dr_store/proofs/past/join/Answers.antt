use Rattle.std.proofs.Common.{List, ◌++◌, ap, ◌∙◌}
use Rattle.dr_ledger_history.specs.declared.line.JournalLine.{JournalLine}
use Rattle.dr_store.proofs.past.join.Goals as goal

pub returns : goal.returns
returns c =
    c.in_ok-all.ensures ∙ (ap (λ (l : List JournalLine). l ++ c.into_vec-2.result.items) c.into_vec.ensures ∙ ap (λ (l : List JournalLine). c.args.first ++ l) c.into_vec-2.ensures)
