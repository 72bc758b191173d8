use Rattle.std.proofs.Common.{◌∙◌, map as mapped, ap}
use Rattle.std.proofs.lemmas.List.{take_all}
use Rattle.dr_ledger.specs.Replies.{entry_of}
use Rattle.dr_ledger_history.specs.declared.line.JournalLine.{JournalLine}
use Rattle.dr_ledger_history.specs.Lines.{line_of}
use Rattle.dr_ledger_history.proofs.Listed.{listed_lines}
use Rattle.dr_ledger_history.proofs.line.entries_of.Goals as goal

pub returns : goal.returns
returns c =
    let lines = c.args.lines.now in
    c.loop-line.invariant
    ∙ (ap (mapped (λ (line : JournalLine). entry_of (line_of line))) (take_all c.loop-line.line-index lines c.loop-line-test.false)
    ∙ listed_lines lines)
