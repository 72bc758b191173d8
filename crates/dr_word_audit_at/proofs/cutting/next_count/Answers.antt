use Rattle.std.proofs.Common.{◌∙◌, ◌-◌, List, ℕ, length, ap, subst}
use Rattle.dr_ledger_history.specs.declared.line.JournalLine.{JournalLine}
use Rattle.dr_word_audit_at.specs.Cuts.{IsUpToNext}
use Rattle.dr_word_audit_at.proofs.CutJournals.{up_to_next}
use Rattle.dr_word_audit_at.proofs.cutting.next_count.Goals as goal

pub returns-in-Some : goal.returns-in-Some
returns-in-Some c =
    let lines = c.args.lines.now in
    let more = c.in-Some.more in
    let next = subst (λ (ls : List JournalLine). IsUpToNext c.args.missing.now ls more) c.behind-rest.ensures c.in-Some.ensures in
    let long = c.saturating_sub-in-Some.ensures ∙ ap (λ (k : ℕ). length lines - k) c.saturating_sub.ensures in
    (more, next, long ∙ ap (λ (ls : List JournalLine). length lines - (length ls - more)) c.behind-rest.ensures ∙ up_to_next c.args.missing.now lines c.args.count more next)
