use Rattle.std.proofs.Common.{◌≤◌, length}
use Rattle.dr_run_ask.specs.Conversations.{OnlyReads}
use Rattle.dr_word_audit_at.specs.Pages.{ReadsLines}
use Rattle.dr_word_audit_at.proofs.paging.read_lines.Given as goal

abbrev pub invariant-loop-page : goal.invariant-loop-page
invariant-loop-page g l = OnlyReads g.A.Asks.answers l.initial.node l.node
    × ReadsLines g.A.Asks.answers l.meant.name.now l.meant.digest.now l.initial.node l.lines l.node
    × (length l.lines ≤ l.count)
