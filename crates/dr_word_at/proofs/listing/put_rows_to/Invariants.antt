use Rattle.dr_run_ask.specs.Conversations.{OnlyReads}
use Rattle.dr_word_at.proofs.listing.put_rows_to.Given as goal

abbrev pub invariant-loop-page : goal.invariant-loop-page
invariant-loop-page g l = OnlyReads g.A.Asks.answers l.initial.node l.node
