use Rattle.dr_run_ask.specs.Conversations.{OnlyReads}
use Rattle.dr_word_at.proofs.listing.put_all_rows.Given as goal

abbrev pub invariant-loop-hop : goal.invariant-loop-hop
invariant-loop-hop g l = OnlyReads g.A.Asks.answers l.initial.node l.node
