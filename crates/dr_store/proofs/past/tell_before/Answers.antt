use Rattle.std.proofs.Common.{◌≡◌, ◌++◌, List, take, drop, ap, ◌∙◌}
use Rattle.std.proofs.lemmas.List.{map-append}
use Rattle.dr_ledger.specs.Books.{Line}
use Rattle.dr_ledger_history.specs.Lines.{line_of, lines_of}
use Rattle.dr_ledger_history.specs.declared.line.JournalLine.{JournalLine}
use Rattle.dr_store_past.specs.Lines.{past_in}
use Rattle.dr_store_calls.proofs.Reading.{reads_as, same_fault}
use Rattle.dr_store.proofs.past.tell_before.Goals as goal

pub returns-in-Ok-clause-told : goal.returns-in-Ok-clause-told
returns-in-Ok-clause-told g c =
    let front = take c.args.limit (drop c.args.after (past_in g.P.LedgerPast.all_lines (g.P.LedgerPast.reach c.args.past.now))) in
    let first = c.in-Ok.first in
    let more = c.args.more in
    let Clean : Type 0 = g.P.LedgerPast.is_clean c.tell_past.new.past in
    reads_as c.join.result (λ (all : List JournalLine). all ≡ first ++ more) (λ (all : List JournalLine). Clean → lines_of all ≡ front ++ lines_of more)
    (λ all is clean. ap lines_of is ∙ map-append line_of first more ∙ ap (λ (ls : List Line). ls ++ lines_of more) (c.in-Ok.ensures.told clean)) c.join.ensures

pub returns-in-Err-clause-told : goal.returns-in-Err-clause-told
returns-in-Err-clause-told g c =
    let front = take c.args.limit (drop c.args.after (past_in g.P.LedgerPast.all_lines (g.P.LedgerPast.reach c.args.past.now))) in
    let Clean : Type 0 = g.P.LedgerPast.is_clean c.tell_past.new.past in
    same_fault c.in-Err.fault (λ (found : List JournalLine). Clean → lines_of found ≡ front) (λ (all : List JournalLine). Clean → lines_of all ≡ front ++ lines_of c.args.more) c.in-Err.ensures.told
