use Rattle.std.proofs.Common.{◌≡◌, ◌≤◌, ◌++◌, List, take, drop, ap, subst, ◌∙◌}
use Rattle.dr_ledger.specs.Books.{Line}
use Rattle.dr_ledger_history.specs.Lines.{lines_of}
use Rattle.dr_ledger_history.specs.declared.line.JournalLine.{JournalLine}
use Rattle.dr_store_sealed.specs.declared.seal.Seal.{Seal}
use Rattle.dr_store_past.specs.Lines.{past_in}
use Rattle.dr_store_calls.proofs.Reading.{reads_as}
use Rattle.dr_store.proofs.Pasts.{all_taken}
use Rattle.dr_store.proofs.past.tell_all_before.Goals as goal

pub returns-clause-told : goal.returns-clause-told
returns-clause-told g c =
    let all = g.P.LedgerPast.all_lines in
    let seal = g.P.LedgerPast.reach c.args.past.now in
    let past = past_in all seal in
    let own = lines_of c.args.more in
    let Clean : Type 0 = g.P.LedgerPast.is_clean c.tell_before.new.past in
    let whole : take 4294967295 (drop 0 past) ≡ past = all_taken seal.count 4294967295 all (subst (λ (s : Seal). s.count ≤ 4294967295) c.seal.ensures (c.is_listed.ensures.0 c.if-not-is_listed.false)) in
    reads_as c.tell_before.result (λ (told : List JournalLine). Clean → lines_of told ≡ take 4294967295 (drop 0 past) ++ own) (λ (told : List JournalLine). Clean → lines_of told ≡ past ++ own)
    (λ told is clean. is clean ∙ ap (λ (ls : List Line). ls ++ own) whole) c.tell_before.ensures.told
