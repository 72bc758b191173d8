use Rattle.std.proofs.Common.{◌≡◌, ◌+◌, ◌++◌, ◌∷◌, [], List, length, take, sym, subst}
use Rattle.std.proofs.lemmas.List.{take_more}
use Rattle.dr_ledger_history.specs.declared.line.JournalLine.{JournalLine}
use Rattle.dr_world_audit.specs.declared.audit.NodeJournal.{NodeJournal}
use Rattle.dr_word_audit_at.specs.declared.moving.FirstLines.{FirstLines}
use Rattle.dr_word_audit_at.specs.Firsts.{AreAllFirst, AreFirst}
use Rattle.dr_word_audit_at.proofs.Noted.{one_journal_more}
use Rattle.dr_word_audit_at.proofs.moving.all_first_lines.Goals as goal

pub loop-node-preserved : goal.loop-node-preserved
loop-node-preserved c =
    let read = c.args.read.now in
    let i = c.loop-node.node-index in
    let node = c.node-item.result in
    let e = take_more read i node c.loop-node-test.true in
    let more : take (i + 1) read ≡ take i read ++ node ∷ [] = rw (← c.node-item.is) at e in
    let one = subst (λ (ls : List JournalLine). AreFirst ls (length ls) c.in_ok-first_lines.field-0) c.as_slice.ensures c.in_ok-first_lines.ensures in
    let P : List FirstLines → List NodeJournal → Type 0 = AreAllFirst in
    subst (P c.push.new.self.items) (sym more) (subst (λ all. P all (take i read ++ node ∷ [])) (sym c.in_ok-push.ensures.items) (one_journal_more c.loop-node.all.items (take i read) c.in_ok-first_lines.field-0 node c.loop-node.invariant one))
