use Rattle.std.proofs.Common.{ap}
use Rattle.dr_ledger_history.specs.Lines.{line_of}
use Rattle.dr_ledger_memory.proofs.Content.{forgotten_is, same_content}
use Rattle.dr_ledger_memory.proofs.Ledgers.{forget_kept, forgotten_lets_go}
use Rattle.dr_ledger_memory.proofs.Trees.{either_way}
use Rattle.dr_ledger_memory.proofs.Kept.{bodies_of, journal_of}
use Rattle.dr_ledger_memory.proofs.ledger.MemoryLedger.let_go.Goals as goal

pub invariant_of-self : goal.invariant_of-self
invariant_of-self c =
    let l = c.args.self.now in
    let e = c.try_forget.ensures in
    let order = e.ordered l.ordered in
    let sound = forget_kept l.site l.parts c.try_forget.new.self l.ordered (e.ordered l.ordered) c.args.uid.now c.in_ok-note.note c.requires (ap line_of c.in_ok-note.ensures)
    (either_way c.try_forget.result e.ok e.err) e.waiting l.sound in
    record { ordered = order; sound = sound; journalled = journal_of l.site c.try_forget.new.self sound; bodied = bodies_of l.site c.try_forget.new.self order sound }

pub returns-in-Ok-clause-reply : goal.returns-in-Ok-clause-reply
returns-in-Ok-clause-reply c =
    let l = c.args.self.now in
    let e = c.in-Ok.ensures in
    (c.requires, forgotten_is l.parts c.try_forget.new.self l.ordered (e.ordered l.ordered) c.args.uid.now c.in_ok-note.note e.ok c.requires.unkept (ap line_of c.in_ok-note.ensures))

pub returns-in-Ok-clause-bodies : goal.returns-in-Ok-clause-bodies
returns-in-Ok-clause-bodies c =
    let l = c.args.self.now in
    let e = c.in-Ok.ensures in
    forgotten_lets_go l.parts c.try_forget.new.self l.ordered (e.ordered l.ordered) c.args.uid.now c.in_ok-note.note e.ok

pub returns-in-Err-clause-reply : goal.returns-in-Err-clause-reply
returns-in-Err-clause-reply c = same_content c.args.self.now.parts c.try_forget.new.self c.in-Err.ensures.err
