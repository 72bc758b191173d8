use Rattle.dr_ledger_memory.proofs.Content.{adopted_is, same_content}
use Rattle.dr_ledger_memory.proofs.Ledgers.{adopt_either, adopt_kept, adopted_lets_go}
use Rattle.dr_ledger_memory.proofs.Trees.{either_way}
use Rattle.dr_ledger_memory.proofs.Kept.{bodies_of, journal_of}
use Rattle.dr_ledger_memory.proofs.ledger.MemoryLedger.go_over.Goals as goal

pub invariant_of-self-in-Err : goal.invariant_of-self-in-Err
invariant_of-self-in-Err c =
    let l = c.args.self.now in
    let e = c.try_adopt.ensures in
    let order = e.ordered l.ordered in
    let sound = adopt_either l.site l.parts c.try_adopt.new.self l.ordered (e.ordered l.ordered) (either_way c.try_adopt.result e.ok e.err) e.waiting l.sound in
    record { ordered = order; sound = sound; journalled = journal_of l.site c.try_adopt.new.self sound; bodied = bodies_of l.site c.try_adopt.new.self order sound }

pub returns-in-Err-clause-reply : goal.returns-in-Err-clause-reply
returns-in-Err-clause-reply c = same_content c.args.self.now.parts c.try_adopt.new.self c.in-Err.ensures.err

pub invariant_of-self : goal.invariant_of-self
invariant_of-self c =
    let l = c.args.self.now in
    let e = c.try_adopt.ensures in
    let order = e.ordered l.ordered in
    let sound = adopt_kept l.site c.put_site.new.site l.parts c.try_adopt.new.self l.ordered (e.ordered l.ordered) c.in-Ok.ensures.ok e.waiting l.sound in
    record { ordered = order; sound = sound; journalled = journal_of c.put_site.new.site c.try_adopt.new.self sound; bodied = bodies_of c.put_site.new.site c.try_adopt.new.self order sound }

pub returns-in-Ok-clause-reply : goal.returns-in-Ok-clause-reply
returns-in-Ok-clause-reply c =
    let l = c.args.self.now in
    adopted_is l.parts c.try_adopt.new.self l.ordered (c.try_adopt.ensures.ordered l.ordered) c.in-Ok.ensures.ok

pub returns-in-Ok-clause-bodies : goal.returns-in-Ok-clause-bodies
returns-in-Ok-clause-bodies c =
    let l = c.args.self.now in
    adopted_lets_go l.parts c.try_adopt.new.self l.ordered (c.try_adopt.ensures.ordered l.ordered) c.in-Ok.ensures.ok
