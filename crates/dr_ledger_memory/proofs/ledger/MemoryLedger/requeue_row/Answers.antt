use Rattle.std.proofs.Common.{ap, refl}
use Rattle.dr_ledger.specs.declared.item.Progress.TheVariants.{Held, Waiting}
use Rattle.dr_ledger_history.specs.Lines.{line_of}
use Rattle.dr_ledger_memory.proofs.Content.{requeued_so, same_content}
use Rattle.dr_ledger_memory.proofs.Ledgers.{only_lets_go, requeue_kept, row_there}
use Rattle.dr_ledger_memory.proofs.Trees.{either_way}
use Rattle.dr_ledger_memory.proofs.Kept.{bodies_of, journal_of}
use Rattle.dr_ledger_memory.proofs.ledger.MemoryLedger.requeue_row.Goals as goal

pub try_move-requires : goal.try_move-requires
try_move-requires c = record { there = row_there c.args.self.now.parts c.args.self.now.ordered c.args.uid.now c.args.dest.now (Held c.args.why) c.requires }

pub invariant_of-self : goal.invariant_of-self
invariant_of-self c =
    let l = c.args.self.now in
    let e = c.try_move.ensures in
    let order = e.ordered l.ordered in
    let sound = requeue_kept l.site l.parts c.try_move.new.self l.ordered (e.ordered l.ordered) c.args.uid.now c.args.dest.now (Waiting 0 0) c.in_ok-note.note c.args.why
    c.requires refl (ap line_of c.in_ok-note.ensures) (either_way c.try_move.result e.ok e.err) e.covers l.sound in
    record { ordered = order; sound = sound; journalled = journal_of l.site c.try_move.new.self sound; bodied = bodies_of l.site c.try_move.new.self order sound }

pub returns-in-Ok-clause-reply : goal.returns-in-Ok-clause-reply
returns-in-Ok-clause-reply c =
    let l = c.args.self.now in
    let e = c.in-Ok.ensures in (
      (c.args.why, c.requires),
      requeued_so l.parts c.try_move.new.self l.ordered (e.ordered l.ordered) c.args.uid.now c.args.dest.now (Waiting 0 0) c.in_ok-note.note e.ok c.args.why
          c.requires refl (ap line_of c.in_ok-note.ensures),
    )

pub returns-in-Ok-clause-bodies : goal.returns-in-Ok-clause-bodies
returns-in-Ok-clause-bodies c =
    let l = c.args.self.now in
    let e = c.in-Ok.ensures in
    only_lets_go l.site l.parts c.try_move.new.self l.ordered (e.ordered l.ordered) c.args.uid.now c.args.dest.now (Waiting 0 0) (Held c.args.why)
    c.requires refl e.ok.held

pub returns-in-Err-clause-reply : goal.returns-in-Err-clause-reply
returns-in-Err-clause-reply c = same_content c.args.self.now.parts c.try_move.new.self c.in-Err.ensures.err
