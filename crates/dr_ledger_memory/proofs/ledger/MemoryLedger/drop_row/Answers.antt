use Rattle.std.proofs.Common.{ap, refl}
use Rattle.dr_ledger.specs.declared.item.Progress.TheVariants.{Held, Dropped}
use Rattle.dr_ledger_history.specs.Lines.{line_of}
use Rattle.dr_ledger_memory.proofs.Content.{dropped_so, same_content}
use Rattle.dr_ledger_memory.proofs.Ledgers.{drop_kept, only_lets_go, row_there}
use Rattle.dr_ledger_memory.proofs.Trees.{either_way}
use Rattle.dr_ledger_memory.proofs.Kept.{bodies_of, journal_of}
use Rattle.dr_ledger_memory.proofs.ledger.MemoryLedger.drop_row.Goals as goal

pub try_drop-requires : goal.try_drop-requires
try_drop-requires c = record { there = row_there c.args.self.now.parts c.args.self.now.ordered c.args.uid.now c.args.dest.now (Held c.args.why) c.requires.held }

pub invariant_of-self : goal.invariant_of-self
invariant_of-self c =
    let l = c.args.self.now in
    let e = c.try_drop.ensures in
    let order = e.ordered l.ordered in
    let sound = drop_kept l.site l.parts c.try_drop.new.self l.ordered (e.ordered l.ordered) c.args.uid.now c.args.dest.now c.in_ok-note.note c.args.now c.args.why
    c.requires.held c.requires.early (ap line_of c.in_ok-note.ensures) (either_way c.try_drop.result e.ok e.err) e.covers l.sound in
    record { ordered = order; sound = sound; journalled = journal_of l.site c.try_drop.new.self sound; bodied = bodies_of l.site c.try_drop.new.self order sound }

pub returns-in-Ok-clause-reply : goal.returns-in-Ok-clause-reply
returns-in-Ok-clause-reply c =
    let l = c.args.self.now in
    let e = c.in-Ok.ensures in (
      (c.args.why, c.requires.held),
      dropped_so l.parts c.try_drop.new.self l.ordered (e.ordered l.ordered) c.args.uid.now c.args.dest.now c.in_ok-note.note e.ok c.args.now c.args.why
          c.requires.held (ap line_of c.in_ok-note.ensures),
    )

pub returns-in-Ok-clause-bodies : goal.returns-in-Ok-clause-bodies
returns-in-Ok-clause-bodies c =
    let l = c.args.self.now in
    let e = c.in-Ok.ensures in
    only_lets_go l.site l.parts c.try_drop.new.self l.ordered (e.ordered l.ordered) c.args.uid.now c.args.dest.now Dropped (Held c.args.why)
    c.requires.held refl e.ok.held

pub returns-in-Err-clause-reply : goal.returns-in-Err-clause-reply
returns-in-Err-clause-reply c = same_content c.args.self.now.parts c.try_drop.new.self c.in-Err.ensures.err
