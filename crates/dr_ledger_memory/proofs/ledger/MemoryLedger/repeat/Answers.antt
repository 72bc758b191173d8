use Rattle.std.proofs.Common.{◌≡◌, sym, subst}
use Rattle.std.specs.BTreeMap as tree
use Rattle.dr_base.specs.Texts.{text_cmp}
use Rattle.dr_ledger.specs.Books.{Repeat}
use Rattle.dr_ledger.specs.Items.{instance_of}
use Rattle.dr_ledger_history.specs.declared.line.JournalLine.{JournalLine}
use Rattle.dr_ledger_history.specs.declared.line.JournalLine.TheVariants as note
use Rattle.dr_ledger_history.specs.Lines.{line_of}
use Rattle.dr_ledger_memory.specs.Changes.{Tree}
use Rattle.dr_ledger_memory.proofs.Content.{repeated_is, same_content}
use Rattle.dr_ledger_memory.proofs.Ledgers.{repeat_kept}
use Rattle.dr_ledger_memory.proofs.Trees.{either_way}
use Rattle.dr_ledger_memory.proofs.Kept.{bodies_of, journal_of}
use Rattle.dr_ledger_memory.proofs.ledger.MemoryLedger.repeat.Goals as goal

pub invariant_of-self : goal.invariant_of-self
invariant_of-self c =
    let l = c.args.self.now in
    let e = c.try_note.ensures in
    let q = c.try_note.new.self in
    let noted : JournalLine = note.Repeat c.in_ok-clone.field-0 c.in_ok-instance.field-0 in
    let line : line_of noted ≡ Repeat c.args.caller.now (instance_of c.args.item.now) = λ j. Repeat (c.in_ok-clone.ensures j) (c.in_ok-instance.ensures j) in
    let P : Tree → Type 0 = λ t. tree.IsOrdered text_cmp t in
    let order = subst P (sym e.held) l.ordered in
    let sound = repeat_kept l.site l.parts q c.args.caller.now (instance_of c.args.item.now) noted (either_way c.try_note.result e.ok e.err) line c.requires.admitted c.requires.again e.held e.waiting l.sound in
    record { ordered = order; sound = sound; journalled = journal_of l.site q sound; bodied = bodies_of l.site q order sound }

pub returns-in-Ok-clause-reply : goal.returns-in-Ok-clause-reply
returns-in-Ok-clause-reply c =
    let noted : JournalLine = note.Repeat c.in_ok-clone.field-0 c.in_ok-instance.field-0 in
    let line : line_of noted ≡ Repeat c.args.caller.now (instance_of c.args.item.now) = λ j. Repeat (c.in_ok-clone.ensures j) (c.in_ok-instance.ensures j) in
    (c.requires.admitted, c.requires.again, repeated_is c.args.self.now.parts c.try_note.new.self c.args.caller.now (instance_of c.args.item.now) noted c.in-Ok.ensures.ok line)

pub returns-in-Err-clause-reply : goal.returns-in-Err-clause-reply
returns-in-Err-clause-reply c = (c.requires.admitted.line, same_content c.args.self.now.parts c.try_note.new.self c.in-Err.ensures.err)
