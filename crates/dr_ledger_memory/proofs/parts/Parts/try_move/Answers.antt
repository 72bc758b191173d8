use Rattle.std.proofs.Common.{ap, sym, subst}
use Rattle.std.specs.Prelude.{IsSome}
use Rattle.std.specs.BTreeMap as tree
use Rattle.dr_base.specs.Texts.{text_cmp}
use Rattle.dr_ledger_memory.specs.Changes.{Tree}
use Rattle.dr_ledger_memory.specs.Entries.{row_in}
use Rattle.dr_ledger_memory.proofs.Steps.{moved_from, roomed_same}
use Rattle.dr_ledger_memory.proofs.Trees.{covers_same}
use Rattle.dr_ledger_memory.proofs.parts.Parts.try_move.Goals as goal

pub move_on-requires-clause-there : goal.move_on-requires-clause-there
move_on-requires-clause-there c =
    let P : Tree → Type 0 = λ t. IsSome (row_in (tree.get text_cmp t c.args.uid.now) c.args.dest.now) in
    subst P (sym c.expect_row.ensures.held) c.requires.there

pub returns-in-Ok-clause-ok : goal.returns-in-Ok-clause-ok
returns-in-Ok-clause-ok c =
    let e = c.expect_row.ensures in
    moved_from c.args.self.now c.expect_row.new.self c.move_on.new.self e.held e.arrivals e.notes c.args.uid.now c.args.dest.now c.args.progress c.args.note c.move_on.ensures.moved

pub returns-in-Ok-clause-covers : goal.returns-in-Ok-clause-covers
returns-in-Ok-clause-covers c = λ h.
    let p = c.args.self.now in
    let m = c.expect_row.new.self in
    let e = c.expect_row.ensures in
    c.move_on.ensures.covers (covers_same p.waiting m.waiting p.held m.held e.grows (ap (λ (t : Tree). t.entries) e.held) h)

pub returns-in-Err-clause-err : goal.returns-in-Err-clause-err
returns-in-Err-clause-err c =
    let m = c.expect_row.new.self in
    let e = c.expect_row.ensures in
    roomed_same c.args.self.now m m e.held e.arrivals e.notes

pub returns-in-Err-clause-ordered : goal.returns-in-Err-clause-ordered
returns-in-Err-clause-ordered c = λ h.
    let P : Tree → Type 0 = λ t. tree.IsOrdered text_cmp t in
    subst P (sym c.expect_row.ensures.held) h

pub returns-in-Err-clause-covers : goal.returns-in-Err-clause-covers
returns-in-Err-clause-covers c = λ h.
    let p = c.args.self.now in
    let m = c.expect_row.new.self in
    let e = c.expect_row.ensures in
    covers_same p.waiting m.waiting p.held m.held e.grows (ap (λ (t : Tree). t.entries) e.held) h
