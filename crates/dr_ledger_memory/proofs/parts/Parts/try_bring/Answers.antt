use Rattle.std.proofs.Common.{ap, sym, subst, inl, inr}
use Rattle.std.specs.BTreeMap as tree
use Rattle.std.specs.BTreeSet as sorted
use Rattle.dr_base.specs.Texts.{text_cmp}
use Rattle.dr_ledger_memory.specs.Changes.{Tree}
use Rattle.dr_ledger_memory.specs.Dues.{Covers, Due}
use Rattle.dr_ledger_memory.proofs.Steps.{brought_from, on_err, roomed_same, same_from}
use Rattle.dr_ledger_memory.proofs.Trees.{brought_covers, covers_same, either_way, on_ok}
use Rattle.dr_ledger_memory.proofs.parts.Parts.try_bring.Goals as goal

pub returns-in-Ok-clause-ok : goal.returns-in-Ok-clause-ok
returns-in-Ok-clause-ok c =
    let e = c.expect_rows.ensures in
    on_ok c.bring.result (brought_from c.args.self.now c.expect_rows.new.self c.bring.new.self e.held e.arrivals e.notes c.args.new) c.bring.ensures.ok

pub returns-in-Ok-clause-err : goal.returns-in-Ok-clause-err
returns-in-Ok-clause-err c =
    let e = c.expect_rows.ensures in
    on_err c.bring.result (same_from c.args.self.now c.expect_rows.new.self c.bring.new.self e.held e.arrivals e.notes) c.bring.ensures.err

pub returns-in-Ok-clause-ordered : goal.returns-in-Ok-clause-ordered
returns-in-Ok-clause-ordered c = λ h.
    let P : Tree → Type 0 = λ t. tree.IsOrdered text_cmp t in
    c.bring.ensures.ordered (subst P (sym c.expect_rows.ensures.held) h)

pub returns-in-Ok-clause-covers : goal.returns-in-Ok-clause-covers
returns-in-Ok-clause-covers c = λ h.
    let p = c.args.self.now in
    let m = c.expect_rows.new.self in
    let q = c.bring.new.self in
    let e = c.expect_rows.ensures in
    let P : sorted.BTreeSet Due → Type 0 = λ w. Covers w q.held in
    let H : Tree → Type 0 = λ t. Covers p.waiting t in
    let had : Covers p.waiting m.held = subst H (sym e.held) h in
    subst P (sym c.bring.ensures.waiting) (elim (either_way c.bring.result c.bring.ensures.ok c.bring.ensures.err) [
      | inl b ↦ brought_covers p.waiting m.waiting m.held q.held c.args.new.uid c.args.new.rows.items b.after e.grows b.held b.taken.rows_are c.in-Ok.ensures.there had
      | inr s ↦ covers_same p.waiting m.waiting m.held q.held e.grows s.held had
    ])

pub returns-in-Err-clause-err : goal.returns-in-Err-clause-err
returns-in-Err-clause-err c =
    let m = c.expect_rows.new.self in
    let e = c.expect_rows.ensures in
    roomed_same c.args.self.now m m e.held e.arrivals e.notes

pub returns-in-Err-clause-ordered : goal.returns-in-Err-clause-ordered
returns-in-Err-clause-ordered c = λ h.
    let P : Tree → Type 0 = λ t. tree.IsOrdered text_cmp t in
    subst P (sym c.expect_rows.ensures.held) h

pub returns-in-Err-clause-covers : goal.returns-in-Err-clause-covers
returns-in-Err-clause-covers c = λ h.
    let p = c.args.self.now in
    let m = c.expect_rows.new.self in
    let e = c.expect_rows.ensures in
    covers_same p.waiting m.waiting p.held m.held e.grows (ap (λ (t : Tree). t.entries) e.held) h
