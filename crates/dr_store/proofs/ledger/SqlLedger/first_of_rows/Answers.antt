use Rattle.std.proofs.Common.{◌≡◌, ◌<◌, All, List, Some, ap, arith, get_or, length, refl, subst, sym, ◌∙◌}
use Rattle.sqlite.specs.Held.{state}
use Rattle.std.proofs.lemmas.List.{take_all}
use Rattle.std.proofs.lemmas.List.Elements.{All-more}
use Rattle.dr_base.specs.Texts.{Text}
use Rattle.dr_ledger.specs.declared.item.Progress.{Progress}
use Rattle.dr_ledger.specs.Pairs.{Pair}
use Rattle.dr_store.specs.Reading.{FindsUnreadable, QueuedAreThere}
use Rattle.dr_store.proofs.Unreadables.{RowHasIts, all_rows, leaves_nothing, leaves_ok, leaves_then, queued_before, row_told, rows_want}
use Rattle.dr_store.proofs.ledger.SqlLedger.first_of_rows.Goals as goal

pub loop-row-init : goal.loop-row-init
loop-row-init g c = (leaves_nothing g.P.LedgerPast.all_lines (tt {0}) (g.B.Shelf.read_of c.args.self.now.shelf) (g.B.Shelf.is_clean c.args.self.now.shelf × g.P.LedgerPast.is_clean c.args.self.now.past) (state g.S.Store c.args.self.now.conn) c.args.self.now.failures, refl, λ is safe k d low. absurd (omega (arith, low)))

pub loop-row-preserved : goal.loop-row-preserved
loop-row-preserved g c =
    let base = (state g.S.Store c.args.self.now.conn).committed.trees in
    let mid = (state g.S.Store c.loop-row.self.conn).committed.trees in
    let was_of = g.B.Shelf.read_of c.args.self.now.shelf in
    let mid_of = g.B.Shelf.read_of c.loop-row.self.shelf in
    let row = c.row-item.result in
    let told = c.in_ok-has_what_it_sends.field-0 in
    let leaves = c.in_ok-has_what_it_sends.ensures.leaves in (
      leaves_ok _ _ _ _ _ _ _ _ _ (leaves_then _ _ _ _ _ _ _ _ _ _ _ _ _ _ c.loop-row.invariant.0 leaves) (tt {0}),
      c.in_ok-has_what_it_sends.ensures.site ∙ c.loop-row.invariant.1,
      λ is safe.
          let stood = leaves.stood is safe in
          let same = c.loop-row.invariant.0.same stood.1 stood.0 in
          let its = queued_before g.P.LedgerPast.all_lines was_of mid_of base mid same row told (c.in_ok-has_what_it_sends.ensures.reply is safe) in
          All-more (RowHasIts was_of base) c.args.rows.now c.loop-row.row-index row c.loop-row-test.true (c.loop-row.invariant.2 stood.1 stood.0)
          (subst (RowHasIts was_of base) c.row-item.is (row_told was_of base row told c.if-not-branch.false its)),
    )

pub returns-then-not-branch-clause-reply : goal.returns-then-not-branch-clause-reply
returns-then-not-branch-clause-reply g c is safe are =
    let base = (state g.S.Store c.args.self.now.conn).committed.trees in
    let mid = (state g.S.Store c.loop-row.self.conn).committed.trees in
    let was_of = g.B.Shelf.read_of c.args.self.now.shelf in
    let mid_of = g.B.Shelf.read_of c.loop-row.self.shelf in
    let i = c.loop-row.row-index in
    let row = c.row-item.result in
    let told = c.in_ok-has_what_it_sends.field-0 in
    let stood = c.in_ok-has_what_it_sends.ensures.leaves.stood is safe in
    let same = c.loop-row.invariant.0.same stood.1 stood.0 in
    let its = queued_before g.P.LedgerPast.all_lines was_of mid_of base mid same row told (c.in_ok-has_what_it_sends.ensures.reply is safe) in
    subst (λ (uid : Text). FindsUnreadable QueuedAreThere was_of base (Some uid)) (sym c.in_ok-clone.ensures)
    (rows_want was_of base i row told (subst (λ (rs : List (Pair × Progress)). i < length rs) are c.loop-row-test.true) (ap (λ (rs : List (Pair × Progress)). get_or rs i row) (sym are) ∙ sym c.row-item.is) c.if-not-branch.true its)

pub returns-clause-reply : goal.returns-clause-reply
returns-clause-reply g c is safe are =
    let base = (state g.S.Store c.args.self.now.conn).committed.trees in
    let was_of = g.B.Shelf.read_of c.args.self.now.shelf in
    let each = subst (All (RowHasIts was_of base)) (take_all c.loop-row.row-index c.args.rows.now (omega (arith, c.loop-row-test.false))) (c.loop-row.invariant.2 is safe) in
    all_rows was_of base (subst (All (RowHasIts was_of base)) are each)
