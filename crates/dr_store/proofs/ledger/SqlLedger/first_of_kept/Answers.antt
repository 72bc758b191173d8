use Rattle.std.proofs.Common.{◌≡◌, All, Some, ap, arith, refl, subst, sym, ◌∙◌}
use Rattle.sqlite.specs.Held.{state}
use Rattle.std.proofs.lemmas.List.{take_all}
use Rattle.std.proofs.lemmas.List.Elements.{All-more}
use Rattle.dr_base.specs.Texts.{Text}
use Rattle.dr_store.specs.Reading.{FindsUnreadable, KeptAreThere}
use Rattle.dr_store.proofs.Unreadables.{KeptHasIts, all_kept, has_told, kept_wants, leaves_nothing, leaves_ok, leaves_then, told_before}
use Rattle.dr_store.proofs.ledger.SqlLedger.first_of_kept.Goals as goal

pub loop-one-init : goal.loop-one-init
loop-one-init g c = (leaves_nothing g.P.LedgerPast.all_lines (tt {0}) (g.B.Shelf.read_of c.args.self.now.shelf) (g.B.Shelf.is_clean c.args.self.now.shelf × g.P.LedgerPast.is_clean c.args.self.now.past) (state g.S.Store c.args.self.now.conn) c.args.self.now.failures, refl, λ is safe k d low. absurd (omega (arith, low)))

pub loop-one-preserved : goal.loop-one-preserved
loop-one-preserved g c =
    let base = (state g.S.Store c.args.self.now.conn).committed.trees in
    let mid = (state g.S.Store c.loop-one.self.conn).committed.trees in
    let was_of = g.B.Shelf.read_of c.args.self.now.shelf in
    let mid_of = g.B.Shelf.read_of c.loop-one.self.shelf in
    let one = c.one-item.result in
    let told = c.in_ok-can_read.field-0 in
    let leaves = c.in_ok-can_read.ensures.leaves in (
      leaves_ok _ _ _ _ _ _ _ _ _ (leaves_then _ _ _ _ _ _ _ _ _ _ _ _ _ _ c.loop-one.invariant.0 leaves) (tt {0}),
      c.in_ok-can_read.ensures.site ∙ c.loop-one.invariant.1,
      λ is safe.
          let stood = leaves.stood is safe in
          let same = c.loop-one.invariant.0.same stood.1 stood.0 in
          let its = told_before g.P.LedgerPast.all_lines was_of mid_of base mid same one.0 told (c.in_ok-can_read.ensures.reply is safe) in
          All-more (KeptHasIts was_of base) c.args.kept.now c.loop-one.one-index one c.loop-one-test.true (c.loop-one.invariant.2 stood.1 stood.0)
          (subst (KeptHasIts was_of base) c.one-item.is (has_told was_of base one.0 told c.if-not-branch.false its)),
    )

pub returns-then-not-branch-clause-reply : goal.returns-then-not-branch-clause-reply
returns-then-not-branch-clause-reply g c is safe are =
    let base = (state g.S.Store c.args.self.now.conn).committed.trees in
    let mid = (state g.S.Store c.loop-one.self.conn).committed.trees in
    let was_of = g.B.Shelf.read_of c.args.self.now.shelf in
    let mid_of = g.B.Shelf.read_of c.loop-one.self.shelf in
    let one = c.one-item.result in
    let told = c.in_ok-can_read.field-0 in
    let stood = c.in_ok-can_read.ensures.leaves.stood is safe in
    let same = c.loop-one.invariant.0.same stood.1 stood.0 in
    let its = told_before g.P.LedgerPast.all_lines was_of mid_of base mid same one.0 told (c.in_ok-can_read.ensures.reply is safe) in
    subst (λ (uid : Text). FindsUnreadable KeptAreThere was_of base (Some uid)) (sym c.in_ok-clone.ensures)
    (kept_wants was_of base c.args.kept.now are c.loop-one.one-index one one.0 told c.loop-one-test.true (λ j. (sym c.one-item.is j).0) c.if-not-branch.true its)

pub returns-clause-reply : goal.returns-clause-reply
returns-clause-reply g c is safe are =
    let base = (state g.S.Store c.args.self.now.conn).committed.trees in
    let was_of = g.B.Shelf.read_of c.args.self.now.shelf in
    all_kept was_of base c.args.kept.now are (subst (All (KeptHasIts was_of base)) (take_all c.loop-one.one-index c.args.kept.now (omega (arith, c.loop-one-test.false))) (c.loop-one.invariant.2 is safe))
