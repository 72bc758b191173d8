use Rattle.std.proofs.Common.{Some, subst}
use Rattle.sqlite.specs.Held.{state}
use Rattle.dr_store_reads.specs.Queries.{IsOwnerAsShown}
use Rattle.dr_store_open.proofs.Emptied.{made_for}
use Rattle.dr_store_open.proofs.making.test_made.Goals as goal

pub returns-clause-made : goal.returns-clause-made
returns-clause-made g c clean =
    let old = state g.S.Store c.args.tx.now.conn.now in
    let told = c.in_ok-sheets.ensures.answers clean in (
      made_for old.now c.in_ok-sheets.sheets c.args.node.now c.args.cell.now told.0 (c.has_no_rows.ensures c.if-not-has_no_rows.false)
          (subst (λ rows. IsOwnerAsShown rows (Some (record { node = c.args.node.now; plan = c.args.cell.now }))) c.as_slice.ensures.value
          (c.shows_owner.ensures c.if-not-shows_owner.false)),
      told.1,
    )
