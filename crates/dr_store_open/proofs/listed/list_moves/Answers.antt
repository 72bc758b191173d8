use Rattle.std.proofs.Common.{◌≡◌}
use Rattle.std.specs.FinMap as map
use Rattle.dr_base.specs.Texts.{text_cmp}
use Rattle.dr_ledger.specs.Replies.{Lists}
use Rattle.dr_store_schema.specs.Books.{all_kept_in, rows_of}
use Rattle.sqlite.specs.Held.{state}
use Rattle.dr_store_reads.proofs.Outcomes.{refused}
use Rattle.dr_store_open.specs.Listed.{IsMovesOf}
use Rattle.dr_store_open.proofs.Chains.{of_ledger, then_failed, two_asked}
use Rattle.dr_store_open.proofs.listed.list_moves.Goals as goal

pub returns-in_err-kept : goal.returns-in_err-kept
returns-in_err-kept g c =
    record { asked = refused c.from_residual.ensures (λ has. has.schema) c.in_err-kept.ensures.asked }

pub returns-in_err-rows : goal.returns-in_err-rows
returns-in_err-rows g c =
    let old = state g.S.Store c.args.conn.now in
    let mid = state g.S.Store c.all_kept.new.conn in
    let new = state g.S.Store c.all_rows.new.conn in
    record {
      asked = refused c.from_residual-in_err-rows.ensures (λ has. has)
          (then_failed old mid new c.in_ok-kept.kept
          (λ db all. Lists text_cmp (all_kept_in (db.trees 7)) all.items)
          (λ db all. all.items ≡ map.entries (rows_of db.trees))
          (of_ledger old mid _ _ c.in_ok-kept.ensures.asked)
          (of_ledger mid new _ _ c.in_err-rows.ensures.asked));
    }

pub returns : goal.returns
returns g c =
    let old = state g.S.Store c.args.conn.now in
    let mid = state g.S.Store c.all_kept.new.conn in
    let new = state g.S.Store c.all_rows.new.conn in
    let one = c.in_ok-kept.kept in
    let other = c.in_ok-rows.rows in
    record {
      asked = two_asked old mid new one other (record { kept = one; rows = other })
          (λ db all. Lists text_cmp (all_kept_in (db.trees 7)) all.items)
          (λ db all. all.items ≡ map.entries (rows_of db.trees))
          (λ db both. IsMovesOf db.trees both)
          (λ db a b. record { kept = a; rows = b })
          (of_ledger old mid _ _ c.in_ok-kept.ensures.asked)
          (of_ledger mid new _ _ c.in_ok-rows.ensures.asked);
    }
