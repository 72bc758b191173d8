use Rattle.std.proofs.Common.{◌∙◌, ap, map, subst, sym}
use Rattle.sqlite.specs.Order.{Row, column}
use Rattle.dr_store_lists.proofs.Numbers.{print_rowids_differ}
use Rattle.sqlite.specs.Held.{state}
use Rattle.sqlite.specs.Listing.{understood}
use Rattle.sqlite.proofs.Callers.{IsPlain}
use Rattle.dr_store_schema.specs.Statements as text
use Rattle.dr_store_reads.proofs.Outcomes.{decoded, reads_map, refused}
use Rattle.dr_store_lists.proofs.Wholes as whole
use Rattle.dr_store_lists.proofs.rowids.test_print_rowids.Goals as goal

pub returns-in_err-rows : goal.returns-in_err-rows
returns-in_err-rows g c =
    record { asked = refused c.from_residual.ensures (λ has. subst (λ s. IsPlain (understood s text.print_rowids)) (sym has) whole.print_rowids.plain) c.in_err-rows.ensures.asked }

pub returns : goal.returns
returns g c =
    let old = state g.S.Store c.args.conn.now in
    let new = state g.S.Store c.ask.new.conn in
    let rows = c.in_ok-rows.rows.items in
    record {
      asked = decoded c.test_rowids.result (λ has. subst (λ s. IsPlain (understood s text.print_rowids)) (sym has) whole.print_rowids.plain)
          (λ has shown. reads_map c.test_rowids.result
          (λ done h. print_rowids_differ old new rows h.0 has shown (h.1 ∙ ap (map (λ (r : Row). column r 0)) c.as_slice.ensures.value) h.2) c.test_rowids.ensures) c.in_ok-rows.ensures.asked;
    }
