use Rattle.std.proofs.Common.{◌∙◌, ap, map, subst, sym}
use Rattle.sqlite.specs.Held.{state}
use Rattle.sqlite.specs.Listing.{understood}
use Rattle.sqlite.proofs.Callers.{IsPlain}
use Rattle.dr_store_views.specs.Statements as text
use Rattle.dr_store_reads.proofs.Outcomes.{decoded, reads_map, refused}
use Rattle.dr_store_views.proofs.Selects as select
use Rattle.dr_store_lists.specs.Lists.{shown_entry}
use Rattle.dr_store_views.proofs.Paged.{page_found}
use Rattle.dr_store_views.proofs.paging.page.Goals as goal

pub returns-in_err-rows : goal.returns-in_err-rows
returns-in_err-rows g c =
    record { asked = refused c.from_residual.ensures (λ has. subst (λ s. IsPlain (understood s text.page)) (sym has.schema) select.page.plain) c.in_err-rows.ensures.asked }

pub returns : goal.returns
returns g c =
    let old = state g.S.Store c.args.conn.now in
    let new = state g.S.Store c.ask.new.conn in
    let rows = c.in_ok-rows.rows.items in
    record {
      asked = decoded _ (λ has. subst (λ s. IsPlain (understood s text.page)) (sym has.schema) select.page.plain)
          (λ has shown. reads_map c.entries_in.result
          (λ all h. h ∙ ap (map shown_entry) c.as_slice.ensures.value
          ∙ page_found c.args.dest.now c.args.stage c.args.after.now c.args.limit old new rows has (rw (c.as_bytes.ensures, c.from_cell.ensures, c.to_cell.ensures, c.as_bytes-2.ensures, c.limit_cell.ensures) at shown)) c.entries_in.ensures)
          c.in_ok-rows.ensures.asked;
    }
