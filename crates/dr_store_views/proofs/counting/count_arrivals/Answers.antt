use Rattle.std.proofs.Common.{◌∙◌, ap, subst, sym}
use Rattle.sqlite.specs.Held.{state}
use Rattle.sqlite.specs.Listing.{understood}
use Rattle.sqlite.proofs.Callers.{IsPlain}
use Rattle.dr_store_views.specs.Statements as text
use Rattle.dr_store_reads.proofs.Outcomes.{decoded, reads_map, refused}
use Rattle.dr_store_views.proofs.Selects as select
use Rattle.dr_store_views.proofs.Counted.{arrivals_counted, counted_is, number_first}
use Rattle.dr_store_views.proofs.counting.count_arrivals.Goals as goal

pub returns-in_err-rows : goal.returns-in_err-rows
returns-in_err-rows g c =
    record { asked = refused c.from_residual.ensures (λ has. subst (λ s. IsPlain (understood s text.count_arrivals)) (sym has.schema) select.count_arrivals.plain) c.in_err-rows.ensures.asked }

pub returns : goal.returns
returns g c =
    let old = state g.S.Store c.args.conn.now in
    let new = state g.S.Store c.ask.new.conn in
    let rows = c.in_ok-rows.rows.items in
    record {
      asked = decoded _ (λ has. subst (λ s. IsPlain (understood s text.count_arrivals)) (sym has.schema) select.count_arrivals.plain)
          (λ has shown. reads_map c.first_count.result (λ n is. counted_is _ n _ is (ap number_first c.as_slice.ensures.value ∙ arrivals_counted old new rows has shown)) c.first_count.ensures) c.in_ok-rows.ensures.asked;
    }
