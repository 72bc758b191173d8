use Rattle.std.proofs.Common.{◌∙◌, ap, subst, sym}
use Rattle.std.specs.FinMap.{entries}
use Rattle.sqlite.specs.Held.{state}
use Rattle.sqlite.specs.Listing.{understood}
use Rattle.sqlite.proofs.Callers.{IsPlain}
use Rattle.dr_store_views.specs.Statements as text
use Rattle.dr_store_reads.proofs.Outcomes.{decoded, reads_map, refused}
use Rattle.dr_store_views.proofs.Selects as select
use Rattle.dr_ledger_views.specs.Views.{IsLeast, dues}
use Rattle.dr_store_schema.specs.Books.{rows_of}
use Rattle.dr_store_views.proofs.Counted.{number_first}
use Rattle.dr_store_views.proofs.First.{first_found}
use Rattle.dr_store_views.proofs.counting.first_moment.Goals as goal

pub returns-in_err-rows : goal.returns-in_err-rows
returns-in_err-rows g c =
    record { asked = refused c.from_residual.ensures (λ has. subst (λ s. IsPlain (understood s text.first_moment)) (sym has.schema) select.first_moment.plain) c.in_err-rows.ensures.asked }

pub returns : goal.returns
returns g c =
    let old = state g.S.Store c.args.conn.now in
    let new = state g.S.Store c.ask.new.conn in
    let rows = c.in_ok-rows.rows.items in
    record {
      asked = decoded _ (λ has. subst (λ s. IsPlain (understood s text.first_moment)) (sym has.schema) select.first_moment.plain)
          (λ has shown. reads_map c.moment_in.result
          (λ due is. subst (IsLeast (dues (entries (rows_of old.now.trees)) c.args.dest.now)) (sym (is ∙ ap number_first c.as_slice.ensures.value)) (first_found c.args.dest.now old new has rows (rw c.as_bytes.ensures at shown)))
          c.moment_in.ensures)
          c.in_ok-rows.ensures.asked;
    }
