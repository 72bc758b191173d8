use Rattle.std.proofs.Common.{ap, subst, sym, ◌∙◌}
use Rattle.dr_store_reads.specs.Queries.{first_of, shown_progress}
use Rattle.dr_store_reads.proofs.Found.{row_found}
use Rattle.sqlite.specs.Held.{state}
use Rattle.sqlite.specs.Listing.{understood}
use Rattle.sqlite.proofs.Callers.{IsPlain}
use Rattle.dr_store_schema.specs.Statements as text
use Rattle.dr_store_reads.proofs.Outcomes.{decoded, reads_map, refused}
use Rattle.dr_store_reads.proofs.Selects as select
use Rattle.dr_store_reads.proofs.finding.find_row.Goals as goal

pub returns-in_err-rows : goal.returns-in_err-rows
returns-in_err-rows g c =
    record { asked = refused c.from_residual.ensures (λ has. subst (λ s. IsPlain (understood s text.find_row)) (sym has.schema) select.find_row.plain) c.in_err-rows.ensures.asked }

pub returns : goal.returns
returns g c =
    let old = state g.S.Store c.args.conn.now in
    let new = state g.S.Store c.ask.new.conn in
    record {
      asked = decoded _ (λ has. subst (λ s. IsPlain (understood s text.find_row)) (sym has.schema) select.find_row.plain)
          (λ has shown. reads_map c.first_progress.result (λ found is. is ∙ ap (first_of shown_progress) c.as_slice.ensures.value ∙ row_found old new (c.args.uid.now, c.args.dest.now) c.in_ok-rows.rows.items has (rw (c.as_bytes.ensures, c.as_bytes-2.ensures) at shown)) c.first_progress.ensures) c.in_ok-rows.ensures.asked;
    }
