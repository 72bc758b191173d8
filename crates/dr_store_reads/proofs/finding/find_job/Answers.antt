use Rattle.std.proofs.Common.{ap, subst, sym, ◌∙◌}
use Rattle.dr_store_reads.specs.Queries.{IsJobOf, first_of, shown_job}
use Rattle.dr_store_reads.proofs.Found.{job_found}
use Rattle.sqlite.specs.Held.{state}
use Rattle.sqlite.specs.Listing.{understood}
use Rattle.sqlite.proofs.Callers.{IsPlain}
use Rattle.dr_store_schema.specs.Statements as text
use Rattle.dr_store_reads.proofs.Outcomes.{decoded, reads_map, refused}
use Rattle.dr_store_reads.proofs.Selects as select
use Rattle.dr_store_reads.proofs.finding.find_job.Goals as goal

pub returns-in_err-rows : goal.returns-in_err-rows
returns-in_err-rows g c =
    record { asked = refused c.from_residual.ensures (λ has. subst (λ s. IsPlain (understood s text.find_item)) (sym has.schema) select.find_item.plain) c.in_err-rows.ensures.asked }

pub returns : goal.returns
returns g c =
    let old = state g.S.Store c.args.conn.now in
    let new = state g.S.Store c.ask.new.conn in
    record {
      asked = decoded _ (λ has. subst (λ s. IsPlain (understood s text.find_item)) (sym has.schema) select.find_item.plain)
          (λ has shown. reads_map c.first_job.result (λ found is. subst (IsJobOf c.args.uid.now old.now.trees) (sym (is ∙ ap (first_of (shown_job c.args.uid.now)) c.as_slice.ensures.value)) (job_found old new c.args.uid.now c.in_ok-rows.rows.items has (rw (c.as_bytes.ensures) at shown))) c.first_job.ensures) c.in_ok-rows.ensures.asked;
    }
