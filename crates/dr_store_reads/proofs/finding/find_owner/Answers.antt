use Rattle.std.proofs.Common.{subst, sym}
use Rattle.sqlite.specs.Held.{state}
use Rattle.sqlite.specs.Listing.{understood}
use Rattle.sqlite.proofs.Callers.{IsPlain}
use Rattle.dr_store_schema.specs.Statements as text
use Rattle.dr_store_reads.specs.Queries.{IsOwnerAsShown}
use Rattle.dr_store_reads.proofs.Outcomes.{decoded, reads_map, refused}
use Rattle.dr_store_reads.proofs.Owned.{owner_found}
use Rattle.dr_store_reads.proofs.Selects as select
use Rattle.dr_store_reads.proofs.finding.find_owner.Goals as goal

pub returns-in_err-rows : goal.returns-in_err-rows
returns-in_err-rows g c =
    record { asked = refused c.from_residual.ensures (λ has. subst (λ s. IsPlain (understood s text.the_site)) (sym has.schema) select.the_site.plain) c.in_err-rows.ensures.asked }

pub returns : goal.returns
returns g c =
    let old = state g.S.Store c.args.conn.now in
    let new = state g.S.Store c.ask.new.conn in
    record {
      asked = decoded c.one_owner.result (λ has. subst (λ s. IsPlain (understood s text.the_site)) (sym has.schema) select.the_site.plain)
          (λ has shown. reads_map c.one_owner.result
          (λ found is. owner_found old new c.in_ok-rows.rows.items has shown found (subst (λ rows. IsOwnerAsShown rows found) c.as_slice.ensures.value is)) c.one_owner.ensures) c.in_ok-rows.ensures.asked;
    }
