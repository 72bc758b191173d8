use Rattle.std.proofs.Common.{refl, subst, sym}
use Rattle.std.specs.List.{AllByRecursion}
use Rattle.dr_store_reads.specs.Queries.{IsCountedAsShown}
use Rattle.dr_store_lists.proofs.Numbers.{counts_shown}
use Rattle.sqlite.specs.Held.{state}
use Rattle.sqlite.specs.Listing.{understood}
use Rattle.sqlite.proofs.Callers.{IsPlain}
use Rattle.dr_store_schema.specs.Statements as text
use Rattle.dr_store_reads.proofs.Outcomes.{decoded, refused}
use Rattle.dr_store_reads.proofs.Selects as select
use Rattle.dr_store_lists.proofs.rowids.test_counts.Goals as goal

pub returns-in_err-rows : goal.returns-in_err-rows
returns-in_err-rows g c =
    record { asked = refused c.from_residual.ensures (λ has. subst (λ s. IsPlain (understood s text.queue_counts)) (sym has) select.queue_counts.plain) c.in_err-rows.ensures.asked }

pub returns-then-not-are_counted : goal.returns-then-not-are_counted
returns-then-not-are_counted g c =
    record { asked = decoded _ (λ has. subst (λ s. IsPlain (understood s text.queue_counts)) (sym has) select.queue_counts.plain) (λ has shown. tt) c.in_ok-rows.ensures.asked }

pub returns : goal.returns
returns g c =
    let old = state g.S.Store c.args.conn.now in
    let new = state g.S.Store c.ask.new.conn in
    let rows = c.in_ok-rows.rows.items in
    record {
      asked = decoded _ (λ has. subst (λ s. IsPlain (understood s text.queue_counts)) (sym has) select.queue_counts.plain)
          (λ has shown. counts_shown old new rows has shown (subst (AllByRecursion IsCountedAsShown) c.as_slice.ensures.value (c.if-not-are_counted.ensures refl))) c.in_ok-rows.ensures.asked;
    }
