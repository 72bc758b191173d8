use Rattle.std.proofs.Common.{◌≡◌, ◌∙◌, T, ap, map, subst, sym}
use Rattle.std.specs.FinMap.Entries.{is_sorted}
use Rattle.std.specs.Ordering.{nat_cmp}
use Rattle.sqlite.specs.Held.{state}
use Rattle.sqlite.specs.Listing.{understood}
use Rattle.sqlite.proofs.Callers.{IsPlain}
use Rattle.dr_store_reads.proofs.Outcomes.{decoded, reads_map, refused}
use Rattle.dr_store_moments.specs.Moments.{shown_moment}
use Rattle.dr_store_moments.specs.Moments as text
use Rattle.dr_store_moments.proofs.Asking as asking
use Rattle.dr_store_moments.proofs.moments.all_moments.Goals as goal

pub returns-in_err-rows : goal.returns-in_err-rows
returns-in_err-rows g c =
    record { asked = refused c.from_residual.ensures (λ has. subst (λ s. IsPlain (understood s text.all_moments)) (sym has) asking.all_moments.plain) c.in_err-rows.ensures.asked }

pub returns : goal.returns
returns g c =
    let old = state g.S.Store c.args.conn.now in
    let new = state g.S.Store c.ask.new.conn in
    let rows = c.in_ok-rows.rows.items in
    record {
      asked = decoded c.moment_entries.result (λ has. subst (λ s. IsPlain (understood s text.all_moments)) (sym has) asking.all_moments.plain)
          (λ has shown. reads_map c.moment_entries.result
          (λ all h. let is : all.items ≡ map shown_moment rows = h.0 ∙ ap (map shown_moment) c.as_slice.ensures.value in is ∙ asking.moments_listed old new rows has shown (subst (λ es. T (is_sorted nat_cmp es)) is h.1)) c.moment_entries.ensures) c.in_ok-rows.ensures.asked;
    }
