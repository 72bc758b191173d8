use Rattle.std.proofs.Common.{◌≡◌, ◌∙◌, ◌<◌, ◌^◌, ℕ, pos, min, refl, arith, T, ap, map, subst, sym}
use Rattle.std.specs.FinMap.Entries.{is_sorted}
use Rattle.std.specs.Ordering.{nat_cmp}
use Rattle.sqlite.specs.Held.{state}
use Rattle.sqlite.specs.Listing.{understood}
use Rattle.sqlite.proofs.Callers.{IsPlain}
use Rattle.sqlite.specs.declared.types.Value.TheVariants.{Int}
use Rattle.dr_store_lists.specs.Lists.{shown_note_entry}
use Rattle.dr_store_views.specs.Spans.{AreNotesWithin, CountsUp}
use Rattle.dr_store_views.specs.Statements as text
use Rattle.dr_store_reads.proofs.Outcomes.{decoded, reads_map, refused}
use Rattle.dr_store_views.proofs.Selects as select
use Rattle.dr_store_views.proofs.Spans.{notes_found}
use Rattle.dr_store_views.proofs.behind.notes_behind.Goals as goal

pub returns-in_err-rows : goal.returns-in_err-rows
returns-in_err-rows g c =
    record { asked = refused c.from_residual.ensures (λ has. subst (λ s. IsPlain (understood s text.lines_behind)) (sym has.schema) select.lines_behind.plain) c.in_err-rows.ensures.asked }

pub returns : goal.returns
returns g c =
    let old = state g.S.Store c.args.conn.now in
    let new = state g.S.Store c.ask.new.conn in
    let rows = c.in_ok-rows.rows.items in
    let after = c.args.after in
    let last = c.args.last in
    let fits = c.requires in
    let from = c.min-from.ensures in
    let low : c.min-from.result < 2 ^ 63 = omega (arith, from, fits) in
    record {
      asked = decoded c.notes_in.result (λ has. subst (λ s. IsPlain (understood s text.lines_behind)) (sym has.schema) select.lines_behind.plain)
          (λ has shown. reads_map c.notes_in.result
          (λ all h.
          let is : all.items ≡ map shown_note_entry rows = h.0 ∙ ap (map shown_note_entry) c.as_slice.ensures.value in
          subst (AreNotesWithin old.now.trees after last) (sym is)
          (notes_found after last (Int (pos (min after last))) (Int (pos last)) (λ le. ap (λ (k : ℕ). Int (pos k)) (omega (arith, le))) refl old new rows has (rw (c.number_cell.ensures low, c.number_cell-2.ensures c.requires, c.min-from.ensures) at shown)
          (subst (λ es. T (is_sorted nat_cmp es)) is h.1) (subst (CountsUp after last) is h.2))) c.notes_in.ensures) c.in_ok-rows.ensures.asked;
    }
