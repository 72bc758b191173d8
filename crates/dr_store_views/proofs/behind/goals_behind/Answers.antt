use Rattle.std.proofs.Common.{◌≡◌, ◌∙◌, ◌<◌, ◌^◌, ℕ, pos, min, refl, arith, ap, map, subst, sym}
use Rattle.std.specs.List.Sorted.{IsStrictlySortedBy}
use Rattle.sqlite.specs.Held.{state}
use Rattle.sqlite.specs.Listing.{understood}
use Rattle.sqlite.proofs.Callers.{IsPlain}
use Rattle.sqlite.specs.declared.types.Value.TheVariants.{Int}
use Rattle.dr_store_lists.specs.Lists.{goal_cmp, shown_goal}
use Rattle.dr_store_views.specs.Spans.{AreGoalsWithin}
use Rattle.dr_store_views.specs.Statements as text
use Rattle.dr_store_reads.proofs.Outcomes.{decoded, reads_map, refused}
use Rattle.dr_store_views.proofs.Selects as select
use Rattle.dr_store_views.proofs.Spans.{goals_found}
use Rattle.dr_store_views.proofs.behind.goals_behind.Goals as goal

pub returns-in_err-rows : goal.returns-in_err-rows
returns-in_err-rows g c =
    record { asked = refused c.from_residual.ensures (λ has. subst (λ s. IsPlain (understood s text.targets_behind)) (sym has.schema) select.targets_behind.plain) c.in_err-rows.ensures.asked }

pub returns : goal.returns
returns g c =
    let old = state g.S.Store c.args.conn.now in
    let new = state g.S.Store c.ask.new.conn in
    let rows = c.in_ok-rows.rows.items in
    let after = c.args.after in
    let last = c.args.last in
    let fits = c.requires in
    let from = c.min-from.ensures in
    let low : c.min-from.result < 2 ^ 63 = omega (arith, from, fits) in
    record {
      asked = decoded c.goal_keys.result (λ has. subst (λ s. IsPlain (understood s text.targets_behind)) (sym has.schema) select.targets_behind.plain)
          (λ has shown. reads_map c.goal_keys.result
          (λ all h.
          let is : all.items ≡ map shown_goal rows = h.0 ∙ ap (map shown_goal) c.as_slice.ensures.value in
          subst (AreGoalsWithin old.now.trees after last) (sym is)
          (goals_found after last (Int (pos (min after last))) (Int (pos last)) (λ le. ap (λ (k : ℕ). Int (pos k)) (omega (arith, le))) refl old new rows has (rw (c.number_cell.ensures low, c.number_cell-2.ensures c.requires, c.min-from.ensures) at shown)
          (subst (IsStrictlySortedBy goal_cmp) is h.1))) c.goal_keys.ensures) c.in_ok-rows.ensures.asked;
    }
