use Rattle.std.proofs.Common.{◌∙◌, ap, subst, sym}
use Rattle.sqlite.specs.declared.types.Value.TheVariants.{Null, Text as TextCell}
use Rattle.sqlite.specs.Held.{state}
use Rattle.sqlite.specs.Listing.{understood}
use Rattle.sqlite.proofs.Callers.{IsPlain, reads_as}
use Rattle.dr_store_schema.specs.Tables.{tables}
use Rattle.dr_store_views.specs.Statements as text
use Rattle.dr_store_reads.proofs.Outcomes.{decoded, reads_map, refused}
use Rattle.dr_store_views.proofs.Selects as select
use Rattle.std.proofs.Common.{Some, [], ◌∷◌}
use Rattle.dr_store_schema.specs.Cells.{moment_value}
use Rattle.dr_store_views.specs.Origins.{first_moment_in}
use Rattle.dr_store_views.proofs.coming.moment_of.Goals as goal

pub returns-in_err-rows : goal.returns-in_err-rows
returns-in_err-rows g c =
    record { asked = refused c.from_residual.ensures (λ has. subst (λ s. IsPlain (understood s text.moment_of)) (sym has.schema) select.moment_of.plain) c.in_err-rows.ensures.asked }

pub returns : goal.returns
returns g c =
    let rows = c.in_ok-rows.rows.items in
    let old = state g.S.Store c.args.conn.now in
    let new = state g.S.Store c.ask.new.conn in
    record {
      asked = decoded _ (λ has. subst (λ s. IsPlain (understood s text.moment_of)) (sym has.schema) select.moment_of.plain)
          (λ has shown. reads_map c.told_in.result (λ moment is. (
            rows,
            (reads_as text.moment_of (moment_value (Some c.args.n) ∷ TextCell c.args.uid.now ∷ []) old new tables has.schema _ select.moment_of.command select.moment_of.plain select.moment_of.listing rows (rw (c.as_bytes.ensures, c.moment_cell.ensures) at shown)).answer Null,
            is ∙ ap first_moment_in c.as_slice.ensures.value,
          )) c.told_in.ensures)
          c.in_ok-rows.ensures.asked;
    }
