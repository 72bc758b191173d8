use Rattle.std.proofs.Common.{◌∙◌, ap, subst, sym}
use Rattle.sqlite.specs.declared.types.Value.TheVariants.{Null, Text as TextCell}
use Rattle.sqlite.specs.Held.{state}
use Rattle.sqlite.specs.Listing.{understood}
use Rattle.sqlite.proofs.Callers.{IsPlain, reads_as}
use Rattle.dr_store_schema.specs.Tables.{tables}
use Rattle.dr_store_views.specs.Statements as text
use Rattle.dr_store_reads.proofs.Outcomes.{decoded, reads_map, refused}
use Rattle.dr_store_views.proofs.Selects as select
use Rattle.std.proofs.Common.{[], ◌∷◌}
use Rattle.dr_store_reads.specs.Queries.{first_of}
use Rattle.dr_store_views.specs.Origins.{numbered}
use Rattle.dr_store_views.proofs.coming.line_of.Goals as goal

pub returns-in_err-rows : goal.returns-in_err-rows
returns-in_err-rows g c =
    record { asked = refused c.from_residual.ensures (λ has. subst (λ s. IsPlain (understood s text.line_of)) (sym has.schema) select.line_of.plain) c.in_err-rows.ensures.asked }

pub returns : goal.returns
returns g c =
    let rows = c.in_ok-rows.rows.items in
    let old = state g.S.Store c.args.conn.now in
    let new = state g.S.Store c.ask.new.conn in
    record {
      asked = decoded _ (λ has. subst (λ s. IsPlain (understood s text.line_of)) (sym has.schema) select.line_of.plain)
          (λ has shown. reads_map c.numbered_in.result (λ found is. (
            rows,
            (reads_as text.line_of (TextCell c.args.uid.now ∷ []) old new tables has.schema _ select.line_of.command select.line_of.plain select.line_of.listing rows (rw c.as_bytes.ensures at shown)).answer Null,
            is ∙ ap (first_of numbered) c.as_slice.ensures.value,
          )) c.numbered_in.ensures)
          c.in_ok-rows.ensures.asked;
    }
