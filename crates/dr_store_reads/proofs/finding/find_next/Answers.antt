use Rattle.std.proofs.Common.{◌∙◌, ◌^◌, ◌-◌, inl, inr, ap, subst, sym, arith}
use Rattle.sqlite.specs.Held.{state}
use Rattle.sqlite.specs.Listing.{understood}
use Rattle.sqlite.proofs.Callers.{IsPlain}
use Rattle.dr_store_schema.specs.Statements as text
use Rattle.dr_store_reads.specs.Queries.{IsFirstDue, first_of, shown_text}
use Rattle.dr_store_reads.proofs.FirstDue.{next_found}
use Rattle.dr_store_reads.proofs.Outcomes.{decoded, reads_map, refused}
use Rattle.dr_store_reads.proofs.Selects as select
use Rattle.dr_store_reads.proofs.finding.find_next.Goals as goal

pub returns-in_err-rows : goal.returns-in_err-rows
returns-in_err-rows g c =
    record { asked = refused c.from_residual.ensures (λ has. subst (λ s. IsPlain (understood s text.find_next)) (sym has.schema) select.find_next.plain) c.in_err-rows.ensures.asked }

pub returns : goal.returns
returns g c =
    let old = state g.S.Store c.args.conn.now in
    let new = state g.S.Store c.ask.new.conn in
    let dest = c.args.dest.now in
    let now = c.args.now in
    let rows = c.in_ok-rows.rows.items in
    elim c.moment_cell.ensures [
      | inl is ↦ record {
        asked = decoded _ (λ has. subst (λ s. IsPlain (understood s text.find_next)) (sym has.schema) select.find_next.plain)
            (λ has shown. reads_map c.first_text.result
            (λ found says. subst (IsFirstDue old.now.trees dest now) (sym (says ∙ ap (first_of shown_text) c.as_slice.ensures.value))
            (next_found dest now now (λ d fits. (λ h. h, λ h. h)) old new has rows (rw (c.as_bytes.ensures, is) at shown)))
            c.first_text.ensures)
            c.in_ok-rows.ensures.asked;
      }
      | inr it ↦ record {
        asked = decoded _ (λ has. subst (λ s. IsPlain (understood s text.find_next)) (sym has.schema) select.find_next.plain)
            (λ has shown. reads_map c.first_text.result
            (λ found says. subst (IsFirstDue old.now.trees dest now) (sym (says ∙ ap (first_of shown_text) c.as_slice.ensures.value))
            (next_found dest now (2 ^ 63 - 1) (λ d fits. (λ h. let late = it.1 in omega (arith, late, h), λ h. omega (arith, fits))) old new has rows (rw (c.as_bytes.ensures, it.0) at shown)))
            c.first_text.ensures)
            c.in_ok-rows.ensures.asked;
      }
    ]
