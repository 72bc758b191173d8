use Rattle.std.proofs.Common.{List, ◌≡◌, ◌∙◌, ap, map, subst, sym}
use Rattle.std.specs.List.Sorted.{IsStrictlySortedBy}
use Rattle.sqlite.specs.Held.{state}
use Rattle.sqlite.specs.Listing.{understood}
use Rattle.sqlite.proofs.Callers.{IsPlain}
use Rattle.dr_base.specs.Texts.{Text, text_cmp}
use Rattle.dr_ledger_views.specs.Views.{AreCallers}
use Rattle.dr_store_schema.specs.Books.{arrivals_in}
use Rattle.dr_store_reads.specs.Queries.{shown_text}
use Rattle.dr_store_views.specs.Statements as text
use Rattle.dr_store_reads.proofs.Outcomes.{decoded, reads_map, refused}
use Rattle.dr_store_views.proofs.Selects as select
use Rattle.dr_store_views.proofs.Brought.{callers_found}
use Rattle.dr_store_views.proofs.paging.callers_of.Goals as goal

pub returns-in_err-rows : goal.returns-in_err-rows
returns-in_err-rows g c =
    record { asked = refused c.from_residual.ensures (λ has. subst (λ s. IsPlain (understood s text.callers_of)) (sym has.schema) select.callers_of.plain) c.in_err-rows.ensures.asked }

pub returns : goal.returns
returns g c =
    let old = state g.S.Store c.args.conn.now in
    let new = state g.S.Store c.ask.new.conn in
    let rows = c.in_ok-rows.rows.items in
    let uid = c.args.uid.now in
    record {
      asked = decoded _ (λ has. subst (λ s. IsPlain (understood s text.callers_of)) (sym has.schema) select.callers_of.plain)
          (λ has shown. reads_map c.texts_in.result
          (λ all h.
          let is : all ≡ map shown_text rows = h.0 ∙ ap (map shown_text) c.as_slice.ensures.value in
          subst (AreCallers (arrivals_in (old.now.trees 5)) uid) (sym is) (callers_found uid old new rows has (rw c.as_bytes.ensures at shown) (subst (IsStrictlySortedBy text_cmp) is h.1))) c.texts_in.ensures)
          c.in_ok-rows.ensures.asked;
    }
