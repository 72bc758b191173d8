use Rattle.std.proofs.Common.{◌≡◌, ◌∙◌, T, ap, map, subst, sym}
use Rattle.std.specs.FinMap.Entries.{is_sorted}
use Rattle.dr_base.specs.Texts.{text_cmp}
use Rattle.dr_store_lists.specs.Lists.{shown_key_entry}
use Rattle.sqlite.specs.Held.{state}
use Rattle.sqlite.specs.Listing.{understood}
use Rattle.sqlite.proofs.Callers.{IsPlain}
use Rattle.dr_store_schema.specs.Statements as text
use Rattle.dr_store_lists.proofs.Lists.{keys_listed}
use Rattle.dr_store_reads.proofs.Outcomes.{decoded, reads_map, refused}
use Rattle.dr_store_lists.proofs.Wholes as whole
use Rattle.dr_store_lists.proofs.listing.all_keys.Goals as goal

pub returns-in_err-rows : goal.returns-in_err-rows
returns-in_err-rows g c =
    record { asked = refused c.from_residual.ensures (λ has. subst (λ s. IsPlain (understood s text.all_items)) (sym has) whole.all_items.plain) c.in_err-rows.ensures.asked }

pub returns : goal.returns
returns g c =
    let old = state g.S.Store c.args.conn.now in
    let new = state g.S.Store c.ask.new.conn in
    let rows = c.in_ok-rows.rows.items in
    record {
      asked = decoded c.key_entries.result (λ has. subst (λ s. IsPlain (understood s text.all_items)) (sym has) whole.all_items.plain)
          (λ has shown. reads_map c.key_entries.result
          (λ all h. let is : all.items ≡ map shown_key_entry rows = h.0 ∙ ap (map shown_key_entry) c.as_slice.ensures.value in is ∙ keys_listed old new rows has shown (subst (λ es. T (is_sorted text_cmp es)) is h.1)) c.key_entries.ensures) c.in_ok-rows.ensures.asked;
    }
