use Rattle.std.proofs.Common.{◌≡◌, ◌∙◌, ap, map, subst, sym}
use Rattle.std.specs.List.Sorted.{IsStrictlySortedBy}
use Rattle.dr_ledger.specs.Pairs.{pair_cmp}
use Rattle.dr_ledger.specs.Replies.{Lists}
use Rattle.dr_store_schema.specs.Books.{arrivals_in}
use Rattle.dr_store_lists.specs.Lists.{shown_pair}
use Rattle.sqlite.specs.Held.{state}
use Rattle.sqlite.specs.Listing.{understood}
use Rattle.sqlite.proofs.Callers.{IsPlain}
use Rattle.dr_store_schema.specs.Statements as text
use Rattle.dr_store_lists.proofs.Lists.{arrivals_listed}
use Rattle.dr_store_reads.proofs.Outcomes.{decoded, reads_map, refused}
use Rattle.dr_store_lists.proofs.Wholes as whole
use Rattle.dr_store_lists.proofs.listing.all_arrivals.Goals as goal

pub returns-in_err-rows : goal.returns-in_err-rows
returns-in_err-rows g c =
    record { asked = refused c.from_residual.ensures (λ has. subst (λ s. IsPlain (understood s text.all_arrivals)) (sym has) whole.all_arrivals.plain) c.in_err-rows.ensures.asked }

pub returns : goal.returns
returns g c =
    let old = state g.S.Store c.args.conn.now in
    let new = state g.S.Store c.ask.new.conn in
    let rows = c.in_ok-rows.rows.items in
    record {
      asked = decoded c.pair_keys.result (λ has. subst (λ s. IsPlain (understood s text.all_arrivals)) (sym has) whole.all_arrivals.plain)
          (λ has shown. reads_map c.pair_keys.result
          (λ all h. let is : all.items ≡ map shown_pair rows = h.0 ∙ ap (map shown_pair) c.as_slice.ensures.value in subst (Lists pair_cmp (arrivals_in (old.now.trees 5))) (sym is) (arrivals_listed old new rows has shown (subst (IsStrictlySortedBy pair_cmp) is h.1))) c.pair_keys.ensures) c.in_ok-rows.ensures.asked;
    }
