use Rattle.std.proofs.Common.{subst, sym}
use Rattle.std.specs.List.{AllByRecursion}
use Rattle.dr_store_reads.specs.Queries.{IsNumberedBelow}
use Rattle.dr_store_lists.proofs.Numbers.{numbers_below}
use Rattle.sqlite.specs.Held.{state}
use Rattle.sqlite.specs.Listing.{understood}
use Rattle.sqlite.proofs.Callers.{IsPlain}
use Rattle.dr_store_schema.specs.Statements as text
use Rattle.dr_store_reads.proofs.Outcomes.{decoded, reads_map, refused}
use Rattle.dr_store_lists.proofs.Wholes as whole
use Rattle.dr_store_lists.proofs.rowids.next_number.Goals as goal

pub returns-in_err-rows : goal.returns-in_err-rows
returns-in_err-rows g c =
    record { asked = refused c.from_residual.ensures (λ has. subst (λ s. IsPlain (understood s text.journal_rowids)) (sym has) whole.journal_rowids.plain) c.in_err-rows.ensures.asked }

pub returns : goal.returns
returns g c =
    let old = state g.S.Store c.args.conn.now in
    let new = state g.S.Store c.ask.new.conn in
    let rows = c.in_ok-rows.rows.items in
    record {
      asked = decoded c.number_after.result (λ has. subst (λ s. IsPlain (understood s text.journal_rowids)) (sym has) whole.journal_rowids.plain)
          (λ has shown. reads_map c.number_after.result
          (λ next h. (h.0, numbers_below old new rows next has shown (subst (AllByRecursion (IsNumberedBelow next)) c.as_slice.ensures.value h.1))) c.number_after.ensures) c.in_ok-rows.ensures.asked;
    }
