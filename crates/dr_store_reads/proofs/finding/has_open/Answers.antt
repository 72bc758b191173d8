use Rattle.std.proofs.Common.{◌↔◌, IsTrue, subst, sym}
use Rattle.sqlite.specs.Held.{state}
use Rattle.sqlite.specs.Listing.{understood}
use Rattle.sqlite.proofs.Callers.{IsPlain}
use Rattle.dr_store_schema.specs.Statements as text
use Rattle.dr_store_reads.specs.Queries.{HasOpen}
use Rattle.dr_store_reads.proofs.FirstDue.{any_open_found}
use Rattle.dr_store_reads.proofs.Outcomes.{shown_as}
use Rattle.dr_store_reads.proofs.Selects as select
use Rattle.dr_store_reads.proofs.finding.has_open.Goals as goal

pub returns : goal.returns
returns g c =
    let old = state g.S.Store c.args.conn.now in
    let new = state g.S.Store c.ask_any.new.conn in
    record {
      asked = shown_as c.ask_any.result (λ has. subst (λ s. IsPlain (understood s text.find_any_open)) (sym has.schema) select.find_any_open.plain)
          (λ has any it. let shown = it.1 in subst (λ b. IsTrue b ↔ HasOpen old.now.trees c.args.uid.now) (sym it.2)
          (any_open_found c.args.uid.now old new it.0 has (rw c.as_bytes.ensures at shown)))
          c.ask_any.ensures.asked;
    }
