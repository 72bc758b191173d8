use Rattle.std.proofs.Common.{◌∙◌, subst, sym}
use Rattle.sqlite.specs.Held.{state}
use Rattle.sqlite.specs.Listing.{understood}
use Rattle.sqlite.proofs.Callers.{IsPlain}
use Rattle.dr_store_schema.specs.Statements as text
use Rattle.dr_store_reads.proofs.Found.{arrival_found}
use Rattle.dr_store_reads.proofs.Outcomes.{shown_as}
use Rattle.dr_store_reads.proofs.Selects as select
use Rattle.dr_store_reads.proofs.finding.find_arrival.Goals as goal

pub returns : goal.returns
returns g c =
    let old = state g.S.Store c.args.conn.now in
    let new = state g.S.Store c.ask_any.new.conn in
    record {
      asked = shown_as c.ask_any.result (λ has. subst (λ s. IsPlain (understood s text.find_arrival)) (sym has.schema) select.find_arrival.plain)
          (λ has any it. let shown = it.1 in it.2 ∙ arrival_found old new (c.args.caller.now, c.args.uid.now) it.0 has (rw (c.as_bytes.ensures, c.as_bytes-2.ensures) at shown))
          c.ask_any.ensures.asked;
    }
