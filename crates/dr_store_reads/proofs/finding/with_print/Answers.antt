use Rattle.std.proofs.Common.{subst, sym}
use Rattle.sqlite.specs.Held.{state}
use Rattle.dr_store_reads.specs.Queries.{IsPrintOf, IsStored}
use Rattle.dr_store_reads.proofs.Found.{one_stored}
use Rattle.dr_store_reads.proofs.Outcomes.{decoded, reads_map}
use Rattle.dr_store_reads.proofs.finding.with_print.Goals as goal

pub returns-in-Ok-Some : goal.returns-in-Ok-Some
returns-in-Ok-Some g c =
    let db = (state g.S.Store c.args.conn.now).now.trees in
    record {
      asked = decoded c.as_stored.result (λ has. has)
          (λ has print. reads_map c.as_stored.result (λ found is key. subst (IsStored c.args.uid.now db) (sym is) (one_stored db c.args.uid.now c.args.key c.in-Ok-Some.print (subst (IsPrintOf c.args.uid.now db) c.in-Ok-Some.field-0-is print) key)) c.as_stored.ensures)
          c.in-Ok-Some.ensures.asked;
    }
