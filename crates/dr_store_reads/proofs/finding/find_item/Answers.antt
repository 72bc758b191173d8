use Rattle.std.proofs.Common.{Ok, None, Some, subst, sym}
use Rattle.sqlite.specs.Effect.{Database}
use Rattle.sqlite.specs.Held.{state}
use Rattle.dr_store_reads.specs.Queries.{IsKeyOf, IsStored}
use Rattle.dr_store_reads.proofs.Found.{none_stored}
use Rattle.dr_store_reads.proofs.Outcomes.{decoded, then_asked}
use Rattle.dr_store_reads.proofs.finding.find_item.Goals as goal

pub returns-in-Ok-None : goal.returns-in-Ok-None
returns-in-Ok-None g c = record { asked = decoded (Ok None) (λ has. has) (λ has none. none_stored (state g.S.Store c.args.conn.now).now.trees c.args.uid.now (subst (IsKeyOf c.args.uid.now (state g.S.Store c.args.conn.now).now.trees) c.in-Ok-None.field-0-is none)) c.in-Ok-None.ensures.asked }

pub returns-in-Ok-Some : goal.returns-in-Ok-Some
returns-in-Ok-Some g c = record {
  asked = then_asked c.with_print.result
      (λ same key found says. subst (λ (d : Database). IsStored c.args.uid.now d.trees found) same (says (subst (λ (d : Database). IsKeyOf c.args.uid.now d.trees (Some c.in-Ok-Some.key)) (sym same) (subst (IsKeyOf c.args.uid.now (state g.S.Store c.args.conn.now).now.trees) c.in-Ok-Some.field-0-is key))))
      c.in-Ok-Some.ensures.asked c.with_print.ensures.asked;
}
