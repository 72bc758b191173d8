use Rattle.std.proofs.Common.{◌≡◌, None, Some, Ok, Err, Option, refl, rules, subst}
use Rattle.sqlite.specs.Effect.{Database}
use Rattle.sqlite.specs.Held.{state}
use Rattle.dr_ledger_views.specs.declared.moments.Origin.{Origin}
use Rattle.dr_store_views.specs.Origins.{IsLineOf, IsOriginOf}
use Rattle.dr_store_reads.proofs.Outcomes.{decoded, refused, then_asked}
use Rattle.dr_store_views.proofs.Came.{IsTold, came_so}
use Rattle.dr_store_views.proofs.coming.origin_of.Goals as goal

pub returns-in-Ok-Some : goal.returns-in-Ok-Some
returns-in-Ok-Some g c =
    let uid = c.args.uid.now in
    let n = c.in-Ok-Some.n in
    let class = c.in-Ok-Some.class in
    let db = (state g.S.Store c.args.conn.now).now.trees in
    let is : c.in-Ok-Some.field-0 ≡ Some (n, class) = search rules in
    record {
      asked = then_asked c.with_moment.result
          (λ same line origin told. came_so uid n class db origin (subst (IsLineOf uid db) is line) (subst (λ (d : Database). IsTold n uid class d.trees origin) same told))
          c.in-Ok-Some.ensures.asked c.with_moment.ensures.asked;
    }

pub returns-in-Ok-None : goal.returns-in-Ok-None
returns-in-Ok-None g c =
    let uid = c.args.uid.now in
    let db = (state g.S.Store c.args.conn.now).now.trees in
    let is : c.in-Ok-None.field-0 ≡ None = search rules in
    record { asked = decoded {Q = IsOriginOf uid db} (Ok None) (λ has. has) (λ has line. subst (IsLineOf uid db) is line) c.in-Ok-None.ensures.asked }

pub returns-in-Err : goal.returns-in-Err
returns-in-Err g c =
    let db = (state g.S.Store c.args.conn.now).now.trees in
    record { asked = refused {B = Option Origin} {Q = IsOriginOf c.args.uid.now db} {r = Err c.in-Err.fault} (refl, refl) (λ has. has) c.in-Err.ensures.asked }
