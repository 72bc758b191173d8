use Rattle.std.proofs.Common.{Err, Ok, Option, Some, refl}
use Rattle.sqlite.specs.Held.{state}
use Rattle.dr_ledger_views.specs.declared.moments.Origin.{Origin}
use Rattle.dr_store_reads.proofs.Outcomes.{decoded, refused}
use Rattle.dr_store_views.proofs.Came.{IsTold}
use Rattle.dr_store_views.proofs.coming.with_moment.Goals as goal

pub returns-in-Ok : goal.returns-in-Ok
returns-in-Ok g c =
    let db = (state g.S.Store c.args.conn.now).now.trees in
    record {
      asked = decoded {Q = IsTold c.args.n c.args.uid.now c.args.class db} (Ok (Some (record { class = c.args.class; moment = c.in-Ok.moment }))) (λ has. has)
          (λ has told. (c.in-Ok.moment, told, refl)) c.in-Ok.ensures.asked;
    }

pub returns-in-Err : goal.returns-in-Err
returns-in-Err g c =
    let db = (state g.S.Store c.args.conn.now).now.trees in
    record { asked = refused {B = Option Origin} {Q = IsTold c.args.n c.args.uid.now c.args.class db} {r = Err c.in-Err.fault} (refl, refl) (λ has. has) c.in-Err.ensures.asked }
