use Rattle.std.specs.List.{AllByRecursion}
use Rattle.sqlite.specs.Effect.{Database}
use Rattle.sqlite.specs.Held.{state}
use Rattle.dr_store_schema.specs.Ledgers.{AreRows, IsCounted}
use Rattle.dr_store_reads.specs.Queries.{HasTables}
use Rattle.dr_store_open.proofs.Chains.{as_seen, asked_failed, asked_then}
use Rattle.dr_store_open.proofs.testing.test_moving.Goals as goal

pub returns-in-Ok : goal.returns-in-Ok
returns-in-Ok g c =
    let old = state g.S.Store c.args.conn.now in
    let mid = state g.S.Store c.test_arrival_rowids.new.conn in
    let new = state g.S.Store c.test_queue.new.conn in
    let One : Database → Unit {0} → Type 0 = λ db done. AreRows (db.trees 5) in
    let Two : Database → Unit {0} → Type 0 = λ db done. AreRows (db.trees 9) × AllByRecursion IsCounted (db.trees 9) in
    let Both : Database → Unit {0} → Type 0 = λ db done. AreRows (db.trees 5) × (AreRows (db.trees 9) × AllByRecursion IsCounted (db.trees 9)) in
    record {
      asked = asked_then {Asks = HasTables} {More = HasTables} old mid new c.in-Ok.field-0 c.test_queue.result One Two Both (λ is_open has one. has) (λ db one y two. (one, two)) c.in-Ok.ensures.asked
          (as_seen mid new c.test_queue.result (Two mid.now) c.test_queue.ensures.asked);
    }

pub returns-in-Err : goal.returns-in-Err
returns-in-Err g c =
    let old = state g.S.Store c.args.conn.now in
    let new = state g.S.Store c.test_arrival_rowids.new.conn in
    let One : Database → Unit {0} → Type 0 = λ db done. AreRows (db.trees 5) in
    let Both : Database → Unit {0} → Type 0 = λ db done. AreRows (db.trees 5) × (AreRows (db.trees 9) × AllByRecursion IsCounted (db.trees 9)) in
    record { asked = asked_failed {Asks = HasTables} old new c.in-Err.fault (One old.now) (Both old.now) c.in-Err.ensures.asked }
