use Rattle.std.proofs.Common.{Bool, Ok, take, true}
use Rattle.std.specs.Prelude.{All}
use Rattle.sqlite.specs.Held.{state}
use Rattle.dr_store_schema.specs.Ledgers.{IsLedger}
use Rattle.dr_store_open.specs.DataSets.{AreOwnUnder}
use Rattle.dr_store_open.specs.Opening.{Seen}
use Rattle.dr_store_open.proofs.bodies.test_bodies.Given as goal

abbrev pub invariant-loop-print : goal.invariant-loop-print
invariant-loop-print g l = Seen {A = Bool} IsLedger (Ok true) (state g.S.Store l.fn.conn) (state g.S.Store l.conn) (λ own. All (AreOwnUnder (state g.S.Store l.fn.conn).now.trees) (take l.print-index l.prints))
