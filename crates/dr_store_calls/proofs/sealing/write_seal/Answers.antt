use Rattle.sqlite.specs.Held.{state}
use Rattle.dr_store_writes.specs.Effects.{HasSite}
use Rattle.dr_store_changes.specs.Sealing.{SealsLines}
use Rattle.dr_store_calls.proofs.Sealings.{as_done, as_refused}
use Rattle.dr_store_calls.proofs.sealing.write_seal.Goals as goal

pub returns-in-Ok-clause-written : goal.returns-in-Ok-clause-written
returns-in-Ok-clause-written g c n = as_done n n HasSite (SealsLines c.args.cell.now) (state g.S.Store c.args.conn.now) (state g.S.Store c.seal.new.conn) (c.in-Ok.ensures.sealed n)

pub returns-in-Err-clause-written : goal.returns-in-Err-clause-written
returns-in-Err-clause-written g c n = as_refused c.in-Err.error c.fault_of.result n n HasSite (SealsLines c.args.cell.now) (state g.S.Store c.args.conn.now) (state g.S.Store c.seal.new.conn) (c.in-Err.ensures.sealed n)
