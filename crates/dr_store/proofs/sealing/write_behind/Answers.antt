use Rattle.std.proofs.Common.{sym, subst}
use Rattle.dr_store_calls.specs.Calling.{IsOwnFault}
use Rattle.dr_store.proofs.Pasts.{past_owns}
use Rattle.dr_store.proofs.sealing.write_behind.Goals as goal

pub returns-in-Err-clause-fault : goal.returns-in-Err-clause-fault
returns-in-Err-clause-fault g c = subst IsOwnFault (sym c.fault_of_past.ensures) (past_owns c.in-Err.fault)
