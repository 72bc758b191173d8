use Rattle.dr_store.proofs.Pasts.{past_failed}
use Rattle.dr_store.proofs.past.tell_past.Goals as goal

pub returns-in-Err-clause-told : goal.returns-in-Err-clause-told
returns-in-Err-clause-told g c = past_failed _ _ c.in-Err.fault c.fault_of_past.ensures
