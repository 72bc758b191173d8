use Rattle.dr_store_calls.proofs.Pasts.{lines_may_leave}
use Rattle.dr_store_calls.proofs.past_laws.lines_may_leave.Goals as goal

pub returns : goal.returns
returns c = lines_may_leave
