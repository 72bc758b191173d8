use Rattle.dr_session.proofs.Owning.{settles_own}
use Rattle.dr_session.proofs.laws.settles_own.Goals as goal

pub returns : goal.returns
returns c = settles_own
