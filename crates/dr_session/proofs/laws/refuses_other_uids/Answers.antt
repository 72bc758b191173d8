use Rattle.dr_session.proofs.Differing.{differing_is_refused, lacking_differs}
use Rattle.dr_session.proofs.laws.refuses_other_uids.Goals as goal

pub returns-clause-refused : goal.returns-clause-refused
returns-clause-refused c = differing_is_refused

pub returns-clause-lacking : goal.returns-clause-lacking
returns-clause-lacking c = lacking_differs
