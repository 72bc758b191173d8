use Rattle.dr_session.proofs.Effects.{stored_by}
use Rattle.dr_session.proofs.react.requestor.write_in.Goals as goal

pub returns-in-Some : goal.returns-in-Some
returns-in-Some c = stored_by c.args.core.now.agreed c.in-Some.agreed c.write_store.result c.args.context c.args.id c.args.job.now c.in-Some.is c.write_store.ensures
