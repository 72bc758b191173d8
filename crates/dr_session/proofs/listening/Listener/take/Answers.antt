use Rattle.dr_dimse_scan.specs.Stores.{message_of}
use Rattle.dr_session.proofs.Fitting.{takes_fits, heard_fits}
use Rattle.dr_session.proofs.listening.Listener.take.Goals as goal

pub invariant_of-self : goal.invariant_of-self
invariant_of-self c =
    (takes_fits c.self.inside.hearing.awaited c.self.inside.hearing.stage c.args.pdv (message_of c.take.result) c.take.new.self.stage c.self.invariant c.take.ensures.takes).0

pub returns-clause-fits : goal.returns-clause-fits
returns-clause-fits c =
    heard_fits c.take.result
    (takes_fits c.self.inside.hearing.awaited c.self.inside.hearing.stage c.args.pdv (message_of c.take.result) c.take.new.self.stage c.self.invariant c.take.ensures.takes).1
