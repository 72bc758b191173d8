use Rattle.std.proofs.Common.{List, ap}
use Rattle.dr_session.specs.declared.ends.LinkAction.{LinkAction}
use Rattle.dr_session.specs.Reactions.{effect}
use Rattle.dr_session.proofs.react.requestor.close_ready.Goals as goal

pub returns : goal.returns
returns c = ap (λ (l : List LinkAction). effect l c.args.core) c.requires
