use Rattle.std.proofs.Common.{List, ap}
use Rattle.dr_session.specs.declared.ends.LinkAction.{LinkAction}
use Rattle.dr_session.specs.Reactions.{effect}
use Rattle.dr_session.proofs.react.leaving.act_once.Goals as goal

pub returns : goal.returns
returns c = ap (λ (l : List LinkAction). effect l c.args.core) c.in_ok-acts.ensures
