use Rattle.std.proofs.Common.{refl}
use Rattle.dr_session.proofs.figures.table.responses.Goals as goal

pub returns : goal.returns
returns c = λ core at class uid. record {
  stored = refl;
  elsewhere = refl;
  an_echo = refl;
  another = refl;
  echoed = refl;
  no_echo = refl;
}
