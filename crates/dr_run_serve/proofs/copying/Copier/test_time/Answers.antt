use Rattle.std.proofs.Common.{arith}
use Rattle.dr_run_serve.proofs.copying.Copier.test_time.Goals as goal

pub returns : goal.returns
returns g c = (c.now-now.result, c.now-now.ensures.tells, (let test = c.if-now-until.false in omega (arith, test)))
