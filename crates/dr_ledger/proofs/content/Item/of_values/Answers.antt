use Rattle.std.proofs.Common.{ap}
use Rattle.dr_ledger.specs.declared.content.Job.{Job}
use Rattle.dr_ledger.proofs.Reading.{read_whole}
use Rattle.dr_ledger.proofs.content.Item.of_values.Goals as goal

pub returns-in-Ok : goal.returns-in-Ok
returns-in-Ok c = (
  c.in-Ok.ensures.item,
  ap (λ (j : Job). j.key.syntax) c.in-Ok.ensures.same,
  ap (λ (j : Job). j.body) c.in-Ok.ensures.same,
)

pub returns-in-Err : goal.returns-in-Err
returns-in-Err c = read_whole c.args.syntax c.args.body c.args.values c.requires.fits c.requires.scanned
