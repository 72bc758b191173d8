use Rattle.dr_store_sealed.proofs.Prefixes.{front_taken}
use Rattle.dr_store_sealed.proofs.reading.split_line.Goals as goal

pub returns-in-Some-clause-ends : goal.returns-in-Some-clause-ends
returns-in-Some-clause-ends c = (
  c.in-Some.body.now,
  front_taken c.in-Some.body.now c.in-Some.later.now c.args.bytes.now c.in-Some.ensures.0,
  c.in-Some.ensures.1,
)
