use Rattle.dr_ledger_read.proofs.Reread.{adoption_shown, arrival_shown, dropping_shown, forgetting_shown, repeat_shown, requeuing_shown, settling_shown}
use Rattle.dr_ledger_read.proofs.reading.line_at.Goals as goal

pub returns-in-Arrival : goal.returns-in-Arrival
returns-in-Arrival c = arrival_shown c.arrival_at.result c.args.places.now c.in-Arrival.is c.arrival_at.ensures

pub returns-in-Repeat : goal.returns-in-Repeat
returns-in-Repeat c = repeat_shown c.repeat_at.result c.args.places.now c.in-Repeat.is c.repeat_at.ensures

pub returns-in-Settling : goal.returns-in-Settling
returns-in-Settling c = settling_shown c.settling_at.result c.args.places.now c.in-Settling.is c.settling_at.ensures

pub returns-in-Requeuing : goal.returns-in-Requeuing
returns-in-Requeuing c = requeuing_shown c.requeuing_at.result c.args.places.now c.in-Requeuing.is c.requeuing_at.ensures

pub returns-in-Dropping : goal.returns-in-Dropping
returns-in-Dropping c = dropping_shown c.dropping_at.result c.args.places.now c.in-Dropping.is c.dropping_at.ensures

pub returns-in-Forgetting : goal.returns-in-Forgetting
returns-in-Forgetting c = forgetting_shown c.forgetting_at.result c.args.places.now c.in-Forgetting.is c.forgetting_at.ensures

pub returns-in-Adoption : goal.returns-in-Adoption
returns-in-Adoption c = adoption_shown c.args.places.now c.in-Adoption.is
