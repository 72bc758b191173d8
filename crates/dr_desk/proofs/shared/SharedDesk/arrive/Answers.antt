use Rattle.std.proofs.Common.{rules}
use Rattle.dr_desk.proofs.shared.SharedDesk.arrive.Goals as goal

pub returns-in-Ok-came-clause-answer : goal.returns-in-Ok-came-clause-answer
returns-in-Ok-came-clause-answer g c = (c.deref_mut.result.now.desk.ledger, c.arrive-came.new.self.desk.ledger, c.in-Ok-came.number, c.in-Ok-came.ensures.answer, search rules)
