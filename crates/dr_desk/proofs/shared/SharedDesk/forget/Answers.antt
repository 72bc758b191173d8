use Rattle.std.proofs.Common.{rules}
use Rattle.dr_desk.proofs.shared.SharedDesk.forget.Goals as goal

pub returns-in-Ok-clause-answer : goal.returns-in-Ok-clause-answer
returns-in-Ok-clause-answer g c = (c.deref_mut.result.now.desk.ledger, c.forget-came.new.self.desk.ledger, c.in-Ok.number, c.in-Ok.ensures.answer, search rules)
