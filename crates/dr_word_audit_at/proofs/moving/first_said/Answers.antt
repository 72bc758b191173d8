use Rattle.dr_word_audit_at.proofs.Noted.{came_said, goes_said}
use Rattle.dr_word_audit_at.proofs.moving.first_said.Goals as goal

pub returns-in-CameFrom : goal.returns-in-CameFrom
returns-in-CameFrom c lines are = came_said c.args.missing.now c.in-CameFrom.uid c.in-CameFrom.from lines c.args.first.now c.place_at.result c.in-CameFrom.is are c.place_at.ensures

pub returns-in-GoesOn : goal.returns-in-GoesOn
returns-in-GoesOn c lines are = goes_said c.args.missing.now c.in-GoesOn.uid c.in-GoesOn.to lines c.args.first.now c.place_at-in-GoesOn.result c.in-GoesOn.is are c.place_at-in-GoesOn.ensures
