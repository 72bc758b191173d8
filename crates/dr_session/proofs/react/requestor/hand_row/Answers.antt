use Rattle.std.proofs.Common.{Some, Ok}
use Rattle.dr_ledger.specs.declared.content.NextRow.TheVariants.{Whole, Unreadable}
use Rattle.dr_session.specs.Desks.{Upcoming}
use Rattle.dr_session.specs.Reactions.{passes_over}
use Rattle.dr_session.proofs.Wanting.{at_answer, handed_by}
use Rattle.dr_session.proofs.react.requestor.hand_row.Goals as goal

pub returns-in-Whole-clause-broke : goal.returns-in-Whole-clause-broke
returns-in-Whole-clause-broke g c =
    handed_by g.P.DeskPort.step c.args.at c.args.core c.args.row (Whole c.in-Whole.job) c.hand.result c.args.port.now c.hand.new.port c.in-Whole.is c.hand.ensures.broke

pub returns-in-Unreadable-clause-broke : goal.returns-in-Unreadable-clause-broke
returns-in-Unreadable-clause-broke g c =
    handed_by g.P.DeskPort.step c.args.at c.args.core c.args.row (Unreadable c.in-Unreadable.uid) c.pass_over.result c.args.port.now c.pass_over.new.port c.in-Unreadable.is
    (at_answer g.P.DeskPort.step (Upcoming (Ok (Some (Unreadable c.in-Unreadable.uid)))) (passes_over c.args.at c.in-Unreadable.uid c.args.core) c.pass_over.result c.args.port.now c.pass_over.new.port c.pass_over.ensures.broke)
