use Rattle.std.proofs.Common.{List, [], Result, Ok, Err, subst}
use Rattle.dr_pdu.specs.declared.pdu.Pdu.{Pdu}
use Rattle.dr_pdu.specs.declared.fault.PduFault.{PduFault}
use Rattle.dr_pdu.specs.Feeding.{Feeds}
use Rattle.dr_session.proofs.Pieces.{none_behind, fault_behind, refused, more_never, failed_never}
use Rattle.dr_session.proofs.hearing.last_fault.Goals as goal

pub returns-in-Ok : goal.returns-in-Ok
returns-in-Ok c =
    let F : Result (List Pdu) PduFault → Type 0 = λ r. Feeds c.args.ear.now [] r c.feed.new.self in
    none_behind c.args.ear.now c.in-Ok.field-0 c.feed.new.self c.requires (subst F c.in-Ok.is c.feed.ensures)

pub unreachable-unreachable : goal.unreachable-unreachable
unreachable-unreachable c =
    let F : Result (List Pdu) PduFault → Type 0 = λ r. Feeds c.args.ear.now [] r c.feed.new.self in
    failed_never c.args.ear.now [] c.in-Err.fault c.feed.new.self c.requires.0 c.in-Failed.is (subst F c.in-Err.is c.feed.ensures)

pub unreachable-unreachable-in-More : goal.unreachable-unreachable-in-More
unreachable-unreachable-in-More c =
    let F : Result (List Pdu) PduFault → Type 0 = λ r. Feeds c.args.ear.now [] r c.feed.new.self in
    more_never c.args.ear.now [] c.in-Err.fault c.feed.new.self c.in-More.is (subst F c.in-Err.is c.feed.ensures)

pub returns-in_default : goal.returns-in_default
returns-in_default c =
    let F : Result (List Pdu) PduFault → Type 0 = λ r. Feeds c.args.ear.now [] r c.feed.new.self in
    fault_behind c.args.ear.now c.in-Err.fault c.feed.new.self
    (refused c.args.ear.now [] c.in-Err.fault c.feed.new.self c.in_default.not-More c.in_default.not-Memory c.in_default.not-Failed (subst F c.in-Err.is c.feed.ensures))
