use Rattle.std.proofs.Common.{Some, None, Ok, Err, refl}
use Rattle.dr_dimse.specs.declared.fault.DimseFault.TheVariants as dimse
use Rattle.dr_dimse_scan.specs.Stores.{message_of}
use Rattle.dr_session.specs.declared.ends.Told.TheVariants.{Quiet, Fault}
use Rattle.dr_session.proofs.Saying.{tells_unagreed, tells_strange, tells_taken, says_by, by_ok, by_err}
use Rattle.dr_session.proofs.telling.tell_value.Goals as goal

pub returns-in_default-clause-tells : goal.returns-in_default-clause-tells
returns-in_default-clause-tells c = tells_unagreed c.args.core.now c.args.pdv c.in_default.is

pub returns-in_default-context-clause-tells : goal.returns-in_default-context-clause-tells
returns-in_default-context-clause-tells c = tells_strange c.args.core.now c.args.pdv c.in-Some.agreed c.in-Some.is c.in_default-context.ensures

pub returns-in-Ok-None-clause-tells : goal.returns-in-Ok-None-clause-tells
returns-in-Ok-None-clause-tells c =
    tells_taken c.args.core.now c.args.pdv c.in-Some.agreed c.in-Some-context.pair.now (message_of c.take.result) c.take.new.self Quiet c.in-Some.is c.in-Some-context.ensures c.take.ensures.takes c.take.ensures.awaited
    (says_by c.in-Some-context.pair.now Quiet (message_of c.take.result) (Ok None) (by_ok c.take.result c.in-Ok-None.field-0 None c.in-Ok-None.is c.in-Ok-None.field-0-is) refl)

pub returns-in_ok-told-in-Ok-Some-clause-tells : goal.returns-in_ok-told-in-Ok-Some-clause-tells
returns-in_ok-told-in-Ok-Some-clause-tells c =
    tells_taken c.args.core.now c.args.pdv c.in-Some.agreed c.in-Some-context.pair.now (message_of c.take.result) c.take.new.self c.in_ok-told-in-Ok-Some.told c.in-Some.is c.in-Some-context.ensures c.take.ensures.takes c.take.ensures.awaited
    (says_by c.in-Some-context.pair.now c.in_ok-told-in-Ok-Some.told (message_of c.take.result) (Ok (Some c.in-Ok-Some.heard.message)) (by_ok c.take.result c.in-Ok-Some.field-0 (Some c.in-Ok-Some.heard) c.in-Ok-Some.is c.in-Ok-Some.field-0-is) c.in_ok-told-in-Ok-Some.ensures.tells)

pub returns-in-OutOfPlace-clause-tells : goal.returns-in-OutOfPlace-clause-tells
returns-in-OutOfPlace-clause-tells c =
    tells_taken c.args.core.now c.args.pdv c.in-Some.agreed c.in-Some-context.pair.now (message_of c.take.result) c.take.new.self Fault c.in-Some.is c.in-Some-context.ensures c.take.ensures.takes c.take.ensures.awaited
    (says_by c.in-Some-context.pair.now Fault (message_of c.take.result) (Err dimse.OutOfPlace) (by_err c.take.result c.in-Err.fault dimse.OutOfPlace c.in-Err.is c.in-OutOfPlace.is) refl)

pub returns-in-MixedContext-clause-tells : goal.returns-in-MixedContext-clause-tells
returns-in-MixedContext-clause-tells c =
    tells_taken c.args.core.now c.args.pdv c.in-Some.agreed c.in-Some-context.pair.now (message_of c.take.result) c.take.new.self Fault c.in-Some.is c.in-Some-context.ensures c.take.ensures.takes c.take.ensures.awaited
    (says_by c.in-Some-context.pair.now Fault (message_of c.take.result) (Err dimse.MixedContext) (by_err c.take.result c.in-Err.fault dimse.MixedContext c.in-Err.is c.in-MixedContext.is) refl)

pub returns-in-BadCommand-clause-tells : goal.returns-in-BadCommand-clause-tells
returns-in-BadCommand-clause-tells c =
    tells_taken c.args.core.now c.args.pdv c.in-Some.agreed c.in-Some-context.pair.now (message_of c.take.result) c.take.new.self Fault c.in-Some.is c.in-Some-context.ensures c.take.ensures.takes c.take.ensures.awaited
    (says_by c.in-Some-context.pair.now Fault (message_of c.take.result) (Err dimse.BadCommand) (by_err c.take.result c.in-Err.fault dimse.BadCommand c.in-Err.is c.in-BadCommand.is) refl)

pub returns-in-TooLong-clause-tells : goal.returns-in-TooLong-clause-tells
returns-in-TooLong-clause-tells c =
    tells_taken c.args.core.now c.args.pdv c.in-Some.agreed c.in-Some-context.pair.now (message_of c.take.result) c.take.new.self Fault c.in-Some.is c.in-Some-context.ensures c.take.ensures.takes c.take.ensures.awaited
    (says_by c.in-Some-context.pair.now Fault (message_of c.take.result) (Err dimse.TooLong) (by_err c.take.result c.in-Err.fault dimse.TooLong c.in-Err.is c.in-TooLong.is) refl)
