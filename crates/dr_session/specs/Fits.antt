-- What an end may rely on as it reacts: what it was told can be answered.
use Rattle.dr_pdu.specs.Written as pdus
use Rattle.dr_pdu.specs.declared.pdu.Pdu.{Pdu}
use Rattle.dr_pdu.specs.declared.pdu.Pdu.TheVariants as pdu
use Rattle.dr_dimse.specs.Taking.{MessageStage, Idle, InCommand, InData}
use Rattle.dr_dimse.specs.Written.{CommandFits}
use Rattle.dr_dimse.specs.declared.command.Command.TheVariants.{StoreRq}
use Rattle.dr_ulstate.specs.declared.step.Incoming.{Incoming}
use Rattle.dr_ulstate.specs.declared.step.Incoming.TheVariants.{AssociateAc, AssociateRj, DataTf}
use Rattle.dr_ulstate.specs.declared.step.Incoming.TheVariants.{ReleaseRq as ReleaseAskedFor}
use Rattle.dr_ulstate.specs.declared.step.Incoming.TheVariants.{ReleaseRp as ReleaseAnswered}
use Rattle.dr_ulstate.specs.declared.step.Incoming.TheVariants.{Aborted, Unrecognized}
use Rattle.dr_ulstate.specs.declared.step.Incoming.TheVariants.{ConnectionClosed}
use Rattle.dr_session.specs.declared.ends.Input.{Input}
use Rattle.dr_session.specs.declared.ends.Input.TheVariants.{Request, Acceptance, Rejection, Value}
use Rattle.dr_session.specs.declared.ends.Input.TheVariants.{NoValue, ReleaseRq, ReleaseRp, Abort}
use Rattle.dr_session.specs.declared.ends.Input.TheVariants.{Unknown, Invalid, Late, AbortAsked}
use Rattle.dr_session.specs.declared.ends.Input.TheVariants.{ReleaseAsked, PushAsked}
use Rattle.dr_session.specs.declared.ends.Told.{Told}
use Rattle.dr_session.specs.declared.ends.Told.TheVariants.{Plain, Strange, Store, Whole, Agreement}

-- the command whose data set is under way can be written again
abbrev pub StageFits : MessageStage → Type 0
StageFits Idle = Unit {0}
StageFits (InCommand id text) = Unit {0}
StageFits (InData id c body) = CommandFits c

-- a request for an association can be written again
abbrev pub InputFits : Input → Type 0
InputFits (Request rq) = pdus.Fits (pdu.AssociateRq rq)
InputFits i = Unit {0}

abbrev pub PduFits : Pdu → Type 0
PduFits (pdu.AssociateRq rq) = pdus.Fits (pdu.AssociateRq rq)
PduFits p = Unit {0}

-- a command can be written again, and so can a request for an association
abbrev pub ToldFits : Told → Type 0
ToldFits (Plain i) = InputFits i
ToldFits (Store context of id class instance found) = CommandFits (StoreRq id class instance)
ToldFits (Whole context of command) = CommandFits command
ToldFits told = Unit {0}

-- it came over the link, and is no request for an association
abbrev pub IsHeard : Input → Type 0
IsHeard (Request rq) = ⊥
IsHeard Late = ⊥
IsHeard AbortAsked = ⊥
IsHeard ReleaseAsked = ⊥
IsHeard PushAsked = ⊥
IsHeard i = Unit {0}

-- what came over the link, as the association sees it
abbrev pub heard_as : Input → Incoming
heard_as (Acceptance ac) = AssociateAc
heard_as (Rejection rj) = AssociateRj
heard_as (Value p) = DataTf
heard_as NoValue = DataTf
heard_as ReleaseRq = ReleaseAskedFor
heard_as ReleaseRp = ReleaseAnswered
heard_as (Abort a) = Aborted
heard_as Unknown = Unrecognized
heard_as Invalid = Unrecognized
heard_as i = ConnectionClosed

-- it was looked into
abbrev pub IsLooked : Told → Type 0
IsLooked (Plain i) = ⊥
IsLooked told = Unit {0}

-- what was looked into, as the association sees it: a value in a context that wasn't accepted is no
-- valid PDU
abbrev pub told_as : Told → Incoming
told_as Strange = Unrecognized
told_as (Agreement answer) = AssociateAc
told_as told = DataTf
