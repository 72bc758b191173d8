-- What one end does at each event: the table's action (PS3.8 section 9.2), the services behind it,
-- and the calls on the desk.
use Rattle.std.specs.Prelude.{ℕ, ◌+◌, ◌==◌, length, ◌&&◌, ◌||◌, nat_le, not, Bool, true, false}
use Rattle.std.specs.Prelude.{List, [], ◌∷◌, ◌++◌, if◌then◌else◌, Option, Some, None, is_some}
use Rattle.std.specs.Prelude.{Result, Ok, Err}
use Rattle.std.specs.List.{list_all}
use Rattle.std.specs.Option.{option_map_or}
use Rattle.std.specs.Str.{bytes_eq}
use Rattle.dr_base.specs.Texts.{Text}
use Rattle.dr_base.specs.Syntaxes.{syntax_uid}
use Rattle.dr_ulstate.specs.declared.table.Event.{Event}
use Rattle.dr_ulstate.specs.declared.table.Event.TheVariants.{AssociateAcPdu, AssociateRjPdu}
use Rattle.dr_ulstate.specs.declared.table.Event.TheVariants.{AssociateRqPdu, AcceptResponse}
use Rattle.dr_ulstate.specs.declared.table.Event.TheVariants.{RejectResponse, DataRequest, DataPdu}
use Rattle.dr_ulstate.specs.declared.table.Event.TheVariants.{ReleaseRequest, ReleaseRqPdu}
use Rattle.dr_ulstate.specs.declared.table.Event.TheVariants.{ReleaseRpPdu, ReleaseResponse}
use Rattle.dr_ulstate.specs.declared.table.Event.TheVariants.{AbortRequest, AbortPdu}
use Rattle.dr_ulstate.specs.declared.table.Event.TheVariants.{TransportClosed, ArtimExpired}
use Rattle.dr_ulstate.specs.declared.table.Event.TheVariants.{InvalidPdu}
use Rattle.dr_ulstate.specs.declared.table.Action.{Action}
use Rattle.dr_ulstate.specs.declared.table.Action.TheVariants.{Ae3, Ae4, Ae6, Dt1, Dt2, Ar1, Ar2}
use Rattle.dr_ulstate.specs.declared.table.Action.TheVariants.{Ar3, Ar6, Ar8, Ar10, Aa1, Aa2, Aa3}
use Rattle.dr_ulstate.specs.declared.table.Action.TheVariants.{Aa4, Aa5, Aa7, Aa8}
use Rattle.dr_ulstate.specs.declared.phase.Next.{Next}
use Rattle.dr_ulstate.specs.Table.{cell}
use Rattle.dr_ulstate.specs.Phases.{side_of, next_stepped, next_expired, may_send}
use Rattle.dr_pdu.specs.declared.pdu.Pdu.{Pdu}
use Rattle.dr_pdu.specs.declared.pdu.Pdu.TheVariants as pdu
use Rattle.dr_pdu.specs.declared.pdu.AssociateRj.{AssociateRj}
use Rattle.dr_dimse.specs.declared.command.Command.{Command}
use Rattle.dr_dimse.specs.declared.command.Command.TheVariants.{StoreRq, StoreRsp, EchoRq, EchoRsp}
use Rattle.dr_dimse.specs.declared.command.Command.TheVariants.{Other}
use Rattle.dr_dimse.specs.declared.message.Awaited.{Awaited}
use Rattle.dr_dimse.specs.declared.message.Awaited.TheVariants.{AnswerTo, Nothing}
use Rattle.dr_dimse.specs.Taking.{MessageStage, Assembling}
use Rattle.dr_ledger.specs.declared.content.Job.{Job}
use Rattle.dr_ledger.specs.declared.content.NextRow.{NextRow}
use Rattle.dr_ledger.specs.declared.content.NextRow.TheVariants as next
use Rattle.dr_ledger.specs.declared.item.Arrived.{Arrived}
use Rattle.dr_ledger.specs.declared.item.Outcome.TheVariants.{Status, Broken, NoContext}
use Rattle.dr_ledger.specs.declared.item.Outcome.TheVariants as outcome
use Rattle.dr_ledger.specs.declared.fault.LedgerFault.{LedgerFault}
use Rattle.dr_ledger.specs.declared.fault.LedgerFault.TheVariants as fault
use Rattle.dr_nego.specs.declared.agreed.Agreed.{Agreed}
use Rattle.dr_nego.specs.declared.fault.NegoFault.{NegoFault}
use Rattle.dr_nego.specs.declared.fault.NegoFault.TheVariants as negofault
use Rattle.dr_nego.specs.declared.answering.Answer.{Answer}
use Rattle.dr_nego.specs.declared.answering.Answer.TheVariants.{Accept, Reject, TooSmall}
use Rattle.dr_nego.specs.Agreeing.{AssociateRq, context_for}
use Rattle.dr_nego.specs.Answering.{answer}
use Rattle.dr_site.specs.Parts.{Part}
use Rattle.dr_session.specs.declared.ends.Input.{Input}
use Rattle.dr_session.specs.declared.ends.Input.TheVariants.{Request, Acceptance, Rejection, Value}
use Rattle.dr_session.specs.declared.ends.Input.TheVariants.{NoValue, ReleaseRq, ReleaseRp, Abort}
use Rattle.dr_session.specs.declared.ends.Input.TheVariants.{Unknown, Invalid, Ended, Late}
use Rattle.dr_session.specs.declared.ends.Input.TheVariants.{AbortAsked, ReleaseAsked, PushAsked}
use Rattle.dr_session.specs.declared.ends.Found.{Found}
use Rattle.dr_session.specs.declared.ends.Found.TheVariants.{Read, Nameless, Unreadable, TooLarge}
use Rattle.dr_session.specs.declared.ends.Told.{Told}
use Rattle.dr_session.specs.declared.ends.Told.TheVariants.{Plain, Fault, Strange, Store, Whole}
use Rattle.dr_session.specs.declared.ends.Told.TheVariants.{Agreement}
use Rattle.dr_session.specs.declared.ends.LinkAction.{LinkAction}
use Rattle.dr_session.specs.declared.ends.LinkAction.TheVariants.{Write, Close}
use Rattle.dr_session.specs.declared.ends.Requested.{Requested}
use Rattle.dr_session.specs.declared.ends.Requested.TheVariants as asked
use Rattle.dr_session.specs.declared.ends.Pending.{Pending}
use Rattle.dr_session.specs.declared.ends.Marks.{Marks}
use Rattle.dr_session.specs.declared.ends.Core.{Core}
use Rattle.dr_session.specs.declared.ends.Moment.{Moment}
use Rattle.dr_session.specs.declared.ends.Effect.{Effect}
use Rattle.dr_session.specs.Desks.{DeskCall, DeskAnswer, Arrive, Next as NextFor, Settle, Arrival}
use Rattle.dr_session.specs.Desks.{Upcoming, Settling, Due as DueFor, First}
use Rattle.dr_nego.specs.Fragments.{spellings}
use Rattle.dr_session.specs.Messages.{command_pdus, data_pdus}
use Rattle.dr_session.specs.Turns.{Turn, Ends, Asks, Fails}
use Rattle.dr_ledger.specs.Replies.{store_status}

abbrev pub Reaction : Type 0
Reaction = Turn DeskCall DeskAnswer Effect

-- ---- parts of an end

abbrev pub effect : List LinkAction → Core → Effect
effect acts c = record { acts = acts; core = c }

abbrev pub quiet : Core → Reaction
quiet c = Ends (effect [] c)

-- the end after a service of its own user: the phase that the table gives
abbrev pub phase_after : Result (Action × Next) Next → Next
phase_after (Ok x) = x.1
phase_after (Err same) = same

abbrev pub stepped_by : Event → ℕ → Core → Core
stepped_by e now c = record c { phase = phase_after (next_stepped e true c.phase now) }

abbrev pub is_requestor : Core → Bool
is_requestor c = side_of c.phase

abbrev pub assembling : Awaited → MessageStage → Assembling
assembling awaited stage = record { awaited = awaited; stage = stage }

-- a requestor awaits the response to this store, or nothing
abbrev pub awaiting : Pending → ℕ → Core → Core
awaiting p now c = record c {
  pending = Some p;
  last = p.id;
  awaits = Some now;
  assembly = assembling (AnswerTo p.id) c.assembly.stage;
}

abbrev pub settled_with : Core → Core
settled_with c =
    record c { pending = None; awaits = None; assembly = assembling Nothing c.assembly.stage }

-- nothing is pending any more
abbrev pub left : Core → Core
left c = record c { pending = None; awaits = None }

-- a push found no row due
abbrev pub dried : Core → Core
dried c = record c { dry = true }

abbrev pub write : List Pdu → LinkAction
write pdus = Write (spellings pdus)

abbrev pub abort_pdu : ℕ → ℕ → Pdu
abort_pdu source reason = pdu.Abort (record { source = source; reason = reason })

-- ---- marks

abbrev pub with_marks : Marks → Core → Core
with_marks marks c = record c { marks = marks }

abbrev pub aborted : Core → Core
aborted c = with_marks
    (record {
      rejection = c.marks.rejection;
      aborted = true;
      released = c.marks.released;
      desk_failed = c.marks.desk_failed;
    }) c

abbrev pub released : Core → Core
released c = with_marks
    (record {
      rejection = c.marks.rejection;
      aborted = c.marks.aborted;
      released = true;
      desk_failed = c.marks.desk_failed;
    }) c

abbrev pub desk_failed : Core → Core
desk_failed c = with_marks
    (record {
      rejection = c.marks.rejection;
      aborted = c.marks.aborted;
      released = c.marks.released;
      desk_failed = true;
    }) c

abbrev pub rejected : AssociateRj → Core → Core
rejected rj c = with_marks
    (record {
      rejection = Some rj;
      aborted = c.marks.aborted;
      released = c.marks.released;
      desk_failed = c.marks.desk_failed;
    }) c

-- ---- answers of a desk; another kind of answer can't come

abbrev pub arrival : (Result Arrived LedgerFault → Reaction) → DeskAnswer → Reaction
arrival follow (Arrival r) = follow r
arrival follow (Upcoming d) = Fails
arrival follow (First d) = Fails
arrival follow (Settling r) = Fails

abbrev pub job : (Result (Option NextRow) LedgerFault → Reaction) → DeskAnswer → Reaction
job follow (Upcoming d) = follow d
job follow (Arrival r) = Fails
job follow (First d) = Fails
job follow (Settling r) = Fails

abbrev pub row : (Result (Option Text) LedgerFault → Reaction) → DeskAnswer → Reaction
row follow (First d) = follow d
row follow (Arrival r) = Fails
row follow (Upcoming d) = Fails
row follow (Settling r) = Fails

-- after a settling: done (or the row no longer waits), the store failed, or memory ended
abbrev pub settling : Reaction → Reaction → DeskAnswer → Reaction
settling done lost (Settling (Ok r)) = done
settling done lost (Settling (Err fault.NotWaiting)) = done
settling done lost (Settling (Err fault.Memory)) = Fails
settling done lost (Settling (Err why)) = lost
settling done lost (Arrival r) = Fails
settling done lost (Upcoming d) = Fails
settling done lost (First d) = Fails

-- ---- leaving

-- what is pending is settled as broken; where the store fails the end is one of a failed desk
abbrev pub leaves_by : Option Pending → ℕ → List LinkAction → Core → Reaction
leaves_by None now acts c = Ends (effect acts (left c))
leaves_by (Some p) now acts c = Asks (Settle p.uid c.peer Broken now)
    (settling (Ends (effect acts (left c))) (Ends (effect acts (desk_failed (left c)))))

abbrev pub leaves : Moment → List LinkAction → Core → Reaction
leaves at acts c = leaves_by c.pending at.now acts c

-- the end aborts by itself (AA-1)
abbrev pub aborts : Moment → Core → Reaction
aborts at c =
    leaves at (write (abort_pdu 0 0 ∷ []) ∷ []) (aborted (stepped_by AbortRequest at.now c))

-- it does so with nothing pending
abbrev pub aborts_idle : Moment → Core → Reaction
aborts_idle at c = Ends
    (effect (write (abort_pdu 0 0 ∷ []) ∷ []) (aborted (left (stepped_by AbortRequest at.now c))))

-- it does so as a store failed: what was pending is left as it is
abbrev pub aborts_desk : Moment → Core → Reaction
aborts_desk at c = Ends
    (effect (write (abort_pdu 0 0 ∷ []) ∷ [])
    (desk_failed (aborted (left (stepped_by AbortRequest at.now c)))))

-- ---- a request for an association, at an acceptor

abbrev pub rj : ℕ → ℕ → ℕ → AssociateRj
rj result source reason = record { result = result; source = source; reason = reason }

abbrev pub decides : Answer → Moment → AssociateRq → Core → Reaction
decides (Accept ac agreed) at rq c = Ends
    (effect (write (pdu.AssociateAc ac ∷ []) ∷ [])
    (record (stepped_by AcceptResponse at.now c) { peer = rq.front.calling; agreed = Some agreed }))
decides (Reject result source reason) at rq c = Ends
    (effect (write (pdu.AssociateRj (rj result source reason) ∷ []) ∷ [])
    (rejected (rj result source reason) (stepped_by RejectResponse at.now c)))
decides TooSmall at rq c = aborts at c

-- an end without a site answers none (every acceptor has one)
abbrev pub decides_at : Option Part → Moment → AssociateRq → Core → Reaction
decides_at (Some site) at rq c = decides (answer rq site at.others) at rq c
decides_at None at rq c = quiet c

-- the service provider rejects what is of source 2 or 3
abbrev pub is_acceptable : Answer → Bool
is_acceptable (Reject result source reason) = source == 1
is_acceptable a = true

-- ---- a message, at an acceptor

-- the responses (PS3.7 9.3)
abbrev pub says : Core → ℕ → Command → LinkAction
says c id command =
    write (command_pdus (option_map_or (λ (a : Agreed). a.limit) c.agreed 0) id command)

abbrev pub stored : Core → ℕ → ℕ → Text → Text → ℕ → Effect
stored c context id class instance status =
    effect (says c context (StoreRsp id status class instance false) ∷ []) c

-- the instance is the one that the command names
abbrev pub is_named : Job → Text → Text → Bool
is_named item class instance = bytes_eq item.uid instance && bytes_eq item.key.class class

abbrev pub brings : Core → ℕ → ℕ → Text → Text → Job → Reaction
brings c context id class instance item =
    if is_named item class instance
    then Asks (Arrive c.peer item)
    (arrival (λ r. Ends (stored c context id class instance (store_status r))))
    else Ends (stored c context id class instance 0xA900)

abbrev pub arrives : Core → ℕ → ℕ → Text → Text → Found → Reaction
arrives c context id class instance TooLarge = Ends (stored c context id class instance 0xA700)
arrives c context id class instance Unreadable = Ends (stored c context id class instance 0xC000)
arrives c context id class instance Nameless = Ends (stored c context id class instance 0xA900)
arrives c context id class instance (Read item) = brings c context id class instance item

abbrev pub stores : Core → ℕ → Text → ℕ → Text → Text → Found → Reaction
stores c context of id class instance found =
    if bytes_eq class of
    then arrives c context id class instance found
    else Ends (stored c context id class instance 0x0122)

-- a C-ECHO-RQ names its context's class, or none (PS3.7 9.1.5)
abbrev pub echo_status : Text → Text → ℕ
echo_status class of = if (length class == 0) || bytes_eq class of then 0 else 0x0122

-- A request that isn't known is answered by its field or 8000H and the status 0211H (unrecognized
-- operation, PS3.7 annex C.5.12); one without an id, a C-CANCEL-RQ, isn't answered, and no answer
-- is.
abbrev pub requested_other : Core → ℕ → ℕ → Option ℕ → Option ℕ → Reaction
requested_other c context field (Some id) None =
    Ends (effect (says c context (Other (0x8000 + field) (Some id) (Some 0x0211) false) ∷ []) c)
requested_other c context field id status = quiet c

abbrev pub requested : Core → ℕ → Text → Command → Reaction
requested c context of (EchoRq id class has_data) =
    Ends (effect (says c context (EchoRsp id (echo_status class of) class false) ∷ []) c)
requested c context of (Other field id status has_data) = requested_other c context field id status
requested c context of command = quiet c

-- ---- a message, at a requestor: the response that it awaits

-- the status of a response, where it is one of the service that was asked for (PS3.7 9.1.1, 9.1.5)
abbrev pub answers : Requested → Command → Option ℕ
answers asked.Store (StoreRsp to status class instance has_data) = Some status
answers asked.Echo (EchoRsp to status class has_data) = Some status
answers of command = None

-- the same, in the context of the request
abbrev pub status_for : Pending → ℕ → Command → Option ℕ
status_for p context command = if p.context == context then answers p.asked command else None

-- what is pending is settled by that status; with none, what came is out of place
abbrev pub settles_by : Pending → Option ℕ → Moment → Core → Reaction
settles_by p (Some status) at c =
    Asks (Settle p.uid c.peer (Status status) at.now)
    (settling (Ends (effect [] (settled_with c))) (aborts_desk at c))
settles_by p None at c = aborts at c

abbrev pub replied : Option Pending → ℕ → Command → Moment → Core → Reaction
replied (Some p) context command at c = settles_by p (status_for p context command) at c
replied None context command at c = aborts at c

-- ---- a value

abbrev pub hears : Told → Moment → Core → Reaction
hears (Store context of id class instance found) at c = stores c context of id class instance found
hears (Whole context of command) at c =
    if is_requestor c
    then replied c.pending context command at c
    else requested c context of command
hears Fault at c = aborts at c
hears told at c = quiet c

-- ---- sending

-- ids go from 1 to 65,535, and then from 1 again
abbrev pub id_after : ℕ → ℕ
id_after last = if last == 65535 then 1 else last + 1

abbrev pub store_pdus : Agreed → ℕ → ℕ → Job → List Pdu
store_pdus agreed context id item =
    command_pdus agreed.limit context (StoreRq id item.key.class item.uid)
    ++ data_pdus agreed.limit context item.body

-- a store that awaits its response
abbrev pub storing : ℕ → ℕ → Text → Pending
storing id context uid = record { id = id; context = context; asked = asked.Store; uid = uid }

abbrev pub gives_nothing : Moment → Text → Core → Reaction
gives_nothing at uid c =
    Asks (Settle uid c.peer NoContext at.now) (settling (quiet c) (aborts_desk at c))

abbrev pub gives_in : Option ℕ → Agreed → Moment → Job → Core → Reaction
gives_in (Some context) agreed at item c = Ends
    (effect (write (store_pdus agreed context (id_after c.last) item) ∷ [])
    (awaiting (storing (id_after c.last) context item.uid) at.now c))
gives_in None agreed at item c = gives_nothing at item.uid c

abbrev pub gives : Option Agreed → Moment → Job → Core → Reaction
gives (Some agreed) at item c =
    gives_in (context_for agreed item.key.class (syntax_uid item.key.syntax)) agreed at item c
gives None at item c = quiet c

-- a UID is 1 to 64 bytes, each from 21H to 7EH
abbrev pub is_graphic : ℕ → Bool
is_graphic b = nat_le 0x21 b && nat_le b 0x7E

abbrev pub is_uid : Text → Bool
is_uid uid = nat_le 1 (length uid) && (nat_le (length uid) 64 && list_all is_graphic uid)

-- a C-STORE-RQ can name the instance and its class
abbrev pub can_be_named : Job → Bool
can_be_named item = is_uid item.key.class && is_uid item.uid

-- a desk that hands out what can't be named has failed (what is an item always can be)
abbrev pub hands : Moment → Core → Job → Reaction
hands at c item = if can_be_named item then gives c.agreed at item c else aborts_desk at c

-- what can't be read is settled so, and the end aborts by itself: nothing was sent
abbrev pub passes_over : Moment → Text → Core → Reaction
passes_over at uid c = Asks (Settle uid c.peer outcome.Unreadable at.now)
    (settling (aborts_idle at c) (aborts_desk at c))

-- what the desk hands out goes over, if it can be read
abbrev pub hands_row : Moment → Core → NextRow → Reaction
hands_row at c (next.Whole item) = hands at c item
hands_row at c (next.Unreadable uid) = passes_over at uid c

abbrev pub due : Moment → Core → Result (Option NextRow) LedgerFault → Reaction
due at c (Ok (Some row)) = hands_row at c row
due at c (Ok None) = quiet (dried c)
due at c (Err fault.Memory) = Fails
due at c (Err why) = aborts_desk at c

abbrev pub pushes : Moment → Core → Reaction
pushes at c = Asks (NextFor c.peer at.now) (job (due at c))

-- ---- a rejection, at a requestor: the first due row is settled as broken, by its uid alone

abbrev pub settles_refused : Moment → Text → Core → Reaction
settles_refused at uid c = Asks (Settle uid c.peer Broken at.now)
    (settling (Ends (effect (Close ∷ []) c)) (Ends (effect (Close ∷ []) (desk_failed c))))

abbrev pub refused : Moment → Core → Result (Option Text) LedgerFault → Reaction
refused at c (Ok (Some uid)) = settles_refused at uid c
refused at c (Ok None) = Ends (effect (Close ∷ []) c)
refused at c (Err fault.Memory) = Fails
refused at c (Err why) = Ends (effect (Close ∷ []) (desk_failed c))

abbrev pub refuses : Moment → Core → Reaction
refuses at c = Asks (DueFor c.peer at.now) (row (refused at c))

-- ---- an acceptance, at a requestor

abbrev pub agrees : Result Agreed NegoFault → Moment → Core → Reaction
agrees (Ok agreed) at c = quiet (record c { agreed = Some agreed; awaits = None })
agrees (Err negofault.Memory) at c = Fails
agrees (Err why) at c = aborts at c

-- ---- the table's actions, each in the phase that follows it

-- why the service provider aborts: an unknown type, a PDU out of place, or an invalid one
abbrev pub reason_of : Told → ℕ
reason_of (Plain Unknown) = 1
reason_of (Plain Invalid) = 6
reason_of Strange = 6
reason_of told = 2

-- in a collision of releases the requestor answers at once, and the acceptor waits (AR-8)
abbrev pub collides : ℕ → Core → Reaction
collides now c =
    if is_requestor c
    then
    Ends (effect (write (pdu.ReleaseRp ∷ []) ∷ []) (released (stepped_by ReleaseResponse now c)))
    else quiet c

-- an A-ABORT that was read is noted, also where the table has nothing to tell the user (AA-2)
abbrev pub noted : Told → Core → Core
noted (Plain (Abort a)) c = aborted c
noted told c = c

abbrev pub acts : Action → Moment → Told → Core → Reaction
acts Ae3 at (Agreement answer) c = agrees answer at c
acts Ae4 at (Plain (Rejection rj)) c = refuses at (rejected rj (left c))
acts Ae6 at (Plain (Request rq)) c = decides_at c.site at rq c
acts Dt1 at told c = pushes at c
acts Dt2 at told c = hears told at c
acts Ar6 at told c = hears told at c
acts Ar1 at told c =
    Ends (effect (write (pdu.ReleaseRq ∷ []) ∷ []) (record c { awaits = Some at.now }))
acts Ar2 at told c =
    leaves at (write (pdu.ReleaseRp ∷ []) ∷ []) (released (stepped_by ReleaseResponse at.now c))
acts Ar3 at told c = Ends (effect (Close ∷ []) (released c))
acts Ar8 at told c = collides at.now c
acts Ar10 at told c =
    Ends (effect (write (pdu.ReleaseRp ∷ []) ∷ []) (released (stepped_by ReleaseResponse at.now c)))
acts Aa1 at told c = leaves at (write (abort_pdu 0 0 ∷ []) ∷ []) (aborted c)
acts Aa2 at told c = leaves at (Close ∷ []) (noted told c)
acts Aa3 at told c = leaves at (Close ∷ []) (aborted c)
acts Aa4 at told c = leaves at [] c
acts Aa5 at told c = leaves at [] c
acts Aa7 at told c = Ends (effect (write (abort_pdu 2 0 ∷ []) ∷ []) (aborted c))
acts Aa8 at told c = leaves at (write (abort_pdu 2 (reason_of told) ∷ []) ∷ []) (aborted c)
acts a at told c = quiet c

-- ---- events

-- a requestor that has nothing pending
abbrev pub is_idle : Core → Bool
is_idle c = is_requestor c && not (is_some c.pending)

-- a requestor that is established, has nothing pending and may send (PS3.8 table 9-10, event 9)
abbrev pub is_free : Core → Bool
is_free c = is_idle c && may_send c.phase

-- for 60,000 milliseconds
abbrev pub has_waited : Option ℕ → ℕ → Bool
has_waited None now = false
has_waited (Some since) now = nat_le (since + 60000) now

-- a requestor that has awaited an answer for so long
abbrev pub is_impatient : Core → ℕ → Bool
is_impatient c now = is_requestor c && has_waited c.awaits now

abbrev pub event_of_plain : Input → Moment → Core → Option Event
event_of_plain (Request rq) at c = Some AssociateRqPdu
event_of_plain (Acceptance ac) at c = Some AssociateAcPdu
event_of_plain (Rejection rj) at c = Some AssociateRjPdu
event_of_plain (Value p) at c = Some DataPdu
event_of_plain NoValue at c = Some DataPdu
event_of_plain ReleaseRq at c = Some ReleaseRqPdu
event_of_plain ReleaseRp at c = Some ReleaseRpPdu
event_of_plain (Abort a) at c = Some AbortPdu
event_of_plain Unknown at c = Some InvalidPdu
event_of_plain Invalid at c = Some InvalidPdu
event_of_plain Ended at c = Some TransportClosed
event_of_plain Late at c =
    if next_expired c.phase at.now
    then Some ArtimExpired
    else if is_impatient c at.now then Some AbortRequest else None
event_of_plain AbortAsked at c = Some AbortRequest
event_of_plain ReleaseAsked at c = if is_idle c then Some ReleaseRequest else None
event_of_plain PushAsked at c = if is_free c then Some DataRequest else None

abbrev pub event_of : Told → Moment → Core → Option Event
event_of (Plain i) at c = event_of_plain i at c
event_of Strange at c = Some InvalidPdu
event_of (Agreement answer) at c = Some AssociateAcPdu
event_of told at c = Some DataPdu

abbrev pub is_taken_at : Option Part → AssociateRq → Moment → Bool
is_taken_at (Some site) rq at = is_acceptable (answer rq site at.others)
is_taken_at None rq at = true

abbrev pub is_taken : Told → Moment → Core → Bool
is_taken (Plain (Request rq)) at c = is_taken_at c.site rq at
is_taken told at c = true

-- the action of the cell, in the phase that follows; nothing where there is none
abbrev pub moves : Result (Action × Next) Next → Moment → Told → Core → Reaction
moves (Ok x) at told c = acts x.0 at told (record c { phase = x.1 })
moves (Err same) at told c = quiet c

abbrev pub occurs : Option Event → Moment → Told → Core → Reaction
occurs None at told c = quiet c
occurs (Some e) at told c = moves (next_stepped e (is_taken told at c) c.phase at.now) at told c

-- the event decides
abbrev pub turn : Moment → Core → Told → Reaction
turn at c told = occurs (event_of told at c) at told c
