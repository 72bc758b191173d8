-- A turn settles what pends, or what the desk handed out in it.
use Rattle.std.proofs.Common.{inr, ◌≡◌, ℕ, Bool, true, false, List, [], ◌∷◌, Option, Some, None, Result, Ok, Err, refl, subst}
use Rattle.std.specs.Prelude.{◌⊎◌, if◌then◌else◌}
use Rattle.std.specs.Str.{bytes_eq}
use Rattle.dr_base.specs.Syntaxes.{syntax_uid}
use Rattle.dr_base.specs.Texts.{Text}
use Rattle.dr_ulstate.specs.declared.table.Event.{Event}
use Rattle.dr_ulstate.specs.declared.table.Event.TheVariants.{ReleaseResponse, AbortRequest}
use Rattle.dr_ulstate.specs.declared.table.Action.{Action}
use Rattle.dr_ulstate.specs.declared.table.Action.TheVariants.{Ae1, Ae2, Ae3, Ae4, Ae5, Ae6, Ae7, Ae8, Dt1, Dt2, Ar1, Ar2, Ar3, Ar4, Ar5, Ar6, Ar7, Ar8, Ar9, Ar10, Aa1, Aa2, Aa3, Aa4, Aa5, Aa6, Aa7, Aa8}
use Rattle.dr_ulstate.specs.declared.phase.Next.{Next}
use Rattle.dr_ulstate.specs.Phases.{next_stepped}
use Rattle.dr_pdu.specs.declared.pdu.Pdu.TheVariants as pdu
use Rattle.dr_dimse.specs.declared.command.Command.{Command}
use Rattle.dr_dimse.specs.declared.command.Command.TheVariants.{StoreRq, StoreRsp, EchoRq, EchoRsp, Other}
use Rattle.dr_site.specs.Parts.{Part}
use Rattle.dr_ledger.specs.declared.content.Job.{Job}
use Rattle.dr_ledger.specs.declared.content.NextRow.{NextRow}
use Rattle.dr_ledger.specs.declared.content.NextRow.TheVariants as next
use Rattle.dr_ledger.specs.declared.item.Arrived.{Arrived}
use Rattle.dr_ledger.specs.declared.fault.LedgerFault.{LedgerFault}
use Rattle.dr_ledger.specs.declared.fault.LedgerFault.TheVariants as fault
use Rattle.dr_nego.specs.declared.agreed.Agreed.{Agreed}
use Rattle.dr_nego.specs.declared.answering.Answer.{Answer}
use Rattle.dr_nego.specs.declared.answering.Answer.TheVariants.{Accept, Reject, TooSmall}
use Rattle.dr_nego.specs.declared.fault.NegoFault.{NegoFault}
use Rattle.dr_nego.specs.declared.fault.NegoFault.TheVariants as negofault
use Rattle.dr_nego.specs.Agreeing.{AssociateRq, context_for}
use Rattle.dr_nego.specs.Answering.{answer}
use Rattle.dr_session.specs.declared.ends.Core.{Core}
use Rattle.dr_session.specs.declared.ends.Effect.{Effect}
use Rattle.dr_session.specs.declared.ends.Found.{Found}
use Rattle.dr_session.specs.declared.ends.Found.TheVariants.{Read, Nameless, Unreadable, TooLarge}
use Rattle.dr_session.specs.declared.ends.Input.{Input}
use Rattle.dr_session.specs.declared.ends.Input.TheVariants as input
use Rattle.dr_session.specs.declared.ends.LinkAction.{LinkAction}
use Rattle.dr_session.specs.declared.ends.Moment.{Moment}
use Rattle.dr_session.specs.declared.ends.Pending.{Pending}
use Rattle.dr_session.specs.declared.ends.Told.{Told}
use Rattle.dr_session.specs.declared.ends.Told.TheVariants.{Plain, Quiet, Fault, Strange, Store, Whole, Agreement}
use Rattle.dr_session.specs.Desks.{DeskAnswer, Arrive, Arrival, Upcoming, First, Settling}
use Rattle.dr_session.specs.Reactions.{Reaction, turn, occurs, moves, acts, hears, stores, stored, arrives, brings, is_named, requested, requested_other, replied, settles_by, status_for, decides, decides_at, rj, agrees, can_be_named, due, gives, gives_in, refused, leaves, leaves_by, aborts, aborts_desk, abort_pdu, aborted, released, desk_failed, settled_with, left, stepped_by, noted, reason_of, settling, arrival, job, row, write, effect, quiet, is_requestor, is_taken, event_of, rejected as marked, aborts_idle}
use Rattle.dr_ledger.specs.Replies.{store_status}
use Rattle.dr_session.specs.declared.ends.LinkAction.TheVariants.{Close}
use Rattle.dr_session.specs.Turns.{Ends, Asks}
use Rattle.dr_session.specs.Laws.{Given, Pends, SettlesOwn, SettlesOwnAlone}

module _ (peer : Text) (now : ℕ) where
  either : (b : Bool) (x y : Reaction) (Own : Text → Type 0) → SettlesOwn x peer now Own → SettlesOwn y peer now Own → SettlesOwn (if b then x else y) peer now Own
  either true x y Own h k = h
  either false x y Own h k = k

  settled : (done lost : Reaction) (Own : Text → Type 0) → SettlesOwn done peer now Own → SettlesOwn lost peer now Own → (reply : DeskAnswer) → SettlesOwn (settling done lost reply) peer now Own
  settled done lost Own h k (Settling (Ok r)) = h
  settled done lost Own h k (Settling (Err fault.NotWaiting)) = h
  settled done lost Own h k (Settling (Err fault.Memory)) = tt
  settled done lost Own h k (Settling (Err fault.NoLine)) = k
  settled done lost Own h k (Settling (Err fault.Conflict)) = k
  settled done lost Own h k (Settling (Err fault.Store)) = k
  settled done lost Own h k (Settling (Err fault.NotHeld)) = k
  settled done lost Own h k (Settling (Err fault.NotOver)) = k
  settled done lost Own h k (Arrival r) = tt
  settled done lost Own h k (Upcoming d) = tt
  settled done lost Own h k (First d) = tt

  came : (follow : Result Arrived LedgerFault → Effect) (Own : Text → Type 0) (reply : DeskAnswer) → SettlesOwn (arrival (λ r. Ends (follow r)) reply) peer now Own
  came follow Own (Arrival r) = tt
  came follow Own (Upcoming d) = tt
  came follow Own (First d) = tt
  came follow Own (Settling r) = tt

  handed : (follow : Result (Option NextRow) LedgerFault → Reaction) (Own : Text → Type 0)
      → ((d : Result (Option NextRow) LedgerFault) → SettlesOwn (follow d) peer now (λ uid. Own uid ⊎ Given (Upcoming d) uid))
      → (reply : DeskAnswer) → SettlesOwn (job follow reply) peer now (λ uid. Own uid ⊎ Given reply uid)
  handed follow Own h (Upcoming d) = h d
  handed follow Own h (Arrival r) = tt
  handed follow Own h (First d) = tt
  handed follow Own h (Settling r) = tt

  told_first : (follow : Result (Option Text) LedgerFault → Reaction) (Own : Text → Type 0)
      → ((d : Result (Option Text) LedgerFault) → SettlesOwn (follow d) peer now (λ uid. Own uid ⊎ Given (First d) uid))
      → (reply : DeskAnswer) → SettlesOwn (row follow reply) peer now (λ uid. Own uid ⊎ Given reply uid)
  told_first follow Own h (First d) = h d
  told_first follow Own h (Arrival r) = tt
  told_first follow Own h (Upcoming d) = tt
  told_first follow Own h (Settling r) = tt

  -- ---- what settles nothing

  bringing : (c : Core) (context id : ℕ) (class instance : Text) (item : Job) (Own : Text → Type 0) → SettlesOwn (brings c context id class instance item) peer now Own
  bringing c context id class instance item Own =
      either (is_named item class instance) (Asks (Arrive c.peer item) (arrival (λ r. Ends (stored c context id class instance (store_status r))))) (Ends (stored c context id class instance 0xA900)) Own
      (λ reply. came (λ r. stored c context id class instance (store_status r)) (λ uid. Own uid ⊎ Given reply uid) reply) tt

  arriving : (c : Core) (context id : ℕ) (class instance : Text) (found : Found) (Own : Text → Type 0) → SettlesOwn (arrives c context id class instance found) peer now Own
  arriving c context id class instance TooLarge Own = tt
  arriving c context id class instance Unreadable Own = tt
  arriving c context id class instance Nameless Own = tt
  arriving c context id class instance (Read item) Own = bringing c context id class instance item Own

  storing : (c : Core) (context : ℕ) (of : Text) (id : ℕ) (class instance : Text) (found : Found) (Own : Text → Type 0) → SettlesOwn (stores c context of id class instance found) peer now Own
  storing c context of id class instance found Own =
      either (bytes_eq class of) (arrives c context id class instance found) (Ends (stored c context id class instance 0x0122)) Own (arriving c context id class instance found Own) tt

  asked_other : (c : Core) (context field : ℕ) (id status : Option ℕ) (Own : Text → Type 0) → SettlesOwn (requested_other c context field id status) peer now Own
  asked_other c context field (Some id) None Own = tt
  asked_other c context field (Some id) (Some status) Own = tt
  asked_other c context field None status Own = tt

  asked : (c : Core) (context : ℕ) (of : Text) (command : Command) (Own : Text → Type 0) → SettlesOwn (requested c context of command) peer now Own
  asked c context of (EchoRq id class has_data) Own = tt
  asked c context of (Other field id status has_data) Own = asked_other c context field id status Own
  asked c context of (StoreRq id class instance) Own = tt
  asked c context of (StoreRsp to status class instance has_data) Own = tt
  asked c context of (EchoRsp to status class has_data) Own = tt

-- ---- what does, at its peer and its moment

leaving : (p : Option Pending) (now : ℕ) (done : List LinkAction) (c : Core) → SettlesOwn (leaves_by p now done c) c.peer now (λ uid. Pends p uid)
leaving None now done c = tt
leaving (Some p) now done c =
    (refl, refl, refl, λ reply. settled c.peer now (Ends (effect done (left c))) (Ends (effect done (desk_failed (left c)))) (λ uid. uid ≡ p.uid) tt tt reply)

aborting : (at : Moment) (c : Core) → SettlesOwn (aborts at c) c.peer at.now (λ uid. Pends c.pending uid)
aborting at c = leaving c.pending at.now (write (abort_pdu 0 0 ∷ []) ∷ []) (aborted (stepped_by AbortRequest at.now c))

deciding : (a : Answer) (at : Moment) (rq : AssociateRq) (c : Core) → SettlesOwn (decides a at rq c) c.peer at.now (λ uid. Pends c.pending uid)
deciding (Accept ac agreed) at rq c = tt
deciding (Reject result source reason) at rq c = tt
deciding TooSmall at rq c = aborting at c

deciding_at : (site : Option Part) (at : Moment) (rq : AssociateRq) (c : Core) → SettlesOwn (decides_at site at rq c) c.peer at.now (λ uid. Pends c.pending uid)
deciding_at (Some site) at rq c = deciding (answer rq site at.others) at rq c
deciding_at None at rq c = tt

settling_by : (p : Pending) (status : Option ℕ) (at : Moment) (c : Core) → c.pending ≡ Some p →
    SettlesOwn (settles_by p status at c) c.peer at.now (λ uid. Pends (Some p) uid)
settling_by p (Some status) at c is =
    (refl, refl, refl, λ reply. settled c.peer at.now (Ends (effect [] (settled_with c))) (aborts_desk at c) (λ uid. uid ≡ p.uid) tt tt reply)
settling_by p None at c is = subst (λ (o : Option Pending). SettlesOwn (aborts at c) c.peer at.now (λ uid. Pends o uid)) is (aborting at c)

replying : (p : Option Pending) (context : ℕ) (command : Command) (at : Moment) (c : Core) → c.pending ≡ p →
    SettlesOwn (replied p context command at c) c.peer at.now (λ uid. Pends p uid)
replying (Some p) context command at c is = settling_by p (status_for p context command) at c is
replying None context command at c is = subst (λ (o : Option Pending). SettlesOwn (aborts at c) c.peer at.now (λ uid. Pends o uid)) is (aborting at c)

hearing : (told : Told) (at : Moment) (c : Core) → SettlesOwn (hears told at c) c.peer at.now (λ uid. Pends c.pending uid)
hearing (Store context of id class instance found) at c = storing c.peer at.now c context of id class instance found (λ uid. Pends c.pending uid)
hearing (Whole context of command) at c =
    either c.peer at.now (is_requestor c) (replied c.pending context command at c) (requested c context of command) (λ uid. Pends c.pending uid)
    (replying c.pending context command at c refl) (asked c.peer at.now c context of command (λ uid. Pends c.pending uid))
hearing Fault at c = aborting at c
hearing (Plain i) at c = tt
hearing Quiet at c = tt
hearing Strange at c = tt
hearing (Agreement a) at c = tt

giving_in : (context : Option ℕ) (agreed : Agreed) (at : Moment) (item : Job) (c : Core) (Own : Text → Type 0) → Own item.uid → SettlesOwn (gives_in context agreed at item c) c.peer at.now Own
giving_in (Some context) agreed at item c Own own = tt
giving_in None agreed at item c Own own = (own, refl, refl, λ reply. settled c.peer at.now (quiet c) (aborts_desk at c) Own tt tt reply)

giving : (agreed : Option Agreed) (at : Moment) (item : Job) (c : Core) (Own : Text → Type 0) → Own item.uid → SettlesOwn (gives agreed at item c) c.peer at.now Own
giving (Some agreed) at item c Own own = giving_in (context_for agreed item.key.class (syntax_uid item.key.syntax)) agreed at item c Own own
giving None at item c Own own = tt

pushing : (at : Moment) (c : Core) (Own : Text → Type 0) (d : Result (Option NextRow) LedgerFault) → SettlesOwn (due at c d) c.peer at.now (λ uid. Own uid ⊎ Given (Upcoming d) uid)
pushing at c Own (Ok (Some (next.Unreadable found))) =
    (inr refl, refl, refl, λ reply. settled c.peer at.now (aborts_idle at c) (aborts_desk at c) (λ uid. Own uid ⊎ (uid ≡ found)) tt tt reply)
pushing at c Own (Ok (Some (next.Whole item))) =
    either c.peer at.now (can_be_named item) (gives c.agreed at item c) (aborts_desk at c) (λ uid. Own uid ⊎ (uid ≡ item.uid))
    (giving c.agreed at item c (λ uid. Own uid ⊎ (uid ≡ item.uid)) (inr refl)) tt
pushing at c Own (Ok None) = tt
pushing at c Own (Err fault.Memory) = tt
pushing at c Own (Err fault.NoLine) = tt
pushing at c Own (Err fault.Conflict) = tt
pushing at c Own (Err fault.Store) = tt
pushing at c Own (Err fault.NotWaiting) = tt
pushing at c Own (Err fault.NotHeld) = tt
pushing at c Own (Err fault.NotOver) = tt

refusing : (at : Moment) (c : Core) (Own : Text → Type 0) (d : Result (Option Text) LedgerFault) → SettlesOwn (refused at c d) c.peer at.now (λ uid. Own uid ⊎ Given (First d) uid)
refusing at c Own (Ok (Some first)) =
    (inr refl, refl, refl, λ reply. settled c.peer at.now (Ends (effect (Close ∷ []) c)) (Ends (effect (Close ∷ []) (desk_failed c))) (λ uid. Own uid ⊎ (uid ≡ first)) tt tt reply)
refusing at c Own (Ok None) = tt
refusing at c Own (Err fault.Memory) = tt
refusing at c Own (Err fault.NoLine) = tt
refusing at c Own (Err fault.Conflict) = tt
refusing at c Own (Err fault.Store) = tt
refusing at c Own (Err fault.NotWaiting) = tt
refusing at c Own (Err fault.NotHeld) = tt
refusing at c Own (Err fault.NotOver) = tt

agreeing : (a : Result Agreed NegoFault) (at : Moment) (c : Core) → SettlesOwn (agrees a at c) c.peer at.now (λ uid. Pends c.pending uid)
agreeing (Ok agreed) at c = tt
agreeing (Err negofault.Memory) at c = tt
agreeing (Err negofault.StrangeId) at c = aborting at c
agreeing (Err negofault.StrangeSyntax) at c = aborting at c
agreeing (Err negofault.LimitTooSmall) at c = aborting at c
agreeing (Err negofault.NoHop) at c = aborting at c

-- ---- each action, each event

accepted : (told : Told) (at : Moment) (c : Core) → SettlesOwn (acts Ae3 at told c) c.peer at.now (λ uid. Pends c.pending uid)
accepted (Agreement a) at c = agreeing a at c
accepted (Plain i) at c = tt
accepted Quiet at c = tt
accepted Fault at c = tt
accepted Strange at c = tt
accepted (Store context of id class instance found) at c = tt
accepted (Whole context of command) at c = tt

rejected_by : (i : Input) (at : Moment) (c : Core) → SettlesOwn (acts Ae4 at (Plain i) c) c.peer at.now (λ uid. Pends c.pending uid)
rejected_by (input.Rejection rj) at c = λ reply. told_first c.peer at.now (refused at (marked rj (left c))) (λ uid. Pends c.pending uid) (λ d. refusing at (marked rj (left c)) (λ uid. Pends c.pending uid) d) reply
rejected_by (input.Request rq) at c = tt
rejected_by (input.Acceptance ac) at c = tt
rejected_by (input.Value p) at c = tt
rejected_by input.NoValue at c = tt
rejected_by input.ReleaseRq at c = tt
rejected_by input.ReleaseRp at c = tt
rejected_by (input.Abort a) at c = tt
rejected_by input.Unknown at c = tt
rejected_by input.Invalid at c = tt
rejected_by input.Ended at c = tt
rejected_by input.Late at c = tt
rejected_by input.AbortAsked at c = tt
rejected_by input.ReleaseAsked at c = tt
rejected_by input.PushAsked at c = tt

rejected : (told : Told) (at : Moment) (c : Core) → SettlesOwn (acts Ae4 at told c) c.peer at.now (λ uid. Pends c.pending uid)
rejected (Plain i) at c = rejected_by i at c
rejected Quiet at c = tt
rejected Fault at c = tt
rejected Strange at c = tt
rejected (Store context of id class instance found) at c = tt
rejected (Whole context of command) at c = tt
rejected (Agreement a) at c = tt

requested_by : (i : Input) (at : Moment) (c : Core) → SettlesOwn (acts Ae6 at (Plain i) c) c.peer at.now (λ uid. Pends c.pending uid)
requested_by (input.Request rq) at c = deciding_at c.site at rq c
requested_by (input.Rejection rj) at c = tt
requested_by (input.Acceptance ac) at c = tt
requested_by (input.Value p) at c = tt
requested_by input.NoValue at c = tt
requested_by input.ReleaseRq at c = tt
requested_by input.ReleaseRp at c = tt
requested_by (input.Abort a) at c = tt
requested_by input.Unknown at c = tt
requested_by input.Invalid at c = tt
requested_by input.Ended at c = tt
requested_by input.Late at c = tt
requested_by input.AbortAsked at c = tt
requested_by input.ReleaseAsked at c = tt
requested_by input.PushAsked at c = tt

requests : (told : Told) (at : Moment) (c : Core) → SettlesOwn (acts Ae6 at told c) c.peer at.now (λ uid. Pends c.pending uid)
requests (Plain i) at c = requested_by i at c
requests Quiet at c = tt
requests Fault at c = tt
requests Strange at c = tt
requests (Store context of id class instance found) at c = tt
requests (Whole context of command) at c = tt
requests (Agreement a) at c = tt

-- what is noted changes neither the peer nor what pends
noting_by : (i : Input) (at : Moment) (c : Core) → SettlesOwn (leaves at (Close ∷ []) (noted (Plain i) c)) c.peer at.now (λ uid. Pends c.pending uid)
noting_by (input.Abort a) at c = leaving c.pending at.now (Close ∷ []) (aborted c)
noting_by (input.Rejection rj) at c = leaving c.pending at.now (Close ∷ []) c
noting_by (input.Request rq) at c = leaving c.pending at.now (Close ∷ []) c
noting_by (input.Acceptance ac) at c = leaving c.pending at.now (Close ∷ []) c
noting_by (input.Value p) at c = leaving c.pending at.now (Close ∷ []) c
noting_by input.NoValue at c = leaving c.pending at.now (Close ∷ []) c
noting_by input.ReleaseRq at c = leaving c.pending at.now (Close ∷ []) c
noting_by input.ReleaseRp at c = leaving c.pending at.now (Close ∷ []) c
noting_by input.Unknown at c = leaving c.pending at.now (Close ∷ []) c
noting_by input.Invalid at c = leaving c.pending at.now (Close ∷ []) c
noting_by input.Ended at c = leaving c.pending at.now (Close ∷ []) c
noting_by input.Late at c = leaving c.pending at.now (Close ∷ []) c
noting_by input.AbortAsked at c = leaving c.pending at.now (Close ∷ []) c
noting_by input.ReleaseAsked at c = leaving c.pending at.now (Close ∷ []) c
noting_by input.PushAsked at c = leaving c.pending at.now (Close ∷ []) c

noting : (told : Told) (at : Moment) (c : Core) → SettlesOwn (leaves at (Close ∷ []) (noted told c)) c.peer at.now (λ uid. Pends c.pending uid)
noting (Plain i) at c = noting_by i at c
noting Quiet at c = leaving c.pending at.now (Close ∷ []) c
noting Fault at c = leaving c.pending at.now (Close ∷ []) c
noting Strange at c = leaving c.pending at.now (Close ∷ []) c
noting (Store context of id class instance found) at c = leaving c.pending at.now (Close ∷ []) c
noting (Whole context of command) at c = leaving c.pending at.now (Close ∷ []) c
noting (Agreement a) at c = leaving c.pending at.now (Close ∷ []) c

acting : (a : Action) (at : Moment) (told : Told) (c : Core) → SettlesOwn (acts a at told c) c.peer at.now (λ uid. Pends c.pending uid)
acting Ae3 at told c = accepted told at c
acting Ae4 at told c = rejected told at c
acting Ae6 at told c = requests told at c
acting Dt1 at told c = λ reply. handed c.peer at.now (due at c) (λ uid. Pends c.pending uid) (λ d. pushing at c (λ uid. Pends c.pending uid) d) reply
acting Dt2 at told c = hearing told at c
acting Ar6 at told c = hearing told at c
acting Ar1 at told c = tt
acting Ar2 at told c = leaving c.pending at.now (write (pdu.ReleaseRp ∷ []) ∷ []) (released (stepped_by ReleaseResponse at.now c))
acting Ar3 at told c = tt
acting Ar8 at told c =
    either c.peer at.now (is_requestor c) (Ends (effect (write (pdu.ReleaseRp ∷ []) ∷ []) (released (stepped_by ReleaseResponse at.now c)))) (quiet c) (λ uid. Pends c.pending uid) tt tt
acting Ar10 at told c = tt
acting Aa1 at told c = leaving c.pending at.now (write (abort_pdu 0 0 ∷ []) ∷ []) (aborted c)
acting Aa2 at told c = noting told at c
acting Aa3 at told c = leaving c.pending at.now (Close ∷ []) (aborted c)
acting Aa4 at told c = leaving c.pending at.now [] c
acting Aa5 at told c = leaving c.pending at.now [] c
acting Aa7 at told c = tt
acting Aa8 at told c = leaving c.pending at.now (write (abort_pdu 2 (reason_of told) ∷ []) ∷ []) (aborted c)
acting Ae1 at told c = tt
acting Ae2 at told c = tt
acting Ae5 at told c = tt
acting Ae7 at told c = tt
acting Ae8 at told c = tt
acting Ar4 at told c = tt
acting Ar5 at told c = tt
acting Ar7 at told c = tt
acting Ar9 at told c = tt
acting Aa6 at told c = tt

moving : (r : Result (Action × Next) Next) (at : Moment) (told : Told) (c : Core) → SettlesOwn (moves r at told c) c.peer at.now (λ uid. Pends c.pending uid)
moving (Ok x) at told c = acting x.0 at told (record c { phase = x.1 })
moving (Err same) at told c = tt

occurring : (e : Option Event) (at : Moment) (told : Told) (c : Core) → SettlesOwn (occurs e at told c) c.peer at.now (λ uid. Pends c.pending uid)
occurring None at told c = tt
occurring (Some e) at told c = moving (next_stepped e (is_taken told at c) c.phase at.now) at told c

pub settles_own : SettlesOwnAlone
settles_own at c told = occurring (event_of told at c) at told c
