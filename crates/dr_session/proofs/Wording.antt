-- What a reaction writes, whatever a desk answers: by what each thing that may be written is.
use Rattle.std.proofs.Common.{◌≡◌, ℕ, Bool, true, false, List, [], ◌∷◌, Option, Some, None, Result, Ok, Err, refl, sym, subst}
use Rattle.std.specs.Prelude.{◌+◌, if◌then◌else◌}
use Rattle.dr_base.specs.Syntaxes.{syntax_uid}
use Rattle.std.specs.List.{AllByRecursion}
use Rattle.dr_base.specs.Texts.{Text}
use Rattle.dr_ulstate.specs.declared.table.Event.{Event}
use Rattle.dr_ulstate.specs.declared.table.Event.TheVariants.{ReleaseResponse, AbortRequest}
use Rattle.dr_ulstate.specs.declared.table.Action.{Action}
use Rattle.dr_ulstate.specs.declared.table.Action.TheVariants.{Ae1, Ae2, Ae3, Ae4, Ae5, Ae6, Ae7, Ae8, Dt1, Dt2, Ar1, Ar2, Ar3, Ar4, Ar5, Ar6, Ar7, Ar8, Ar9, Ar10, Aa1, Aa2, Aa3, Aa4, Aa5, Aa6, Aa7, Aa8}
use Rattle.dr_ulstate.specs.declared.phase.Next.{Next}
use Rattle.dr_ulstate.specs.Phases.{next_stepped}
use Rattle.dr_pdu.specs.declared.pdu.Pdu.{Pdu}
use Rattle.dr_pdu.specs.declared.pdu.Pdu.TheVariants as pdu
use Rattle.dr_dimse.specs.declared.command.Command.{Command}
use Rattle.dr_dimse.specs.declared.command.Command.TheVariants.{StoreRq, StoreRsp, EchoRq, EchoRsp, Other}
use Rattle.dr_site.specs.Parts.{Part}
use Rattle.dr_ledger.specs.declared.content.Job.{Job}
use Rattle.dr_ledger.specs.declared.content.NextRow.{NextRow}
use Rattle.dr_ledger.specs.declared.content.NextRow.TheVariants as next
use Rattle.dr_ledger.specs.declared.item.Arrived.{Arrived}
use Rattle.dr_ledger.specs.declared.fault.LedgerFault.{LedgerFault}
use Rattle.dr_ledger.specs.declared.fault.LedgerFault.TheVariants as fault
use Rattle.dr_nego.specs.declared.agreed.Agreed.{Agreed}
use Rattle.dr_nego.specs.declared.answering.Answer.{Answer}
use Rattle.dr_nego.specs.declared.answering.Answer.TheVariants.{Accept, Reject, TooSmall}
use Rattle.dr_nego.specs.declared.fault.NegoFault.{NegoFault}
use Rattle.dr_nego.specs.declared.fault.NegoFault.TheVariants as negofault
use Rattle.dr_pdu.specs.Written.{Fits}
use Rattle.dr_pdu.proofs.WrittenLemmas.{others_fit}
use Rattle.dr_nego.specs.Agreeing.{AssociateRq, AssociateAc, context_for}
use Rattle.dr_nego.specs.Answering.{answer}
use Rattle.dr_session.specs.declared.ends.Core.{Core}
use Rattle.dr_session.specs.declared.ends.Effect.{Effect}
use Rattle.dr_session.specs.declared.ends.Found.{Found}
use Rattle.dr_session.specs.declared.ends.Input.{Input}
use Rattle.dr_session.specs.declared.ends.Input.TheVariants as input
use Rattle.dr_session.specs.declared.ends.LinkAction.{LinkAction}
use Rattle.dr_session.specs.declared.ends.Moment.{Moment}
use Rattle.dr_session.specs.declared.ends.Pending.{Pending}
use Rattle.dr_session.specs.declared.ends.Told.{Told}
use Rattle.dr_session.specs.declared.ends.Told.TheVariants.{Plain, Quiet, Fault, Strange, Store, Whole, Agreement}
use Rattle.dr_session.specs.Desks.{DeskCall, DeskAnswer, Arrival, Upcoming, First, Settling}
use Rattle.dr_session.specs.Reactions.{Reaction, turn, occurs, moves, acts, hears, stores, requested, requested_other, echo_status, replied, settles_by, status_for, decides, decides_at, rj, agrees, can_be_named, due, gives, gives_in, store_pdus, id_after, refused, leaves_by, aborts, aborts_desk, abort_pdu, aborted, released, desk_failed, settled_with, left, stepped_by, noted, reason_of, says, settling, arrival, job, row, write, effect, quiet, is_requestor, is_taken, rejected as marked, aborts_idle}
use Rattle.dr_session.specs.declared.ends.LinkAction.TheVariants.{Close}
use Rattle.dr_session.specs.Turns.{Ends, Asks, Fails, Turns}
use Rattle.dr_session.specs.Laws.{HasNoData, IsOther}

-- whatever the desk answers, what is written is so, and so are the site and what is agreed on after it
abbrev pub Spells : (LinkAction → Type 0) → (Option Part → Option Agreed → Type 0) → Reaction → Type 0
Spells Is Of (Ends x) = AllByRecursion Is x.acts × Of x.core.site x.core.agreed
Spells Is Of (Asks call follow) = (reply : DeskAnswer) → Spells Is Of (follow reply)
Spells Is Of Fails = Unit {0}

pub ends_spelled : (Is : LinkAction → Type 0) (Of : Option Part → Option Agreed → Type 0) {S : Type 0} (step : S → DeskCall → DeskAnswer → S → Type 0) (turn : Reaction) (s t : S) (x : Effect) → Spells Is Of turn → Turns step turn s x t
    → AllByRecursion Is x.acts × Of x.core.site x.core.agreed
ends_spelled Is Of step (Ends value) s t x h (is, same) = subst (λ (y : Effect). AllByRecursion Is y.acts × Of y.core.site y.core.agreed) (sym is) h
ends_spelled Is Of step Fails s t x h k = absurd k
ends_spelled Is Of step (Asks call follow) s t x h (reply, m, one, more) = ends_spelled Is Of step (follow reply) m t x (h reply) more

-- ---- PDUs without data that can be written

abort_fits : (source reason : ℕ) → Fits (abort_pdu source reason)
abort_fits source reason = others_fit (abort_pdu source reason) (λ rq e. cc) (λ ac e. cc) (λ pdvs e. cc)

rejection_fits : (result source reason : ℕ) → Fits (pdu.AssociateRj (rj result source reason))
rejection_fits result source reason = others_fit (pdu.AssociateRj (rj result source reason)) (λ rq e. cc) (λ ac e. cc) (λ pdvs e. cc)

release_fits : Fits pdu.ReleaseRq
release_fits = others_fit pdu.ReleaseRq (λ rq e. cc) (λ ac e. cc) (λ pdvs e. cc)

released_fits : Fits pdu.ReleaseRp
released_fits = others_fit pdu.ReleaseRp (λ rq e. cc) (λ ac e. cc) (λ pdvs e. cc)

module _ (Is : LinkAction → Type 0) (Of : Option Part → Option Agreed → Type 0) where
  -- ---- parts

  pub either : (b : Bool) (x y : Reaction) → Spells Is Of x → Spells Is Of y → Spells Is Of (if b then x else y)
  either true x y h k = h
  either false x y h k = k

  settled : (done lost : Reaction) → Spells Is Of done → Spells Is Of lost → (reply : DeskAnswer) → Spells Is Of (settling done lost reply)
  settled done lost h k (Settling (Ok r)) = h
  settled done lost h k (Settling (Err fault.NotWaiting)) = h
  settled done lost h k (Settling (Err fault.Memory)) = tt
  settled done lost h k (Settling (Err fault.NoLine)) = k
  settled done lost h k (Settling (Err fault.Conflict)) = k
  settled done lost h k (Settling (Err fault.Store)) = k
  settled done lost h k (Settling (Err fault.NotHeld)) = k
  settled done lost h k (Settling (Err fault.NotOver)) = k
  settled done lost h k (Arrival r) = tt
  settled done lost h k (Upcoming d) = tt
  settled done lost h k (First d) = tt

  pub came : (follow : Result Arrived LedgerFault → Reaction) → ((r : Result Arrived LedgerFault) → Spells Is Of (follow r)) → (reply : DeskAnswer) → Spells Is Of (arrival follow reply)
  came follow h (Arrival r) = h r
  came follow h (Upcoming d) = tt
  came follow h (First d) = tt
  came follow h (Settling r) = tt

  handed : (follow : Result (Option NextRow) LedgerFault → Reaction) → ((r : Result (Option NextRow) LedgerFault) → Spells Is Of (follow r)) → (reply : DeskAnswer) → Spells Is Of (job follow reply)
  handed follow h (Upcoming d) = h d
  handed follow h (Arrival r) = tt
  handed follow h (First d) = tt
  handed follow h (Settling r) = tt

  told_first : (follow : Result (Option Text) LedgerFault → Reaction) → ((r : Result (Option Text) LedgerFault) → Spells Is Of (follow r)) → (reply : DeskAnswer) → Spells Is Of (row follow reply)
  told_first follow h (First d) = h d
  told_first follow h (Arrival r) = tt
  told_first follow h (Upcoming d) = tt
  told_first follow h (Settling r) = tt

  leaving : (p : Option Pending) (now : ℕ) (done : List LinkAction) (c : Core) → AllByRecursion Is done → Of c.site c.agreed → Spells Is Of (leaves_by p now done c)
  leaving None now done c h k = (h, k)
  leaving (Some p) now done c h k = λ reply. settled _ _ (h, k) (h, k) reply

  noted_by : (i : Input) (c : Core) → Of c.site c.agreed → Of (noted (Plain i) c).site (noted (Plain i) c).agreed
  noted_by (input.Abort a) c k = k
  noted_by (input.Request rq) c k = k
  noted_by (input.Acceptance ac) c k = k
  noted_by (input.Rejection rj) c k = k
  noted_by (input.Value p) c k = k
  noted_by input.NoValue c k = k
  noted_by input.ReleaseRq c k = k
  noted_by input.ReleaseRp c k = k
  noted_by input.Unknown c k = k
  noted_by input.Invalid c k = k
  noted_by input.Ended c k = k
  noted_by input.Late c k = k
  noted_by input.AbortAsked c k = k
  noted_by input.ReleaseAsked c k = k
  noted_by input.PushAsked c k = k

  noted_of : (told : Told) (c : Core) → Of c.site c.agreed → Of (noted told c).site (noted told c).agreed
  noted_of (Plain i) c k = noted_by i c k
  noted_of Quiet c k = k
  noted_of Fault c k = k
  noted_of Strange c k = k
  noted_of (Store context of id class instance found) c k = k
  noted_of (Whole context of command) c k = k
  noted_of (Agreement a) c k = k

  -- what a turn may be told, and what may be written: that the connection is closed, a PDU without data, an acceptance, a C-STORE-RQ, a command that answers none
  module _ (Takes : Told → Type 0) (closed : Is Close) (alone : (p : Pdu) → HasNoData p → Fits p → Is (write (p ∷ [])))
      (accepts : (rq : AssociateRq) (site : Part) (others : ℕ) (o : Option Agreed) → Takes (Plain (input.Request rq)) → Of (Some site) o → (ac : AssociateAc) (agreed : Agreed) → answer rq site others ≡ Accept ac agreed
      → Is (write (pdu.AssociateAc ac ∷ [])) × Of (Some site) (Some agreed))
      (agrees_on : (site : Option Part) (o : Option Agreed) (agreed : Agreed) → Takes (Agreement (Ok agreed)) → Of site o → Of site (Some agreed))
      (gives_store : (site : Option Part) (agreed : Agreed) (context id : ℕ) (item : Job) → Of site (Some agreed) → Is (write (store_pdus agreed context id item)))
      (says_other : (c : Core) (context : ℕ) (command : Command) → IsOther command → Of c.site c.agreed → Is (says c context command))
      (storing : (context : ℕ) (of : Text) (id : ℕ) (class instance : Text) (found : Found) → Takes (Store context of id class instance found) → (c : Core) → Of c.site c.agreed → Spells Is Of (stores c context of id class instance found)) where
    abort_alone : (source reason : ℕ) → AllByRecursion Is (write (abort_pdu source reason ∷ []) ∷ [])
    abort_alone source reason = (alone (abort_pdu source reason) tt (abort_fits source reason), tt)

    release_alone : AllByRecursion Is (write (pdu.ReleaseRq ∷ []) ∷ [])
    release_alone = (alone pdu.ReleaseRq tt release_fits, tt)

    released_alone : AllByRecursion Is (write (pdu.ReleaseRp ∷ []) ∷ [])
    released_alone = (alone pdu.ReleaseRp tt released_fits, tt)

    aborting : (at : Moment) (c : Core) → Of c.site c.agreed → Spells Is Of (aborts at c)
    aborting at c k = leaving c.pending at.now (write (abort_pdu 0 0 ∷ []) ∷ []) (aborted (stepped_by AbortRequest at.now c)) (abort_alone 0 0) k

    -- ---- reactions

    deciding : (rq : AssociateRq) (site : Part) (a : Answer) (at : Moment) (c : Core) → answer rq site at.others ≡ a → c.site ≡ Some site → Takes (Plain (input.Request rq)) → Of c.site c.agreed → Spells Is Of (decides a at rq c)
    deciding rq site (Accept ac agreed) at c is same takes k =
        let O : Option Part → Type 0 = λ o. Of o c.agreed in
        let N : Option Part → Type 0 = λ o. Of o (Some agreed) in
        let both = accepts rq site at.others c.agreed takes (subst O same k) ac agreed is in ((both.0, tt), subst N (sym same) both.1)
    deciding rq site (Reject result source reason) at c is same takes k = ((alone (pdu.AssociateRj (rj result source reason)) tt (rejection_fits result source reason), tt), k)
    deciding rq site TooSmall at c is same takes k = aborting at c k

    deciding_at : (o : Option Part) (at : Moment) (rq : AssociateRq) (c : Core) → c.site ≡ o → Takes (Plain (input.Request rq)) → Of c.site c.agreed → Spells Is Of (decides_at o at rq c)
    deciding_at (Some site) at rq c same takes k = deciding rq site (answer rq site at.others) at c refl same takes k
    deciding_at None at rq c same takes k = (tt, k)

    asked_other : (c : Core) (context field : ℕ) (id status : Option ℕ) → Of c.site c.agreed → Spells Is Of (requested_other c context field id status)
    asked_other c context field (Some id) None k = ((says_other c context (Other (0x8000 + field) (Some id) (Some 0x0211) false) tt k, tt), k)
    asked_other c context field (Some id) (Some status) k = (tt, k)
    asked_other c context field None status k = (tt, k)

    asked : (c : Core) (context : ℕ) (of : Text) (command : Command) → Of c.site c.agreed → Spells Is Of (requested c context of command)
    asked c context of (EchoRq id class has_data) k = ((says_other c context (EchoRsp id (echo_status class of) class false) tt k, tt), k)
    asked c context of (Other field id status has_data) k = asked_other c context field id status k
    asked c context of (StoreRq id class instance) k = (tt, k)
    asked c context of (StoreRsp to status class instance has_data) k = (tt, k)
    asked c context of (EchoRsp to status class has_data) k = (tt, k)

    settling_by : (p : Pending) (status : Option ℕ) (at : Moment) (c : Core) → Of c.site c.agreed → Spells Is Of (settles_by p status at c)
    settling_by p (Some status) at c k = λ reply. settled (Ends (effect [] (settled_with c))) (aborts_desk at c) (tt, k) (abort_alone 0 0, k) reply
    settling_by p None at c k = aborting at c k

    answered : (p : Option Pending) (context : ℕ) (command : Command) (at : Moment) (c : Core) → Of c.site c.agreed → Spells Is Of (replied p context command at c)
    answered (Some p) context command at c k = settling_by p (status_for p context command) at c k
    answered None context command at c k = aborting at c k

    hearing : (told : Told) → Takes told → (at : Moment) (c : Core) → Of c.site c.agreed → Spells Is Of (hears told at c)
    hearing (Store context of id class instance found) takes at c k = storing context of id class instance found takes c k
    hearing (Whole context of command) takes at c k =
        either (is_requestor c) (replied c.pending context command at c) (requested c context of command)
        (answered c.pending context command at c k) (asked c context of command k)
    hearing Fault takes at c k = aborting at c k
    hearing (Plain i) takes at c k = (tt, k)
    hearing Quiet takes at c k = (tt, k)
    hearing Strange takes at c k = (tt, k)
    hearing (Agreement a) takes at c k = (tt, k)

    giving_in : (context : Option ℕ) (agreed : Agreed) (at : Moment) (item : Job) (c : Core) → c.agreed ≡ Some agreed → Of c.site c.agreed → Spells Is Of (gives_in context agreed at item c)
    giving_in (Some context) agreed at item c same k =
        let O : Option Agreed → Type 0 = λ o. Of c.site o in ((gives_store c.site agreed context (id_after c.last) item (subst O same k), tt), k)
    giving_in None agreed at item c same k = λ reply. settled (quiet c) (aborts_desk at c) (tt, k) (abort_alone 0 0, k) reply

    giving : (o : Option Agreed) (at : Moment) (item : Job) (c : Core) → c.agreed ≡ o → Of c.site c.agreed → Spells Is Of (gives o at item c)
    giving (Some agreed) at item c same k = giving_in (context_for agreed item.key.class (syntax_uid item.key.syntax)) agreed at item c same k
    giving None at item c same k = (tt, k)

    pushing : (at : Moment) (c : Core) (d : Result (Option NextRow) LedgerFault) → Of c.site c.agreed → Spells Is Of (due at c d)
    pushing at c (Ok (Some (next.Unreadable uid))) k = λ reply. settled (aborts_idle at c) (aborts_desk at c) (abort_alone 0 0, k) (abort_alone 0 0, k) reply
    pushing at c (Ok (Some (next.Whole item))) k = either (can_be_named item) (gives c.agreed at item c) (aborts_desk at c) (giving c.agreed at item c refl k) (abort_alone 0 0, k)
    pushing at c (Ok None) k = (tt, k)
    pushing at c (Err fault.Memory) k = tt
    pushing at c (Err fault.NoLine) k = (abort_alone 0 0, k)
    pushing at c (Err fault.Conflict) k = (abort_alone 0 0, k)
    pushing at c (Err fault.Store) k = (abort_alone 0 0, k)
    pushing at c (Err fault.NotWaiting) k = (abort_alone 0 0, k)
    pushing at c (Err fault.NotHeld) k = (abort_alone 0 0, k)
    pushing at c (Err fault.NotOver) k = (abort_alone 0 0, k)

    refusing : (at : Moment) (c : Core) (d : Result (Option Text) LedgerFault) → Of c.site c.agreed → Spells Is Of (refused at c d)
    refusing at c (Ok (Some uid)) k = λ reply. settled (Ends (effect (Close ∷ []) c)) (Ends (effect (Close ∷ []) (desk_failed c))) ((closed, tt), k) ((closed, tt), k) reply
    refusing at c (Ok None) k = ((closed, tt), k)
    refusing at c (Err fault.Memory) k = tt
    refusing at c (Err fault.NoLine) k = ((closed, tt), k)
    refusing at c (Err fault.Conflict) k = ((closed, tt), k)
    refusing at c (Err fault.Store) k = ((closed, tt), k)
    refusing at c (Err fault.NotWaiting) k = ((closed, tt), k)
    refusing at c (Err fault.NotHeld) k = ((closed, tt), k)
    refusing at c (Err fault.NotOver) k = ((closed, tt), k)

    agreeing : (a : Result Agreed NegoFault) (at : Moment) (c : Core) → Takes (Agreement a) → Of c.site c.agreed → Spells Is Of (agrees a at c)
    agreeing (Ok agreed) at c takes k = (tt, agrees_on c.site c.agreed agreed takes k)
    agreeing (Err negofault.Memory) at c takes k = tt
    agreeing (Err negofault.StrangeId) at c takes k = aborting at c k
    agreeing (Err negofault.StrangeSyntax) at c takes k = aborting at c k
    agreeing (Err negofault.LimitTooSmall) at c takes k = aborting at c k
    agreeing (Err negofault.NoHop) at c takes k = aborting at c k

    -- ---- actions that look into what was told

    accepted : (told : Told) → Takes told → (at : Moment) (c : Core) → Of c.site c.agreed → Spells Is Of (acts Ae3 at told c)
    accepted (Agreement a) takes at c k = agreeing a at c takes k
    accepted (Plain i) takes at c k = (tt, k)
    accepted Quiet takes at c k = (tt, k)
    accepted Fault takes at c k = (tt, k)
    accepted Strange takes at c k = (tt, k)
    accepted (Store context of id class instance found) takes at c k = (tt, k)
    accepted (Whole context of command) takes at c k = (tt, k)

    rejected_by : (i : Input) (at : Moment) (c : Core) → Of c.site c.agreed → Spells Is Of (acts Ae4 at (Plain i) c)
    rejected_by (input.Rejection rj) at c k = λ reply. told_first (refused at (marked rj (left c))) (λ d. refusing at (marked rj (left c)) d k) reply
    rejected_by (input.Request rq) at c k = (tt, k)
    rejected_by (input.Acceptance ac) at c k = (tt, k)
    rejected_by (input.Value p) at c k = (tt, k)
    rejected_by input.NoValue at c k = (tt, k)
    rejected_by input.ReleaseRq at c k = (tt, k)
    rejected_by input.ReleaseRp at c k = (tt, k)
    rejected_by (input.Abort a) at c k = (tt, k)
    rejected_by input.Unknown at c k = (tt, k)
    rejected_by input.Invalid at c k = (tt, k)
    rejected_by input.Ended at c k = (tt, k)
    rejected_by input.Late at c k = (tt, k)
    rejected_by input.AbortAsked at c k = (tt, k)
    rejected_by input.ReleaseAsked at c k = (tt, k)
    rejected_by input.PushAsked at c k = (tt, k)

    rejected : (told : Told) (at : Moment) (c : Core) → Of c.site c.agreed → Spells Is Of (acts Ae4 at told c)
    rejected (Plain i) at c k = rejected_by i at c k
    rejected Quiet at c k = (tt, k)
    rejected Fault at c k = (tt, k)
    rejected Strange at c k = (tt, k)
    rejected (Store context of id class instance found) at c k = (tt, k)
    rejected (Whole context of command) at c k = (tt, k)
    rejected (Agreement a) at c k = (tt, k)

    requested_by : (i : Input) → Takes (Plain i) → (at : Moment) (c : Core) → Of c.site c.agreed → Spells Is Of (acts Ae6 at (Plain i) c)
    requested_by (input.Request rq) takes at c k = deciding_at c.site at rq c refl takes k
    requested_by (input.Rejection rj) takes at c k = (tt, k)
    requested_by (input.Acceptance ac) takes at c k = (tt, k)
    requested_by (input.Value p) takes at c k = (tt, k)
    requested_by input.NoValue takes at c k = (tt, k)
    requested_by input.ReleaseRq takes at c k = (tt, k)
    requested_by input.ReleaseRp takes at c k = (tt, k)
    requested_by (input.Abort a) takes at c k = (tt, k)
    requested_by input.Unknown takes at c k = (tt, k)
    requested_by input.Invalid takes at c k = (tt, k)
    requested_by input.Ended takes at c k = (tt, k)
    requested_by input.Late takes at c k = (tt, k)
    requested_by input.AbortAsked takes at c k = (tt, k)
    requested_by input.ReleaseAsked takes at c k = (tt, k)
    requested_by input.PushAsked takes at c k = (tt, k)

    requests : (told : Told) → Takes told → (at : Moment) (c : Core) → Of c.site c.agreed → Spells Is Of (acts Ae6 at told c)
    requests (Plain i) takes at c k = requested_by i takes at c k
    requests Quiet takes at c k = (tt, k)
    requests Fault takes at c k = (tt, k)
    requests Strange takes at c k = (tt, k)
    requests (Store context of id class instance found) takes at c k = (tt, k)
    requests (Whole context of command) takes at c k = (tt, k)
    requests (Agreement a) takes at c k = (tt, k)

    -- ---- each action, each event

    acting : (a : Action) (at : Moment) (told : Told) → Takes told → (c : Core) → Of c.site c.agreed → Spells Is Of (acts a at told c)
    acting Ae3 at told takes c k = accepted told takes at c k
    acting Ae4 at told takes c k = rejected told at c k
    acting Ae6 at told takes c k = requests told takes at c k
    acting Dt1 at told takes c k = λ reply. handed (due at c) (λ d. pushing at c d k) reply
    acting Dt2 at told takes c k = hearing told takes at c k
    acting Ar6 at told takes c k = hearing told takes at c k
    acting Ar1 at told takes c k = (release_alone, k)
    acting Ar2 at told takes c k = leaving c.pending at.now (write (pdu.ReleaseRp ∷ []) ∷ []) (released (stepped_by ReleaseResponse at.now c)) released_alone k
    acting Ar3 at told takes c k = ((closed, tt), k)
    acting Ar8 at told takes c k =
        either (is_requestor c) (Ends (effect (write (pdu.ReleaseRp ∷ []) ∷ []) (released (stepped_by ReleaseResponse at.now c)))) (quiet c) (released_alone, k) (tt, k)
    acting Ar10 at told takes c k = (released_alone, k)
    acting Aa1 at told takes c k = leaving c.pending at.now (write (abort_pdu 0 0 ∷ []) ∷ []) (aborted c) (abort_alone 0 0) k
    acting Aa2 at told takes c k = leaving (noted told c).pending at.now (Close ∷ []) (noted told c) (closed, tt) (noted_of told c k)
    acting Aa3 at told takes c k = leaving c.pending at.now (Close ∷ []) (aborted c) (closed, tt) k
    acting Aa4 at told takes c k = leaving c.pending at.now [] c tt k
    acting Aa5 at told takes c k = leaving c.pending at.now [] c tt k
    acting Aa7 at told takes c k = (abort_alone 2 0, k)
    acting Aa8 at told takes c k = leaving c.pending at.now (write (abort_pdu 2 (reason_of told) ∷ []) ∷ []) (aborted c) (abort_alone 2 (reason_of told)) k
    acting Ae1 at told takes c k = (tt, k)
    acting Ae2 at told takes c k = (tt, k)
    acting Ae5 at told takes c k = (tt, k)
    acting Ae7 at told takes c k = (tt, k)
    acting Ae8 at told takes c k = (tt, k)
    acting Ar4 at told takes c k = (tt, k)
    acting Ar5 at told takes c k = (tt, k)
    acting Ar7 at told takes c k = (tt, k)
    acting Ar9 at told takes c k = (tt, k)
    acting Aa6 at told takes c k = (tt, k)

    moving : (r : Result (Action × Next) Next) (at : Moment) (told : Told) → Takes told → (c : Core) → Of c.site c.agreed → Spells Is Of (moves r at told c)
    moving (Ok x) at told takes c k = acting x.0 at told takes (record c { phase = x.1 }) k
    moving (Err same) at told takes c k = (tt, k)

    pub occurring : (e : Option Event) (at : Moment) (told : Told) → Takes told → (c : Core) → Of c.site c.agreed → Spells Is Of (occurs e at told c)
    occurring None at told takes c k = (tt, k)
    occurring (Some e) at told takes c k = moving (next_stepped e (is_taken told at c) c.phase at.now) at told takes c k
