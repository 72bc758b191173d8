-- Whatever happens at an end, it stays of its site.
use Rattle.std.proofs.Common.{◌≡◌, ℕ, Bool, true, false, List, [], ◌∷◌, Option, None, Some, Result, Ok, Err, refl, ap, subst, ◌∙◌}
use Rattle.std.specs.Prelude.{if◌then◌else◌}
use Rattle.std.specs.Str.{bytes_eq}
use Rattle.dr_base.specs.Texts.{Text}
use Rattle.dr_ulstate.specs.declared.table.Action.{Action}
use Rattle.dr_ulstate.specs.declared.table.Action.TheVariants.{Ae1, Ae2, Ae3, Ae4, Ae5, Ae6, Ae7, Ae8, Dt1, Dt2, Ar1, Ar2, Ar3, Ar4, Ar5, Ar6, Ar7, Ar8, Ar9, Ar10, Aa1, Aa2, Aa3, Aa4, Aa5, Aa6, Aa7, Aa8}
use Rattle.dr_ulstate.specs.declared.table.Event.{Event as UpperEvent}
use Rattle.dr_ulstate.specs.declared.table.Event.TheVariants.{AbortRequest as UpperAbort, ReleaseResponse as UpperReleased}
use Rattle.dr_ulstate.specs.declared.phase.Next.{Next}
use Rattle.dr_ulstate.specs.Phases.{next_stepped}
use Rattle.dr_pdu.specs.Feeding.{Feeding}
use Rattle.dr_dimse.specs.declared.command.Command.{Command}
use Rattle.dr_dimse.specs.declared.command.Command.TheVariants as command
use Rattle.dr_ledger.specs.declared.content.Job.{Job}
use Rattle.dr_ledger.specs.declared.content.NextRow.{NextRow}
use Rattle.dr_ledger.specs.declared.content.NextRow.TheVariants as nextrow
use Rattle.dr_ledger.specs.declared.fault.LedgerFault.{LedgerFault}
use Rattle.dr_ledger.specs.declared.fault.LedgerFault.TheVariants as fault
use Rattle.dr_ledger.specs.declared.item.Arrived.{Arrived}
use Rattle.dr_ledger.specs.Replies.{store_status}
use Rattle.dr_nego.specs.declared.agreed.Agreed.{Agreed}
use Rattle.dr_nego.specs.declared.answering.Answer.{Answer}
use Rattle.dr_nego.specs.declared.answering.Answer.TheVariants.{Accept, Reject, TooSmall}
use Rattle.dr_nego.specs.declared.fault.NegoFault.{NegoFault}
use Rattle.dr_nego.specs.declared.fault.NegoFault.TheVariants as negofault
use Rattle.dr_nego.specs.Agreeing.{AssociateRq, context_for}
use Rattle.dr_nego.specs.Answering.{answer}
use Rattle.dr_base.specs.Syntaxes.{syntax_uid}
use Rattle.dr_site.specs.Parts.{Part}
use Rattle.dr_session.specs.declared.ends.Core.{Core}
use Rattle.dr_session.specs.declared.ends.Effect.{Effect}
use Rattle.dr_session.specs.declared.ends.Found.{Found}
use Rattle.dr_session.specs.declared.ends.Found.TheVariants.{Read, Nameless, Unreadable, TooLarge}
use Rattle.dr_session.specs.declared.ends.Input.TheVariants as input
use Rattle.dr_session.specs.declared.ends.LinkAction.{LinkAction}
use Rattle.dr_session.specs.declared.ends.Moment.{Moment}
use Rattle.dr_session.specs.declared.ends.Pending.{Pending}
use Rattle.dr_session.specs.declared.ends.Told.{Told}
use Rattle.dr_session.specs.declared.ends.Told.TheVariants.{Plain, Quiet, Fault, Strange, Store, Whole, Agreement}
use Rattle.dr_session.specs.Desks.{DeskCall, DeskAnswer, Arrival, Upcoming, First, Settling}
use Rattle.dr_session.specs.Plays.{At, Reacts, Plays, PlaysBytes, with_stage}
use Rattle.dr_session.specs.Reactions as r
use Rattle.dr_session.specs.Reactions.{Reaction, left, rejected, noted, is_requestor, is_named}
use Rattle.dr_session.specs.Turns.{Turns, Ends, Asks, Fails}

-- however a turn ends, the end is of that site
abbrev KeepsSite : Option Part → Reaction → Type 0
KeepsSite site (Ends x) = x.core.site ≡ site
KeepsSite site (Asks call follow) = (a : DeskAnswer) → KeepsSite site (follow a)
KeepsSite site Fails = Unit {0}

kept : {S : Type 0} (step : S → DeskCall → DeskAnswer → S → Type 0) (site : Option Part) (turn : Reaction) (s t : S) (x : Effect) → Turns step turn s x t → KeepsSite site turn → x.core.site ≡ site
kept step site (Ends value) s t x h k = ap (λ (y : Effect). y.core.site) h.0 ∙ k
kept step site (Asks call follow) s t x h k = kept step site (follow h.0) h.1 t x h.3 (k h.0)
kept step site Fails s t x h k = absurd h

-- ---- parts

either : (site : Option Part) (b : Bool) (x y : Reaction) → KeepsSite site x → KeepsSite site y → KeepsSite site (if b then x else y)
either site true x y h k = h
either site false x y h k = k

settling_keeps : (site : Option Part) (done lost : Reaction) → KeepsSite site done → KeepsSite site lost → (a : DeskAnswer) → KeepsSite site (r.settling done lost a)
settling_keeps site done lost h k (Settling (Ok value)) = h
settling_keeps site done lost h k (Settling (Err fault.NoLine)) = k
settling_keeps site done lost h k (Settling (Err fault.Conflict)) = k
settling_keeps site done lost h k (Settling (Err fault.Store)) = k
settling_keeps site done lost h k (Settling (Err fault.NotWaiting)) = h
settling_keeps site done lost h k (Settling (Err fault.NotHeld)) = k
settling_keeps site done lost h k (Settling (Err fault.NotOver)) = k
settling_keeps site done lost h k (Settling (Err fault.Memory)) = tt
settling_keeps site done lost h k (Arrival reply) = tt
settling_keeps site done lost h k (Upcoming due) = tt
settling_keeps site done lost h k (First found) = tt

leaves_keep : (p : Option Pending) (now : ℕ) (acts : List LinkAction) (c : Core) → KeepsSite c.site (r.leaves_by p now acts c)
leaves_keep None now acts c = refl
leaves_keep (Some p) now acts c = settling_keeps c.site (Ends (r.effect acts (r.left c))) (Ends (r.effect acts (r.desk_failed (r.left c)))) refl refl

-- ---- services

decides_keep : (a : Answer) (at : Moment) (rq : AssociateRq) (c : Core) → KeepsSite c.site (r.decides a at rq c)
decides_keep (Accept ac agreed) at rq c = refl
decides_keep (Reject result source reason) at rq c = refl
decides_keep TooSmall at rq c = leaves_keep c.pending at.now _ (r.aborted (r.stepped_by UpperAbort at.now c))

decides_at_keep : (site : Option Part) (at : Moment) (rq : AssociateRq) (c : Core) → KeepsSite c.site (r.decides_at site at rq c)
decides_at_keep (Some site) at rq c = decides_keep (answer rq site at.others) at rq c
decides_at_keep None at rq c = refl

arrival_keeps : (site : Option Part) (follow : Result Arrived LedgerFault → Reaction) → ((reply : Result Arrived LedgerFault) → KeepsSite site (follow reply)) → (a : DeskAnswer) → KeepsSite site (r.arrival follow a)
arrival_keeps site follow h (Arrival reply) = h reply
arrival_keeps site follow h (Upcoming due) = tt
arrival_keeps site follow h (First found) = tt
arrival_keeps site follow h (Settling answer) = tt

job_keeps : (site : Option Part) (follow : Result (Option NextRow) LedgerFault → Reaction) → ((due : Result (Option NextRow) LedgerFault) → KeepsSite site (follow due)) → (a : DeskAnswer) → KeepsSite site (r.job follow a)
job_keeps site follow h (Upcoming due) = h due
job_keeps site follow h (Arrival reply) = tt
job_keeps site follow h (First found) = tt
job_keeps site follow h (Settling answer) = tt

row_keeps : (site : Option Part) (follow : Result (Option Text) LedgerFault → Reaction) → ((found : Result (Option Text) LedgerFault) → KeepsSite site (follow found)) → (a : DeskAnswer) → KeepsSite site (r.row follow a)
row_keeps site follow h (First found) = h found
row_keeps site follow h (Arrival reply) = tt
row_keeps site follow h (Upcoming due) = tt
row_keeps site follow h (Settling answer) = tt

arrives_keep : (c : Core) (context id : ℕ) (class instance : Text) (found : Found) → KeepsSite c.site (r.arrives c context id class instance found)
arrives_keep c context id class instance TooLarge = refl
arrives_keep c context id class instance Unreadable = refl
arrives_keep c context id class instance Nameless = refl
arrives_keep c context id class instance (Read item) = either c.site (is_named item class instance) _ _ (arrival_keeps c.site (λ reply. Ends (r.stored c context id class instance (store_status reply))) (λ reply. refl)) refl

requested_keep : (c : Core) (context : ℕ) (of : Text) (m : Command) → KeepsSite c.site (r.requested c context of m)
requested_keep c context of (command.EchoRq id class has_data) = refl
requested_keep c context of (command.Other field (Some id) None has_data) = refl
requested_keep c context of (command.Other field (Some id) (Some status) has_data) = refl
requested_keep c context of (command.Other field None status has_data) = refl
requested_keep c context of (command.StoreRq id class instance) = refl
requested_keep c context of (command.StoreRsp id status class instance has_data) = refl
requested_keep c context of (command.EchoRsp id status class has_data) = refl

aborts_keep : (at : Moment) (c : Core) → KeepsSite c.site (r.aborts at c)
aborts_keep at c = leaves_keep c.pending at.now _ (r.aborted (r.stepped_by UpperAbort at.now c))

settles_keep : (p : Pending) (status : Option ℕ) (at : Moment) (c : Core) →
    KeepsSite c.site (r.settles_by p status at c)
settles_keep p (Some status) at c =
    settling_keeps c.site (Ends (r.effect [] (r.settled_with c))) (r.aborts_desk at c) refl refl
settles_keep p None at c = aborts_keep at c

replied_keep : (p : Option Pending) (context : ℕ) (m : Command) (at : Moment) (c : Core) →
    KeepsSite c.site (r.replied p context m at c)
replied_keep (Some p) context m at c = settles_keep p (r.status_for p context m) at c
replied_keep None context m at c = aborts_keep at c

hears_keep : (told : Told) (at : Moment) (c : Core) → KeepsSite c.site (r.hears told at c)
hears_keep (Store context of id class instance found) at c = either c.site (bytes_eq class of) (r.arrives c context id class instance found) (Ends (r.stored c context id class instance 0x0122)) (arrives_keep c context id class instance found) refl
hears_keep (Whole context of m) at c = either c.site (is_requestor c) _ _ (replied_keep c.pending context m at c) (requested_keep c context of m)
hears_keep Fault at c = aborts_keep at c
hears_keep (Plain i) at c = refl
hears_keep Quiet at c = refl
hears_keep Strange at c = refl
hears_keep (Agreement reply) at c = refl

gives_in_keep : (o : Option ℕ) (agreed : Agreed) (at : Moment) (item : Job) (c : Core) → KeepsSite c.site (r.gives_in o agreed at item c)
gives_in_keep (Some context) agreed at item c = refl
gives_in_keep None agreed at item c = settling_keeps c.site (r.quiet c) (r.aborts_desk at c) refl refl

gives_keep : (o : Option Agreed) (at : Moment) (item : Job) (c : Core) → KeepsSite c.site (r.gives o at item c)
gives_keep (Some agreed) at item c = gives_in_keep (context_for agreed item.key.class (syntax_uid item.key.syntax)) agreed at item c
gives_keep None at item c = refl

due_keep : (at : Moment) (c : Core) (d : Result (Option NextRow) LedgerFault) → KeepsSite c.site (r.due at c d)
due_keep at c (Ok (Some (nextrow.Unreadable uid))) = settling_keeps c.site (r.aborts_idle at c) (r.aborts_desk at c) refl refl
due_keep at c (Ok (Some (nextrow.Whole item))) = either c.site (r.can_be_named item) _ _ (gives_keep c.agreed at item c) refl
due_keep at c (Ok None) = refl
due_keep at c (Err fault.Memory) = tt
due_keep at c (Err fault.NoLine) = refl
due_keep at c (Err fault.Conflict) = refl
due_keep at c (Err fault.Store) = refl
due_keep at c (Err fault.NotWaiting) = refl
due_keep at c (Err fault.NotHeld) = refl
due_keep at c (Err fault.NotOver) = refl

refused_keep : (at : Moment) (c : Core) (d : Result (Option Text) LedgerFault) → KeepsSite c.site (r.refused at c d)
refused_keep at c (Ok (Some item)) = settling_keeps c.site _ _ refl refl
refused_keep at c (Ok None) = refl
refused_keep at c (Err fault.Memory) = tt
refused_keep at c (Err fault.NoLine) = refl
refused_keep at c (Err fault.Conflict) = refl
refused_keep at c (Err fault.Store) = refl
refused_keep at c (Err fault.NotWaiting) = refl
refused_keep at c (Err fault.NotHeld) = refl
refused_keep at c (Err fault.NotOver) = refl

refuses_keep : (at : Moment) (c : Core) → KeepsSite c.site (r.refuses at c)
refuses_keep at c = row_keeps c.site (r.refused at c) (refused_keep at c)

agrees_keep : (a : Result Agreed NegoFault) (at : Moment) (c : Core) → KeepsSite c.site (r.agrees a at c)
agrees_keep (Ok agreed) at c = refl
agrees_keep (Err negofault.Memory) at c = tt
agrees_keep (Err negofault.StrangeId) at c = aborts_keep at c
agrees_keep (Err negofault.StrangeSyntax) at c = aborts_keep at c
agrees_keep (Err negofault.LimitTooSmall) at c = aborts_keep at c
agrees_keep (Err negofault.NoHop) at c = aborts_keep at c

noted_site : (told : Told) (c : Core) → (noted told c).site ≡ c.site
noted_site (Plain (input.Request rq)) c = refl
noted_site (Plain (input.Acceptance ac)) c = refl
noted_site (Plain (input.Rejection rj)) c = refl
noted_site (Plain (input.Value p)) c = refl
noted_site (Plain input.NoValue) c = refl
noted_site (Plain input.ReleaseRq) c = refl
noted_site (Plain input.ReleaseRp) c = refl
noted_site (Plain (input.Abort a)) c = refl
noted_site (Plain input.Unknown) c = refl
noted_site (Plain input.Invalid) c = refl
noted_site (Plain input.Ended) c = refl
noted_site (Plain input.Late) c = refl
noted_site (Plain input.AbortAsked) c = refl
noted_site (Plain input.ReleaseAsked) c = refl
noted_site (Plain input.PushAsked) c = refl
noted_site Quiet c = refl
noted_site Fault c = refl
noted_site Strange c = refl
noted_site (Store context of id class instance found) c = refl
noted_site (Whole context of command) c = refl
noted_site (Agreement answer) c = refl

-- ---- the table's actions

acts_keep : (a : Action) (at : Moment) (told : Told) (c : Core) → KeepsSite c.site (r.acts a at told c)
acts_keep Ae1 at told c = refl
acts_keep Ae2 at told c = refl
acts_keep Ae3 at (Plain (input.Request rq)) c = refl
acts_keep Ae3 at (Plain (input.Acceptance ac)) c = refl
acts_keep Ae3 at (Plain (input.Rejection rj)) c = refl
acts_keep Ae3 at (Plain (input.Value p)) c = refl
acts_keep Ae3 at (Plain input.NoValue) c = refl
acts_keep Ae3 at (Plain input.ReleaseRq) c = refl
acts_keep Ae3 at (Plain input.ReleaseRp) c = refl
acts_keep Ae3 at (Plain (input.Abort a)) c = refl
acts_keep Ae3 at (Plain input.Unknown) c = refl
acts_keep Ae3 at (Plain input.Invalid) c = refl
acts_keep Ae3 at (Plain input.Ended) c = refl
acts_keep Ae3 at (Plain input.Late) c = refl
acts_keep Ae3 at (Plain input.AbortAsked) c = refl
acts_keep Ae3 at (Plain input.ReleaseAsked) c = refl
acts_keep Ae3 at (Plain input.PushAsked) c = refl
acts_keep Ae3 at Quiet c = refl
acts_keep Ae3 at Fault c = refl
acts_keep Ae3 at Strange c = refl
acts_keep Ae3 at (Store context of id class instance found) c = refl
acts_keep Ae3 at (Whole context of command) c = refl
acts_keep Ae3 at (Agreement answer) c = agrees_keep answer at c
acts_keep Ae4 at (Plain (input.Request rq)) c = refl
acts_keep Ae4 at (Plain (input.Acceptance ac)) c = refl
acts_keep Ae4 at (Plain (input.Rejection rj)) c = refuses_keep at (rejected rj (left c))
acts_keep Ae4 at (Plain (input.Value p)) c = refl
acts_keep Ae4 at (Plain input.NoValue) c = refl
acts_keep Ae4 at (Plain input.ReleaseRq) c = refl
acts_keep Ae4 at (Plain input.ReleaseRp) c = refl
acts_keep Ae4 at (Plain (input.Abort a)) c = refl
acts_keep Ae4 at (Plain input.Unknown) c = refl
acts_keep Ae4 at (Plain input.Invalid) c = refl
acts_keep Ae4 at (Plain input.Ended) c = refl
acts_keep Ae4 at (Plain input.Late) c = refl
acts_keep Ae4 at (Plain input.AbortAsked) c = refl
acts_keep Ae4 at (Plain input.ReleaseAsked) c = refl
acts_keep Ae4 at (Plain input.PushAsked) c = refl
acts_keep Ae4 at Quiet c = refl
acts_keep Ae4 at Fault c = refl
acts_keep Ae4 at Strange c = refl
acts_keep Ae4 at (Store context of id class instance found) c = refl
acts_keep Ae4 at (Whole context of command) c = refl
acts_keep Ae4 at (Agreement answer) c = refl
acts_keep Ae5 at told c = refl
acts_keep Ae6 at (Plain (input.Request rq)) c = decides_at_keep c.site at rq c
acts_keep Ae6 at (Plain (input.Acceptance ac)) c = refl
acts_keep Ae6 at (Plain (input.Rejection rj)) c = refl
acts_keep Ae6 at (Plain (input.Value p)) c = refl
acts_keep Ae6 at (Plain input.NoValue) c = refl
acts_keep Ae6 at (Plain input.ReleaseRq) c = refl
acts_keep Ae6 at (Plain input.ReleaseRp) c = refl
acts_keep Ae6 at (Plain (input.Abort a)) c = refl
acts_keep Ae6 at (Plain input.Unknown) c = refl
acts_keep Ae6 at (Plain input.Invalid) c = refl
acts_keep Ae6 at (Plain input.Ended) c = refl
acts_keep Ae6 at (Plain input.Late) c = refl
acts_keep Ae6 at (Plain input.AbortAsked) c = refl
acts_keep Ae6 at (Plain input.ReleaseAsked) c = refl
acts_keep Ae6 at (Plain input.PushAsked) c = refl
acts_keep Ae6 at Quiet c = refl
acts_keep Ae6 at Fault c = refl
acts_keep Ae6 at Strange c = refl
acts_keep Ae6 at (Store context of id class instance found) c = refl
acts_keep Ae6 at (Whole context of command) c = refl
acts_keep Ae6 at (Agreement answer) c = refl
acts_keep Ae7 at told c = refl
acts_keep Ae8 at told c = refl
acts_keep Dt1 at told c = job_keeps c.site (r.due at c) (due_keep at c)
acts_keep Dt2 at told c = hears_keep told at c
acts_keep Ar1 at told c = refl
acts_keep Ar2 at told c = leaves_keep _ at.now _ (r.released (r.stepped_by UpperReleased at.now c))
acts_keep Ar3 at told c = refl
acts_keep Ar4 at told c = refl
acts_keep Ar5 at told c = refl
acts_keep Ar6 at told c = hears_keep told at c
acts_keep Ar7 at told c = refl
acts_keep Ar8 at told c = either c.site (is_requestor c) _ _ refl refl
acts_keep Ar9 at told c = refl
acts_keep Ar10 at told c = refl
acts_keep Aa1 at told c = leaves_keep _ at.now _ (r.aborted c)
acts_keep Aa2 at told c = let P : Option Part → Type 0 = λ s. KeepsSite s (r.acts Aa2 at told c) in subst P (noted_site told c) (leaves_keep (noted told c).pending at.now _ (noted told c))
acts_keep Aa3 at told c = leaves_keep _ at.now _ (r.aborted c)
acts_keep Aa4 at told c = leaves_keep c.pending at.now [] c
acts_keep Aa5 at told c = leaves_keep c.pending at.now [] c
acts_keep Aa6 at told c = refl
acts_keep Aa7 at told c = refl
acts_keep Aa8 at told c = leaves_keep _ at.now _ (r.aborted c)

moves_keep : (m : Result (Action × Next) Next) (at : Moment) (told : Told) (c : Core) → KeepsSite c.site (r.moves m at told c)
moves_keep (Ok x) at told c = acts_keep x.0 at told (let d : Core = record c { phase = x.1 } in d)
moves_keep (Err same) at told c = refl

occurs_keep : (e : Option UpperEvent) (at : Moment) (told : Told) (c : Core) → KeepsSite c.site (r.occurs e at told c)
occurs_keep None at told c = refl
occurs_keep (Some e) at told c = moves_keep (next_stepped e (r.is_taken told at c) c.phase at.now) at told c

-- ---- whatever happens

module _ {S : Type 0} (step : S → DeskCall → DeskAnswer → S → Type 0) where
  pub reacts_keep : (c : Core) (i : At) (s : S) (x : Effect) (t : S) → Reacts step c i s x t → x.core.site ≡ c.site
  reacts_keep c i s x t h = kept step c.site _ s t x h.turns (occurs_keep (r.event_of h.told i.moment (with_stage h.stage c)) i.moment h.told (with_stage h.stage c))

  plays_keep : (c : Core) (is : List At) (s : S) (acts : List LinkAction) (d : Core) (t : S) → Plays step c is s acts d t → d.site ≡ c.site
  plays_keep c [] s acts d t h = ap (λ (e : Core). e.site) h.1
  plays_keep c (i ∷ is) s acts d t h = plays_keep h.0.core is h.1 h.2 d t h.4 ∙ reacts_keep c i s h.0 h.1 h.3

  pub bytes_keep : (at : Moment) (ear : Feeding) (c : Core) (piece : List ℕ) (s : S) (new : Feeding) (x : Effect) (t : S) → PlaysBytes step at ear c piece s new x t → x.core.site ≡ c.site
  bytes_keep at ear c piece s new x t h = plays_keep c _ s x.acts x.core t h.2
