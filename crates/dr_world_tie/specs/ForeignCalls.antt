-- A requestor of ours that called another maker's product: whatever bytes that writes, what the
-- requestor does with them is what happens in the message world among other makers' products.
use Rattle.std.specs.Prelude.{◌≡◌, ◌≢◌, ◌++◌, ◌+◌, ℕ, Bool, true, false, List, [], ◌∷◌, Option}
use Rattle.std.specs.Prelude.{None, Some, Ok}
use Rattle.dr_base.specs.Texts.{Text}
use Rattle.dr_plan_model.specs.Networks.{Network}
use Rattle.dr_plan_sound.specs.declared.certificate.Certificate.{Certificate}
use Rattle.dr_plan_sound.specs.Soundness.{IsSound}
use Rattle.dr_site.specs.Parts.{Part, IsPartOf}
use Rattle.dr_site.specs.Sites.{IsCertified}
use Rattle.dr_ulstate.specs.Phases.{may_send}
use Rattle.dr_pdu.specs.declared.pdu.Pdv.{Pdv}
use Rattle.dr_pdu.specs.Feeding.{Feeding, fresh}
use Rattle.dr_dimse.specs.declared.command.Command.TheVariants.{StoreRsp}
use Rattle.dr_dimse.specs.declared.message.Awaited.{Awaited}
use Rattle.dr_dimse.specs.declared.message.Awaited.TheVariants.{Nothing as NothingAwaited}
use Rattle.dr_dimse.specs.declared.message.Body.{Body}
use Rattle.dr_dimse.specs.Taking.{MessageStage as Taken, Idle, InCommand, InData, IsAwaited}
use Rattle.dr_dimse.specs.Taking.{TakesValue}
use Rattle.dr_ledger.specs.declared.content.Job.{Job}
use Rattle.dr_ledger.specs.declared.item.Instance.{Instance}
use Rattle.dr_ledger.specs.Items.{instance_of}
use Rattle.dr_nego.specs.declared.agreed.Agreed.{Agreed}
use Rattle.dr_nego.specs.declared.agreed.Pair.{Pair}
use Rattle.dr_nego.specs.Agreeing.{AssociateRq, pair_at}
use Rattle.dr_nego.specs.Proposing.{IsProposal}
use Rattle.dr_session.specs.declared.ends.Core.{Core}
use Rattle.dr_session.specs.declared.ends.Effect.{Effect}
use Rattle.dr_session.specs.declared.ends.Input.{Input}
use Rattle.dr_session.specs.declared.ends.Input.TheVariants.{PushAsked, Value}
use Rattle.dr_session.specs.declared.ends.LinkAction.{LinkAction}
use Rattle.dr_session.specs.declared.ends.Moment.{Moment}
use Rattle.dr_session.specs.Ends.{requesting}
use Rattle.dr_session.specs.Plays.{Reacts, PlaysBytes, at_moment, without_data}
use Rattle.dr_session.specs.Reactions.{storing, store_pdus, write}
use Rattle.dr_world_model.specs.Worlds.{World, Link, Contexts, Stage, Asking, Answering, Rejecting}
use Rattle.dr_world_model.specs.Worlds.{Open, Storing, Replying, Gone, start}
use Rattle.dr_world_model.specs.Calls.{Answer}
use Rattle.dr_world_model.specs.Steps.{IsHop, IsLink, asked}
use Rattle.dr_world_model.specs.Events.{AgreeCaller, Answered, Ask, BreakCaller, Give, PassOver}
use Rattle.dr_world_model.specs.Among.{Ours, Act, Own, Other, Agrees, Replies, RunsAmong}
use Rattle.dr_world_model.specs.Among.{HeadlineAmong}
use Rattle.dr_world_tie.specs.Desks.{Desk, LedgerStep}
use Rattle.dr_world_tie.specs.Channels.{LiveTerminal, IsOff, IsAsking, IsEstablished, HasPending}
use Rattle.dr_world_tie.specs.Channels.{IsSideOf, message}
use Rattle.dr_world_tie.specs.Ties.{IsDeskOf}
use Rattle.dr_world_tie.specs.Foreign.{OnlyOf, ShowsForeign, WritesControls}

-- ---- which link a requestor of ours is

-- the data set that is under way, if any, is one of a message that is awaited
abbrev pub GoesOnAwaited : Awaited → Taken → Type 0
GoesOnAwaited awaited Idle = Unit {0}
GoesOnAwaited awaited (InCommand id text) = Unit {0}
GoesOnAwaited awaited (InData id command body) = IsAwaited awaited command

-- By whether the end is on, and the stage of its link: what it asked last may be under way; an
-- answer that it hasn't heard is under way nowhere. Pieces of one may have come.
abbrev pub CallsAt : Bool → Stage → Text → Core → Type 0
CallsAt false stage receiver c = IsOff c true
CallsAt true Asking receiver c = IsAsking c receiver
CallsAt true (Open accepted) receiver c =
    IsEstablished c true accepted
    × (c.pending ≡ None)
    × (c.assembly.awaited ≡ NothingAwaited)
    × GoesOnAwaited c.assembly.awaited c.assembly.stage
    × (may_send c.phase ≡ true)
CallsAt true (Storing accepted item) receiver c =
    IsEstablished c true accepted × HasPending c item
    × GoesOnAwaited c.assembly.awaited c.assembly.stage
    × (may_send c.phase ≡ true)
CallsAt true (Answering accepted) receiver c = ⊥
CallsAt true Rejecting receiver c = ⊥
CallsAt true (Replying accepted item status) receiver c = ⊥
CallsAt true Gone receiver c = ⊥

-- the end is the caller of this link, which another product receives
pub record IsCallOf (ours : Ours) (name : Text) (link : Link) (c : Core) : Type 0 where
  pub receiver : ours link.receiver ≡ false
  pub caller : link.caller ≡ name
  pub peer : c.peer ≡ link.receiver
  pub on : link.caller_connected ≡ true → link.receiver_connected ≡ true
  pub stands : CallsAt link.caller_connected link.stage link.receiver c

-- an end of the node of that name, and its link in the message world
abbrev pub ShowsCall : Ours → Network → Certificate → Text → World → ℕ → LiveTerminal → Type 0
ShowsCall ours plan certificate name w number t =
    IsSideOf plan certificate name t.core t.ear
    × ((link : Link) × IsLink w number link × IsCallOf ours name link t.core)

-- ---- what an input comes to

-- what the requestor did, as the message world sees it
pub data Heard : Type 0 where
  Nothing : Heard  -- no answer was heard to its end, and the end stays as it was
  -- the other accepted these pairs, or rejected, and then perhaps a row was settled
  Answers : (answer : Option Contexts) → (reply : Option Answer) → Heard
  Replied : (status : ℕ) → (answer : Answer) → Heard  -- it answered the store, which was settled
  Left : (reply : Option Answer) → Heard  -- the end left, and settled what it had pending

-- the acts of the message world that it is
abbrev pub acts_of : ℕ → Heard → List Act
acts_of number Nothing = []
acts_of number (Answers answer reply) =
    Other (Agrees number answer) ∷ Own (AgreeCaller number reply) ∷ []
acts_of number (Replied status answer) =
    Other (Replies number status) ∷ Own (Answered number answer) ∷ []
acts_of number (Left reply) = Own (BreakCaller number reply) ∷ []

-- the acts of several, one after the other
abbrev pub acts_of_all : ℕ → List Heard → List Act
acts_of_all number [] = []
acts_of_all number (heard ∷ more) = acts_of number heard ++ acts_of_all number more

-- ---- what is claimed

-- an end of ours with its desk, shown by a world
pub record CallsIn (ours : Ours) (plan : Network) (certificate : Certificate) (name : Text)
    (w : World) (number : ℕ) (t : LiveTerminal) (s : Desk) : Type 0 where
  pub own : ours name ≡ true
  pub desk : IsDeskOf w name s
  pub shows : ShowsCall ours plan certificate name w number t

-- the acts lead to this world, in which all but that node's book and the link is as it was
pub record LeadsTo (ours : Ours) (plan : Network) (name : Text) (w : World) (number : ℕ)
    (acts : List Act) (v : World) : Type 0 where
  pub runs : RunsAmong ours plan w acts plan v
  pub only : OnlyOf w v (Some number) name

-- Whatever one input is, but that it is asked to send: what the end does is one of these four
-- things, it stands in the world that this leads to, and it writes at most what one writes that
-- leaves.
abbrev pub OneAnswerComes : Type 0
OneAnswerComes =
    (ours : Ours) (plan : Network) (certificate : Certificate)
    → IsCertified plan certificate
    → (name : Text) (w : World) (number : ℕ) (k : LiveTerminal) (s : Desk)
    → CallsIn ours plan certificate name w number k s
    → (moment : Moment) → moment.now ≡ w.time → (i : Input) → i ≢ PushAsked
    → (x : Effect) (t : Desk)
    → Reacts (LedgerStep plan name) k.core (at_moment moment i) s x t
    → (heard : Heard) × (v : World)
    × LeadsTo ours plan name w number (acts_of number heard) v
    × WritesControls x.acts
    × CallsIn ours plan certificate name v number (record { core = x.core; ear = k.ear }) t

-- Whatever bytes, in whatever pieces: what the end does is such things, one after the other.
abbrev pub AnyAnswersCome : Type 0
AnyAnswersCome =
    (ours : Ours) (plan : Network) (certificate : Certificate)
    → IsCertified plan certificate
    → (name : Text) (w : World) (number : ℕ) (k : LiveTerminal) (s : Desk)
    → CallsIn ours plan certificate name w number k s
    → (moment : Moment) → moment.now ≡ w.time
    → (piece : List ℕ) (new : Feeding) (x : Effect) (t : Desk)
    → PlaysBytes (LedgerStep plan name) moment k.ear k.core piece s new x t
    → (heard : List Heard) × (v : World)
    × LeadsTo ours plan name w number (acts_of_all number heard) v
    × WritesControls x.acts
    × CallsIn ours plan certificate name v number (record { core = x.core; ear = new }) t

-- So the four claims hold of our nodes after whatever bytes, in a world that acts lead to.
abbrev pub ClaimsHoldAfterAnswers : Type 0
ClaimsHoldAfterAnswers =
    (ours : Ours) (first plan : Network) (certificate : Certificate)
    → IsSound first
    → IsCertified plan certificate
    → (before : List Act) (w : World)
    → RunsAmong ours first start before plan w
    → (name : Text) (number : ℕ) (k : LiveTerminal) (s : Desk)
    → CallsIn ours plan certificate name w number k s
    → (moment : Moment) → moment.now ≡ w.time
    → (piece : List ℕ) (new : Feeding) (x : Effect) (t : Desk)
    → PlaysBytes (LedgerStep plan name) moment k.ear k.core piece s new x t
    → (acts : List Act) × (v : World)
    × RunsAmong ours first start (before ++ acts) plan v
    × HeadlineAmong ours plan v
    × CallsIn ours plan certificate name v number (record { core = x.core; ear = new }) t

-- ---- sending

-- what the requestor did that was asked to send a row
pub data Pushed : Type 0 where
  Kept : Pushed  -- none was due, or it may not send
  -- the first that was due is under way, or was settled as one that no context was accepted for
  Gave : (answer : Option Answer) → Pushed
  -- the first that was due can't be read: it was settled so, and the end left
  Passed : (answer : Answer) → Pushed
  Broke : Pushed  -- its store failed, and the end left

abbrev pub acts_of_push : ℕ → Pushed → List Act
acts_of_push number Kept = []
acts_of_push number (Gave answer) = Own (Give number answer) ∷ []
acts_of_push number (Passed answer) = Own (PassOver number answer) ∷ []
acts_of_push number Broke = Own (BreakCaller number None) ∷ []

-- what is written: the store that is under way in the message world, or what one writes that leaves
abbrev pub Sends : World → ℕ → Pushed → List LinkAction → Type 0
Sends v number Kept acts = WritesControls acts
Sends v number (Gave None) acts =
    (item : Job) × (link : Link) × (accepted : Contexts) × (agreed : Agreed) × (context id : ℕ)
    × IsLink v number link
    × (link.stage ≡ Storing accepted (instance_of item))
    × (acts ≡ write (store_pdus agreed context id item) ∷ [])
Sends v number (Gave (Some answer)) acts = WritesControls acts
Sends v number (Passed answer) acts = WritesControls acts
Sends v number Broke acts = WritesControls acts

-- A push is one of these four things, and the end stands in the world that it leads to.
abbrev pub OnePushComes : Type 0
OnePushComes =
    (ours : Ours) (plan : Network) (certificate : Certificate) (name : Text) (w : World)
    (number : ℕ) (k : LiveTerminal) (s : Desk)
    → CallsIn ours plan certificate name w number k s
    → (moment : Moment) → moment.now ≡ w.time → (x : Effect) (t : Desk)
    → Reacts (LedgerStep plan name) k.core (at_moment moment PushAsked) s x t
    → (pushed : Pushed) × (v : World)
    × LeadsTo ours plan name w number (acts_of_push number pushed) v
    × Sends v number pushed x.acts
    × CallsIn ours plan certificate name v number (record { core = x.core; ear = k.ear }) t

-- ---- laws

-- A fresh requestor, whose request has gone out to another product, is the link that its node asked
-- for.
abbrev pub RequestorsBegin : Type 0
RequestorsBegin =
    (ours : Ours) (plan : Network) (certificate : Certificate) (site : Part) (dest : Text)
    (rq : AssociateRq) (now : ℕ) (w : World) (s : Desk)
    → IsPartOf plan certificate site
    → ours site.name ≡ true → ours dest ≡ false → IsHop plan site.name dest
    → IsProposal site dest rq
    → IsDeskOf w site.name s
    → RunsAmong ours plan w (Own (Ask site.name dest) ∷ []) plan (asked w site.name dest)
    × CallsIn ours plan certificate site.name (asked w site.name dest) (w.opened + 1)
    (record { core = requesting (Some site) dest rq now; ear = fresh site.max_pdu }) s

-- An end whose data set under way is let go, for want of room, is the same link.
abbrev pub LettingGoIsNothing : Type 0
LettingGoIsNothing =
    (ours : Ours) (plan : Network) (certificate : Certificate) (name : Text) (w : World)
    (number : ℕ) (opened : Option ℕ) (c : Core) (ear : Feeding)
    → (ShowsForeign ours plan certificate name w opened (record { core = c; ear = ear })
    → ShowsForeign ours plan certificate name w opened
    (record { core = without_data c; ear = ear }))
    × (ShowsCall ours plan certificate name w number (record { core = c; ear = ear })
    → ShowsCall ours plan certificate name w number
    (record { core = without_data c; ear = ear }))

-- The last value of the response that the end awaits, in the context of its request, is that the
-- other replies with this status, and the end settles its row by it.
abbrev pub ResponsesAreReplies : Type 0
ResponsesAreReplies =
    (ours : Ours) (plan : Network) (certificate : Certificate)
    → IsCertified plan certificate
    → (name : Text) (w : World) (number : ℕ) (k : LiveTerminal) (s : Desk)
    → CallsIn ours plan certificate name w number k s
    → (link : Link)
    → IsLink w number link
    → link.caller_connected ≡ true
    → (accepted : Contexts) (item : Instance)
    → link.stage ≡ Storing accepted item
    → (agreed : Agreed)
    → k.core.agreed ≡ Some agreed
    → (id context : ℕ)
    → k.core.pending ≡ Some (storing id context item.uid)
    → (moment : Moment) → moment.now ≡ w.time
    → (value : Pdv) (pair : Pair)
    → pair_at agreed value.id ≡ Some pair
    → (status : ℕ) (class instance : Text) (has_data : Bool) (body : Option Body) (stage : Taken)
    → TakesValue k.core.assembly.awaited k.core.assembly.stage value
    (Ok (Some (message context (StoreRsp id status class instance has_data) body)))
    stage
    → (x : Effect) (t : Desk)
    → Reacts (LedgerStep plan name) k.core (at_moment moment (Value value)) s x t
    → (answer : Answer) × (v : World)
    × LeadsTo ours plan name w number (acts_of number (Replied status answer)) v
    × CallsIn ours plan certificate name v number (record { core = x.core; ear = k.ear }) t

-- an answer that our end hasn't heard is under way on no link that it shows
abbrev pub NothingUnheardIsAnswered : Type 0
NothingUnheardIsAnswered =
    (ours : Ours) (plan : Network) (certificate : Certificate) (name : Text) (w : World)
    (number : ℕ) (k : LiveTerminal) (link : Link) (accepted : Contexts) (item : Instance)
    (status : ℕ)
    → IsLink w number link
    → link.caller_connected ≡ true
    → link.stage ≡ Replying accepted item status
    → ShowsCall ours plan certificate name w number k
    → ⊥

-- nor does it show a link to one of ours
abbrev pub CallsToOursAreNotForeign : Type 0
CallsToOursAreNotForeign =
    (ours : Ours) (plan : Network) (certificate : Certificate) (name : Text) (w : World)
    (number : ℕ) (k : LiveTerminal) (link : Link)
    → IsLink w number link
    → ours link.receiver ≡ true
    → ShowsCall ours plan certificate name w number k
    → ⊥
