-- An acceptor of ours whose peer is another maker's product: whatever bytes that writes, what the
-- acceptor does with them is what happens in the message world among other makers' products.
use Rattle.std.specs.Prelude.{◌≡◌, ◌≢◌, ◌↔◌, ◌⊎◌, ◌+◌, ℕ, Bool, true, false, List, [], ◌∷◌, ◌++◌}
use Rattle.std.specs.Prelude.{◌<◌, ◌≤◌, Option, None, Some, Ok, Err}
use Rattle.std.specs.List.{AllByRecursion}
use Rattle.std.specs.FinMap as map
use Rattle.std.specs.FinSet as set
use Rattle.dr_base.specs.Texts.{Text}
use Rattle.dr_base.specs.Syntaxes.{syntax_uid}
use Rattle.dr_base.specs.declared.syntax.Syntax.{Syntax}
use Rattle.dr_route.specs.Routes.{local}
use Rattle.dr_plan_model.specs.Networks.{Network}
use Rattle.dr_plan_model.specs.Walks.{Accepts}
use Rattle.dr_plan_sound.specs.declared.certificate.Certificate.{Certificate}
use Rattle.dr_plan_sound.specs.Soundness.{IsSound}
use Rattle.dr_site.specs.Parts.{Part, IsPartOf}
use Rattle.dr_site.specs.Sites.{IsCertified}
use Rattle.dr_pdu.specs.declared.pdu.AssociateRj.{AssociateRj}
use Rattle.dr_pdu.specs.declared.pdu.Pdu.{Pdu}
use Rattle.dr_pdu.specs.declared.pdu.Pdu.TheVariants as pdu
use Rattle.dr_pdu.specs.declared.pdu.Pdv.{Pdv}
use Rattle.dr_pdu.specs.Feeding.{Feeding, fresh}
use Rattle.dr_dimse.specs.declared.command.Command.{Command}
use Rattle.dr_dimse.specs.declared.command.Command.TheVariants.{StoreRq, StoreRsp, EchoRq, EchoRsp}
use Rattle.dr_dimse.specs.declared.command.Command.TheVariants.{Other as OtherCommand}
use Rattle.dr_dimse.specs.declared.message.Body.TheVariants.{Whole}
use Rattle.dr_dimse.specs.Taking.{MessageStage as Taken, TakesValue}
use Rattle.dr_ledger.specs.declared.content.Job.{Job}
use Rattle.dr_ledger.specs.declared.fault.LedgerFault.TheVariants.{NotWaiting}
use Rattle.dr_ledger.specs.declared.item.Instance.{Instance}
use Rattle.dr_ledger.specs.Books.{empty_book}
use Rattle.dr_ledger.specs.Items.{IsItem, instance_of}
use Rattle.dr_nego.specs.declared.agreed.Agreed.{Agreed}
use Rattle.dr_nego.specs.declared.agreed.Pair.{Pair}
use Rattle.dr_nego.specs.declared.answering.Answer.TheVariants.{Accept}
use Rattle.dr_nego.specs.Agreeing.{AssociateRq, AssociateAc, pair_at}
use Rattle.dr_nego.specs.Answering.{answer, acceptance_of, agreed_by}
use Rattle.dr_nego.specs.Fragments.{spellings}
use Rattle.dr_session.specs.declared.ends.Core.{Core}
use Rattle.dr_session.specs.declared.ends.Effect.{Effect}
use Rattle.dr_session.specs.declared.ends.Input.{Input}
use Rattle.dr_session.specs.declared.ends.Input.TheVariants.{Request, Value}
use Rattle.dr_session.specs.declared.ends.LinkAction.{LinkAction}
use Rattle.dr_session.specs.declared.ends.Moment.{Moment}
use Rattle.dr_session.specs.Ends.{accepting}
use Rattle.dr_session.specs.Messages.{command_pdus}
use Rattle.dr_session.specs.Plays.{Reacts, Hears, PlaysBytes, at_moment}
use Rattle.dr_session.specs.Reactions.{write}
use Rattle.dr_world_model.specs.Worlds.{World, Link, Contexts, Stage, Asking, Answering, Rejecting}
use Rattle.dr_world_model.specs.Worlds.{Open, Storing, Replying, Gone, same_text, start}
use Rattle.dr_ledger.specs.Replies.{store_status, Reply}
use Rattle.dr_world_model.specs.Steps.{IsLink}
use Rattle.dr_world_model.specs.Events.{AgreeCaller, Receive, Answered, BreakReceiver}
use Rattle.dr_world_model.specs.Among.{Ours, Act, Own, Other, Calls, Takes, Stores, RunsAmong}
use Rattle.dr_world_model.specs.Among.{HeadlineAmong}
use Rattle.dr_world_tie.specs.Desks.{Desk, LedgerStep}
use Rattle.dr_world_tie.specs.Channels.{LiveTerminal, IsOff, IsListening, IsReceiver, IsSideOf}
use Rattle.dr_world_tie.specs.Channels.{IsControl, bytes_of, contexts_of, message, site_of}
use Rattle.dr_world_tie.specs.Ties.{IsDeskOf}

-- ---- which link an acceptor of ours is

-- of the pairs that were agreed on those that accept rows take: Verification alone is agreed on
-- without a row, and nothing of it is stored
abbrev pub AreTaken : Network → Text → Text → Contexts → Contexts → Type 0
AreTaken plan name caller agreed accepted =
    (pair : Text × Syntax)
    → (set.contains accepted pair ≡ true)
    ↔ ((set.contains agreed pair ≡ true) × Accepts plan name caller pair.0 pair.1)

-- the end awaits requests of that caller, over these pairs
abbrev pub Serves : Network → Text → Text → Contexts → Core → Type 0
Serves plan name caller accepted c =
    (agreed : Contexts)
    × IsListening c caller agreed
    × AreTaken plan name caller agreed accepted
    × (caller ≢ local)

-- By whether the end is on, and the stage of its link: what it answered last may still be under
-- way; what it hasn't heard is under way nowhere.
abbrev pub StandsAt : Network → Text → Bool → Stage → Text → Core → Type 0
StandsAt plan name false stage caller c = IsOff c false
StandsAt plan name true (Answering accepted) caller c = Serves plan name caller accepted c
StandsAt plan name true (Open accepted) caller c = Serves plan name caller accepted c
StandsAt plan name true (Replying accepted item status) caller c =
    Serves plan name caller accepted c
StandsAt plan name true Asking caller c = ⊥
StandsAt plan name true (Storing accepted item) caller c = ⊥
StandsAt plan name true Rejecting caller c = ⊥
StandsAt plan name true Gone caller c = ⊥

-- the end is the receiver of this link, which another product called
pub record IsCalledBy (ours : Ours) (plan : Network) (name : Text) (link : Link)
    (c : Core) : Type 0 where
  pub caller : ours link.caller ≡ false
  pub receiver : link.receiver ≡ name
  pub on : link.caller_connected ≡ true
  pub stands : StandsAt plan name link.receiver_connected link.stage link.caller c

-- An end of the node of that name, and the number of its link in the message world. It has none
-- before it has answered a request: then nobody has called by name.
abbrev pub ShowsForeign : Ours → Network → Certificate → Text → World → Option ℕ → LiveTerminal
    → Type 0
ShowsForeign ours plan certificate name w None t =
    IsSideOf plan certificate name t.core t.ear
    × (IsReceiver true Asking name t.core ⊎ IsOff t.core false)
ShowsForeign ours plan certificate name w (Some number) t =
    IsSideOf plan certificate name t.core t.ear
    × ((link : Link) × IsLink w number link × IsCalledBy ours plan name link t.core)

-- ---- what an input comes to

-- what the acceptor did, as the message world sees it
pub data Came : Type 0 where
  -- nothing for that world: a part of a message, a request that is refused before the ledger is
  -- asked or that has no line there, or what an end hears that is off
  Nothing : Came
  Asked : (caller : Text) → (answer : Option Contexts) → Came  -- a request was answered
  Brought : (item : Instance) → (reply : Reply) → Came  -- an instance was stored, and answered
  Left : Came  -- the end left

-- the other read what it was answered last
abbrev pub reading : ℕ → Stage → List Act
reading number (Answering accepted) = Own (AgreeCaller number None) ∷ []
reading number (Replying accepted item status) = Own (Answered number (Err NotWaiting)) ∷ []
reading number stage = []

-- of a link that is there
abbrev pub reading_at : ℕ → Option Link → List Act
reading_at number None = []
reading_at number (Some link) = reading number link.stage

-- The acts of the message world that it is, and the number of the link then. Who stores has read
-- what it was answered before.
abbrev pub AreActs : World → Text → Option ℕ → Came → List Act → Option ℕ → Type 0
AreActs w name number Nothing acts next = (acts ≡ []) × (next ≡ number)
AreActs w name None (Asked caller answer) acts next =
    (acts ≡ Other (Calls caller name) ∷ Other (Takes (w.opened + 1) answer) ∷ [])
    × (next ≡ Some (w.opened + 1))
AreActs w name (Some number) (Brought item reply) acts next =
    (acts
    ≡ reading_at number (map.get w.links number)
    ++ (Other (Stores number item) ∷ Own (Receive number reply) ∷ []))
    × (next ≡ Some number)
AreActs w name (Some number) Left acts next =
    (acts ≡ Own (BreakReceiver number) ∷ []) × (next ≡ Some number)
AreActs w name None (Brought item reply) acts next = ⊥
AreActs w name None Left acts next = ⊥
AreActs w name (Some number) (Asked caller answer) acts next = ⊥

-- a response, and none that says that a store succeeded (PS3.7 9.1.1)
abbrev pub IsNoSuccess : Command → Type 0
IsNoSuccess (StoreRsp id status class instance has_data) = status ≢ 0
IsNoSuccess (EchoRsp id status class has_data) = Unit {0}
IsNoSuccess (OtherCommand field id status has_data) = Unit {0}
IsNoSuccess (StoreRq id class instance) = ⊥
IsNoSuccess (EchoRq id class has_data) = ⊥

-- what one writes that leaves, if anything
abbrev pub WritesControls : List LinkAction → Type 0
WritesControls acts =
    (pdus : List Pdu) × (bytes_of acts ≡ spellings pdus) × AllByRecursion IsControl pdus

-- what is written: an acceptance or a rejection, the response with the status of what the ledger
-- answered, or nothing that says that a store succeeded
abbrev pub Writes : Came → List LinkAction → Type 0
Writes Nothing acts =
    WritesControls acts
    ⊎ ((limit context : ℕ) × (command : Command) × IsNoSuccess command
    × (acts ≡ write (command_pdus limit context command) ∷ []))
Writes (Asked caller None) acts =
    (rj : AssociateRj) × (acts ≡ write (pdu.AssociateRj rj ∷ []) ∷ [])
Writes (Asked caller (Some accepted)) acts =
    (ac : AssociateAc) × (acts ≡ write (pdu.AssociateAc ac ∷ []) ∷ [])
Writes (Brought item reply) acts =
    (limit context id : ℕ)
    × (acts
    ≡ write
    (command_pdus limit context (StoreRsp id (store_status reply) item.key.class item.uid false))
    ∷ [])
Writes Left acts = WritesControls acts

-- all but the book of that node and this link is as it was
pub record OnlyOf (w v : World) (number : Option ℕ) (name : Text) : Type 0 where
  pub books : (other : Text) → same_text other name ≡ false → v.books other ≡ w.books other
  pub links : (other : ℕ) → number ≢ Some other → map.get v.links other ≡ map.get w.links other
  pub armed : (other : Text)
      → same_text other name ≡ false
      → set.contains v.armed other ≡ set.contains w.armed other
  pub rest : (v.time ≡ w.time) × (v.stood ≡ w.stood)
  pub opened : w.opened ≤ v.opened

-- this came at the end, and it is these acts; a number that the end didn't have before is a new one
pub record Comes (ours : Ours) (plan : Network) (name : Text) (w : World) (number : Option ℕ)
    (came : Came) (acts : List Act) (v : World) (next : Option ℕ) : Type 0 where
  pub are : AreActs w name number came acts next
  pub runs : RunsAmong ours plan w acts plan v
  pub only : OnlyOf w v next name
  pub counted : (n : ℕ) → next ≡ Some n → (number ≡ Some n) ⊎ ((w.opened < n) × (n ≤ v.opened))

-- one after the other, and all that is written
abbrev pub ComeAll : Ours → Network → Text → World → Option ℕ → List Came → List Act
    → List LinkAction
    → World → Option ℕ → Type 0
ComeAll ours plan name w number [] acts written v next =
    (acts ≡ []) × (written ≡ []) × (v ≡ w) × (next ≡ number)
ComeAll ours plan name w number (came ∷ cames) acts written v next =
    (first later : List Act) × (begun more : List LinkAction) × (mid : World) × (m : Option ℕ)
    × Comes ours plan name w number came first mid m
    × Writes came begun
    × ComeAll ours plan name mid m cames later more v next
    × (acts ≡ first ++ later)
    × (written ≡ begun ++ more)

-- ---- what is claimed

-- what isn't ours has an empty book (`HeadlineAmong`)
abbrev pub OthersHaveNone : Ours → World → Type 0
OthersHaveNone ours w = (name : Text) → ours name ≡ false → w.books name ≡ empty_book

-- no request names one of ours as its caller
abbrev pub CallsAsNoneOfOurs : Ours → Input → Type 0
CallsAsNoneOfOurs ours (Request rq) = ours rq.front.calling ≡ false
CallsAsNoneOfOurs ours i = Unit {0}

-- none among these bytes does
abbrev pub NoneCallsAsOurs : Ours → Feeding → List ℕ → Feeding → Type 0
NoneCallsAsOurs ours ear piece new =
    (inputs : List Input)
    → Hears ear piece inputs new
    → AllByRecursion (CallsAsNoneOfOurs ours) inputs

-- an end of ours with its desk, shown by a world
pub record StandsIn (ours : Ours) (plan : Network) (certificate : Certificate) (name : Text)
    (w : World) (number : Option ℕ) (t : LiveTerminal) (s : Desk) : Type 0 where
  pub own : ours name ≡ true
  pub others : OthersHaveNone ours w
  pub desk : IsDeskOf w name s
  pub shows : ShowsForeign ours plan certificate name w number t

-- Whatever one input is, also the end of the connection or a late mark: what the end does is one of
-- these four things, and it stands in the world that this leads to.
abbrev pub OneInputComes : Type 0
OneInputComes =
    (ours : Ours) (plan : Network) (certificate : Certificate)
    → IsCertified plan certificate
    → (name : Text) (w : World) (number : Option ℕ) (k : LiveTerminal) (s : Desk)
    → StandsIn ours plan certificate name w number k s
    → (moment : Moment) (i : Input)
    → CallsAsNoneOfOurs ours i
    → (x : Effect) (t : Desk)
    → Reacts (LedgerStep plan name) k.core (at_moment moment i) s x t
    → (came : Came) × (acts : List Act) × (v : World) × (next : Option ℕ)
    × Comes ours plan name w number came acts v next
    × Writes came x.acts
    × StandsIn ours plan certificate name v next (record { core = x.core; ear = k.ear }) t

-- Whatever bytes, in whatever pieces: what the end does is such things, one after the other.
abbrev pub AnyBytesCome : Type 0
AnyBytesCome =
    (ours : Ours) (plan : Network) (certificate : Certificate)
    → IsCertified plan certificate
    → (name : Text) (w : World) (number : Option ℕ) (k : LiveTerminal) (s : Desk)
    → StandsIn ours plan certificate name w number k s
    → (moment : Moment) (piece : List ℕ) (new : Feeding) (x : Effect) (t : Desk)
    → NoneCallsAsOurs ours k.ear piece new
    → PlaysBytes (LedgerStep plan name) moment k.ear k.core piece s new x t
    → (cames : List Came) × (acts : List Act) × (v : World) × (next : Option ℕ)
    × ComeAll ours plan name w number cames acts x.acts v next
    × RunsAmong ours plan w acts plan v
    × OnlyOf w v next name
    × StandsIn ours plan certificate name v next (record { core = x.core; ear = new }) t

-- So the four claims hold of our nodes after whatever bytes, in a world that acts lead to.
abbrev pub ClaimsHoldAfterBytes : Type 0
ClaimsHoldAfterBytes =
    (ours : Ours) (first plan : Network) (certificate : Certificate)
    → IsSound first
    → IsCertified plan certificate
    → (before : List Act) (w : World)
    → RunsAmong ours first start before plan w
    → (name : Text) (number : Option ℕ) (k : LiveTerminal) (s : Desk)
    → ours name ≡ true → IsDeskOf w name s
    → ShowsForeign ours plan certificate name w number k
    → (moment : Moment) (piece : List ℕ) (new : Feeding) (x : Effect) (t : Desk)
    → NoneCallsAsOurs ours k.ear piece new
    → PlaysBytes (LedgerStep plan name) moment k.ear k.core piece s new x t
    → (acts : List Act) × (v : World) × (next : Option ℕ)
    × RunsAmong ours first start (before ++ acts) plan v
    × HeadlineAmong ours plan v
    × IsDeskOf v name t
    × ShowsForeign ours plan certificate name v next (record { core = x.core; ear = new })

-- ---- laws

-- a fresh acceptor of a node's site has no link yet
abbrev pub AcceptorsBegin : Type 0
AcceptorsBegin =
    (ours : Ours) (plan : Network) (certificate : Certificate) (site : Part) (w : World) (now : ℕ)
    → IsPartOf plan certificate site
    → ShowsForeign ours plan certificate site.name w None
    (record { core = accepting site now; ear = fresh site.max_pdu })

-- A request that the site's accept rows accept is a call of its caller, which our end takes over
-- those pairs of the rows that were agreed on.
abbrev pub RequestsAreAnswered : Type 0
RequestsAreAnswered =
    (ours : Ours) (plan : Network) (certificate : Certificate) (name : Text) (w : World)
    (k : LiveTerminal) (s : Desk)
    → StandsIn ours plan certificate name w None k s
    → IsReceiver true Asking name k.core
    → (moment : Moment) (rq : AssociateRq)
    → ours rq.front.calling ≡ false
    → answer rq (site_of k.core) moment.others
    ≡ Accept (acceptance_of rq (site_of k.core)) (agreed_by rq (site_of k.core))
    → (x : Effect) (t : Desk)
    → Reacts (LedgerStep plan name) k.core (at_moment moment (Request rq)) s x t
    → (accepted : Contexts)
    × AreTaken plan name rq.front.calling
    (contexts_of (agreed_by rq (site_of k.core)).pairs)
    accepted
    × ((acts : List Act) × (v : World)
    × Comes ours plan name w None (Asked rq.front.calling (Some accepted)) acts v
    (Some (w.opened + 1))
    × Writes (Asked rq.front.calling (Some accepted)) x.acts
    × StandsIn ours plan certificate name v (Some (w.opened + 1))
    (record { core = x.core; ear = k.ear }) t)

-- The last value of a store that another product sends, over a pair that accept rows take, is the
-- instance brought: it stores it, and our end receives it, with the status of the ledger's answer.
abbrev pub StoresAreBrought : Type 0
StoresAreBrought =
    (ours : Ours) (plan : Network) (certificate : Certificate)
    → IsCertified plan certificate
    → (name : Text) (w : World) (number : ℕ) (k : LiveTerminal) (s : Desk)
    → StandsIn ours plan certificate name w (Some number) k s
    → (link : Link)
    → IsLink w number link
    → link.receiver_connected ≡ true
    → (agreed : Agreed)
    → k.core.agreed ≡ Some agreed
    → (moment : Moment) (value : Pdv) (context : Pair)
    → pair_at agreed value.id ≡ Some context
    → (item : Job) → IsItem item → context.class ≡ item.key.class
    → context.syntax ≡ syntax_uid item.key.syntax
    → Accepts plan name link.caller item.key.class item.key.syntax
    → (n id : ℕ) (stage : Taken)
    → TakesValue k.core.assembly.awaited k.core.assembly.stage value
    (Ok (Some (message n (StoreRq id item.key.class item.uid) (Some (Whole item.body)))))
    stage
    → (x : Effect) (t : Desk)
    → Reacts (LedgerStep plan name) k.core (at_moment moment (Value value)) s x t
    → (reply : Reply) × (acts : List Act) × (v : World)
    × Comes ours plan name w (Some number) (Brought (instance_of item) reply) acts v (Some number)
    × Writes (Brought (instance_of item) reply) x.acts
    × StandsIn ours plan certificate name v (Some number)
    (record { core = x.core; ear = k.ear }) t

-- a store that our end hasn't heard is under way on no link that it shows
abbrev pub NothingUnheardIsStored : Type 0
NothingUnheardIsStored =
    (ours : Ours) (plan : Network) (certificate : Certificate) (name : Text) (w : World)
    (number : ℕ) (k : LiveTerminal) (link : Link) (accepted : Contexts) (item : Instance)
    → IsLink w number link
    → link.receiver_connected ≡ true
    → link.stage ≡ Storing accepted item
    → ShowsForeign ours plan certificate name w (Some number) k
    → ⊥

-- nor does it show a link that one of ours called
abbrev pub OursAreNotForeign : Type 0
OursAreNotForeign =
    (ours : Ours) (plan : Network) (certificate : Certificate) (name : Text) (w : World)
    (number : ℕ) (k : LiveTerminal) (link : Link)
    → IsLink w number link
    → ours link.caller ≡ true
    → ShowsForeign ours plan certificate name w (Some number) k
    → ⊥
