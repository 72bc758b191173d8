-- A link as bytes: its two ends, what their feeders keep, and what is on its wires; and which link
-- of the message world it is.
use Rattle.std.specs.Prelude.{◌<◌, ◌^◌, ◌≡◌, ◌⊎◌, ℕ, Bool, true, false, List, [], ◌∷◌, ◌++◌, map}
use Rattle.std.specs.Prelude.{Option, Some, None, Ok}
use Rattle.std.specs.List.{AllByRecursion}
use Rattle.std.specs.FinSet as set
use Rattle.std.specs.Str.{bytes_eq}
use Rattle.dr_base.specs.Texts.{Text}
use Rattle.dr_base.specs.Syntaxes.{syntax_uid}
use Rattle.dr_base.specs.declared.syntax.Syntax.{Syntax}
use Rattle.dr_base.specs.declared.syntax.Syntax.TheVariants.{Implicit, Explicit}
use Rattle.dr_plan_model.specs.Networks.{Network}
use Rattle.dr_plan_sound.specs.declared.certificate.Certificate.{Certificate}
use Rattle.dr_site.specs.Parts.{Part, IsPartOf, hops_to}
use Rattle.dr_ulstate.specs.declared.table.State.{State}
use Rattle.dr_ulstate.specs.declared.table.State.TheVariants.{Sta2, Sta5, Sta6, Sta7, Sta11, Sta13}
use Rattle.dr_ulstate.specs.Phases.{standing_of, may_send}
use Rattle.dr_ulstate.specs.Standing.{Standing}
use Rattle.dr_pdu.specs.declared.pdu.Pdu.{Pdu}
use Rattle.dr_pdu.specs.declared.pdu.Pdu.TheVariants as pdu
use Rattle.dr_pdu.specs.declared.pdu.Pdv.{Pdv}
use Rattle.dr_pdu.specs.declared.pdu.AssociateRj.{AssociateRj}
use Rattle.dr_pdu.specs.declared.fault.PduFault.TheVariants.{More}
use Rattle.dr_pdu.specs.Grammar.{Shows}
use Rattle.dr_pdu.specs.Feeding.{Feeding}
use Rattle.dr_pdu.specs.Written.{Fits, MeetsLimit}
use Rattle.dr_dimse.specs.declared.message.Awaited.{Awaited}
use Rattle.dr_dimse.specs.declared.message.Awaited.TheVariants.{Requests, AnswerTo, Nothing}
use Rattle.dr_dimse.specs.declared.message.Message.{Message}
use Rattle.dr_dimse.specs.declared.message.Body.TheVariants.{Whole}
use Rattle.dr_dimse.specs.declared.command.Command.{Command}
use Rattle.dr_dimse.specs.declared.message.Body.{Body}
use Rattle.dr_dimse.specs.declared.command.Command.TheVariants.{StoreRq, StoreRsp}
use Rattle.dr_dimse.specs.Taking.{MessageStage as Taken, Idle, TakesValue, data_of}
use Rattle.dr_ledger.specs.declared.item.Instance.{Instance}
use Rattle.dr_nego.specs.declared.agreed.Pair.{Pair}
use Rattle.dr_nego.specs.declared.agreed.Agreed.{Agreed}
use Rattle.dr_nego.specs.Agreeing.{AssociateRq, AssociateAc, Concludes, pair_at}
use Rattle.dr_nego.specs.Answering.{pairs_of}
use Rattle.dr_nego.specs.Proposing.{IsProposal, context_of}
use Rattle.dr_session.specs.declared.ends.Core.{Core}
use Rattle.dr_session.specs.declared.ends.Pending.{Pending}
use Rattle.dr_session.specs.declared.ends.LinkAction.{LinkAction}
use Rattle.dr_session.specs.declared.ends.LinkAction.TheVariants.{Write, Close}
use Rattle.dr_nego.specs.Fragments.{spellings}
use Rattle.dr_session.specs.Reactions.{storing}
use Rattle.dr_ledger.specs.Items.{IsItem, instance_of}
use Rattle.dr_ledger.specs.declared.content.Job.{Job}
use Rattle.dr_world_model.specs.Worlds.{Link, Contexts, Stage, Asking, Answering, Rejecting, Open}
use Rattle.dr_world_model.specs.Worlds.{Storing, Replying, Gone}
use Rattle.dr_world_model.specs.Steps.{IsHop}

-- the site of an end; one without a site, which no link has, counts as one of nothing
abbrev pub site_in : Option Part → Part
site_in None = record {
  name = [];
  max_pdu = 0;
  digest = [];
  rules = [];
  accepts = [];
  flows = [];
  lines = [];
  hops = [];
  literals = record {
    modalities = record { literals = []; prefixes = [] };
    stations = record { literals = []; prefixes = [] };
  };
}
site_in (Some site) = site

abbrev pub site_of : Core → Part
site_of c = site_in c.site

-- an end, and what it keeps of the bytes that it heard
pub record LiveTerminal : Type 0 where
  pub core : Core
  pub ear : Feeding

pub record Channel : Type 0 where
  pub caller : LiveTerminal
  pub receiver : LiveTerminal
  pub to_caller : List ℕ
  pub to_receiver : List ℕ

-- what is written goes onto the other end's wire
abbrev pub bytes_of : List LinkAction → List ℕ
bytes_of [] = []
bytes_of (Write bytes ∷ acts) = bytes ++ bytes_of acts
bytes_of (Close ∷ acts) = bytes_of acts

-- ---- agreed contexts, as the message world has them

abbrev pub if_named : Bool → Syntax → List Syntax → List Syntax
if_named true s more = s ∷ more
if_named false s more = more

abbrev pub syntaxes_named : Text → List Syntax
syntaxes_named uid = if_named (bytes_eq uid (syntax_uid Implicit)) Implicit
    (if_named (bytes_eq uid (syntax_uid Explicit)) Explicit [])

abbrev pub with_context : Text → List Syntax → Contexts → Contexts
with_context class [] contexts = contexts
with_context class (s ∷ more) contexts = set.insert (with_context class more contexts) (class, s)

-- the pairs of the agreed contexts
abbrev pub contexts_of : List Pair → Contexts
contexts_of [] = set.empty
contexts_of (x ∷ xs) = with_context x.class (syntaxes_named x.syntax) (contexts_of xs)

-- ---- where an end stands

abbrev pub IsAt : Core → Bool → State → Type 0
IsAt c requestor state =
    (a : Standing) × (standing_of c.phase ≡ Some a) × (a.requestor ≡ requestor) × (a.state ≡ state)

-- a requestor that has asked for the release awaits no message, and no data set is under way
abbrev pub IsReleasing : Core → Bool → Type 0
IsReleasing c requestor =
    (requestor ≡ true)
    × (IsAt c true Sta7 ⊎ IsAt c true Sta11)
    × (c.assembly.awaited ≡ Nothing)
    × (data_of c.assembly.stage ≡ None)

-- an end that is off: over, or on its way there, with nothing pending
abbrev pub IsOff : Core → Bool → Type 0
IsOff c requestor =
    (c.pending ≡ None)
    × ((standing_of c.phase ≡ None) ⊎ (IsReleasing c requestor ⊎ IsAt c requestor Sta13))

-- it awaits an answer to its proposal
abbrev pub IsAsking : Core → Text → Type 0
IsAsking c receiver =
    IsAt c true Sta5 × (c.pending ≡ None) × (c.agreed ≡ None)
    × (c.assembly.stage ≡ Idle)
    × (c.assembly.awaited ≡ Nothing)
    × ((rq : AssociateRq) × (c.proposed ≡ Some rq) × IsProposal (site_of c) receiver rq)
    × (may_send c.phase ≡ false)

abbrev pub IsEstablished : Core → Bool → Contexts → Type 0
IsEstablished c requestor accepted =
    IsAt c requestor Sta6
    × ((agreed : Agreed) × (c.agreed ≡ Some agreed) × (accepted ≡ contexts_of agreed.pairs))

-- it has this store pending
abbrev pub HasPending : Core → Instance → Type 0
HasPending c item =
    (id context : ℕ)
    × (c.pending ≡ Some (storing id context item.uid))
    × (c.assembly.awaited ≡ AnswerTo id)

-- the caller's end, by whether it is on and what the link has come to
abbrev pub IsCaller : Bool → Stage → Text → Core → Type 0
IsCaller false stage receiver c = IsOff c true
IsCaller true Asking receiver c = IsAsking c receiver
IsCaller true (Answering accepted) receiver c = IsAsking c receiver
IsCaller true Rejecting receiver c = IsAsking c receiver
IsCaller true (Open accepted) receiver c =
    IsEstablished c true accepted
    × (c.pending ≡ None)
    × (c.assembly.awaited ≡ Nothing)
    × (c.assembly.stage ≡ Idle)
    × (may_send c.phase ≡ true)
IsCaller true (Storing accepted item) receiver c =
    IsEstablished c true accepted × HasPending c item × (c.assembly.stage ≡ Idle)
IsCaller true (Replying accepted item status) receiver c =
    IsEstablished c true accepted × HasPending c item
IsCaller true Gone receiver c = ⊥

abbrev pub IsListening : Core → Text → Contexts → Type 0
IsListening c caller accepted =
    IsEstablished c false accepted
    × (c.peer ≡ caller) × (c.pending ≡ None)
    × (c.assembly.awaited ≡ Requests)

-- the receiver's end
abbrev pub IsReceiver : Bool → Stage → Text → Core → Type 0
IsReceiver false stage caller c = IsOff c false
IsReceiver true Asking caller c =
    IsAt c false Sta2 × (c.pending ≡ None) × (c.agreed ≡ None)
    × (c.assembly.awaited ≡ Requests)
    × (c.assembly.stage ≡ Idle)
IsReceiver true (Answering accepted) caller c =
    IsListening c caller accepted × (c.assembly.stage ≡ Idle)
IsReceiver true Rejecting caller c = ⊥
IsReceiver true (Open accepted) caller c = IsListening c caller accepted × (c.assembly.stage ≡ Idle)
IsReceiver true (Storing accepted item) caller c = IsListening c caller accepted
IsReceiver true (Replying accepted item status) caller c =
    IsListening c caller accepted × (c.assembly.stage ≡ Idle)
IsReceiver true Gone caller c = ⊥

-- ---- what is under way

-- these values, and no fewer, make the message
abbrev pub Gets : Awaited → Taken → List Pdv → Message → Type 0
Gets awaited stage [] m = ⊥
Gets awaited stage (p ∷ ps) m =
    ((next : Taken) × TakesValue awaited stage p (Ok None) next × Gets awaited next ps m)
    ⊎ (TakesValue awaited stage p (Ok (Some m)) Idle × (ps ≡ []))

-- each is the one value of a PDU
abbrev pub alone : Pdv → Pdu
alone p = pdu.Transfer (p ∷ [])

-- values in a context of the pair, which make the message
pub record IsMessageFor (c : Core) (message : Message) (class : Text) (syntax : Syntax)
    (pdus : List Pdu) : Type 0 where
  pub agreed : Agreed
  pub values : List Pdv
  pub context : Pair
  pub has : c.agreed ≡ Some agreed
  pub found : pair_at agreed context.id ≡ Some context
  pub of : (context.class ≡ class) × (context.syntax ≡ syntax_uid syntax)
  pub are : pdus ≡ map alone values
  pub in_context : AllByRecursion (λ (p : Pdv). p.id ≡ context.id) values
  pub gets : Gets c.assembly.awaited c.assembly.stage values message
  pub at : message.id ≡ context.id

abbrev pub message : ℕ → Command → Option Body → Message
message id command body = record { id = id; command = command; body = body }

-- A store of an item, as its PDUs come to the receiver. What the caller has pending, if anything,
-- is this request.
abbrev pub Brings : Job → Core → Core → List Pdu → Type 0
Brings job from c pdus =
    (id context : ℕ) × IsItem job
    × IsMessageFor c (message context (StoreRq id job.key.class job.uid) (Some (Whole job.body)))
    job.key.class job.key.syntax pdus
    × ((p : Pending) → from.pending ≡ Some p → (p.id ≡ id) × (p.context ≡ context))
    × (id < 2 ^ 16)

-- ---- what both ends agreed on

-- the contexts of the hop: what the receiver's rows take of what the caller proposes
abbrev pub hop_contexts : Part → Part → List Pair
hop_contexts from to = pairs_of to.accepts from.name (map context_of (hops_to from to.name))

-- what the end agreed on, if anything, are the contexts of the hop, within the other side's limit
abbrev pub AgreesOn : Part → Part → ℕ → Core → Type 0
AgreesOn from to limit c =
    (agreed : Agreed) → c.agreed ≡ Some agreed
    → agreed ≡ record { pairs = hop_contexts from to; limit = limit }

-- what comes to the receiver
abbrev pub ToReceiver : Stage → Text → Core → Core → List Pdu → Type 0
ToReceiver Asking receiver from c pdus =
    (rq : AssociateRq)
    × (from.proposed ≡ Some rq)
    × IsProposal (site_of from) receiver rq
    × (pdus ≡ pdu.AssociateRq rq ∷ [])
ToReceiver (Storing accepted item) receiver from c pdus =
    (job : Job) × (instance_of job ≡ item) × Brings job from c pdus
ToReceiver stage receiver from c pdus = pdus ≡ []

-- what comes to the caller
abbrev pub ToCaller : Stage → Part → Core → List Pdu → Type 0
ToCaller (Answering accepted) to c pdus =
    (rq : AssociateRq) × (ac : AssociateAc) × (agreed : Agreed) × (c.proposed ≡ Some rq)
    × Concludes rq ac (Ok agreed)
    × (accepted ≡ contexts_of agreed.pairs)
    × (pdus ≡ pdu.AssociateAc ac ∷ [])
    × (agreed ≡ record { pairs = hop_contexts (site_of c) to; limit = to.max_pdu })
ToCaller Rejecting to c pdus = (rj : AssociateRj) × (pdus ≡ pdu.AssociateRj rj ∷ [])
ToCaller (Replying accepted item status) to c pdus =
    (id context : ℕ)
    × (c.pending ≡ Some (storing id context item.uid))
    × IsMessageFor c (message context (StoreRsp id status item.key.class item.uid false) None)
    item.key.class item.key.syntax pdus
ToCaller stage to c pdus = pdus ≡ []

-- what an end writes as it leaves
abbrev pub IsControl : Pdu → Type 0
IsControl pdu.ReleaseRq = Unit {0}
IsControl pdu.ReleaseRp = Unit {0}
IsControl (pdu.Abort a) = Unit {0}
IsControl p = ⊥

-- The reader keeps the front of it, the wire has the rest: what is under way, and behind it what
-- the writer wrote as it left.
pub record Carries (t : LiveTerminal) (wire : List ℕ) (IsComing : List Pdu → Type 0)
    (writer_on : Bool) : Type 0 where
  pub coming : List Pdu
  pub is : IsComing coming
  pub controls : List Pdu
  pub joined : t.ear.kept ++ wire ≡ spellings (coming ++ controls)
  pub works : t.ear.failed ≡ false
  pub waits : Shows t.ear.limit t.ear.kept More
  pub fits : AllByRecursion (λ p. Fits p × MeetsLimit t.ear.limit p) (coming ++ controls)
  pub control : AllByRecursion IsControl controls
  pub none : writer_on ≡ true → controls ≡ []

-- ---- a link

abbrev pub IsSideOf : Network → Certificate → Text → Core → Feeding → Type 0
IsSideOf plan certificate name c ear =
    IsPartOf plan certificate (site_of c)
    × ((site_of c).name ≡ name)
    × (ear.limit ≡ (site_of c).max_pdu)
    × (c.site ≡ Some (site_of c))

-- The channel is this link. What is on the wire of an end that is off counts for nothing.
pub record ShowsLink (plan : Network) (certificate : Certificate) (channel : Channel)
    (link : Link) : Type 0 where
  pub hop : IsHop plan link.caller link.receiver
  pub from : IsSideOf plan certificate link.caller channel.caller.core channel.caller.ear
  pub to : IsSideOf plan certificate link.receiver channel.receiver.core channel.receiver.ear
  pub peer : channel.caller.core.peer ≡ link.receiver
  pub caller_agrees : link.caller_connected ≡ true
      → AgreesOn (site_of channel.caller.core) (site_of channel.receiver.core)
      (site_of channel.receiver.core).max_pdu channel.caller.core
      × (channel.caller.core.last < 2 ^ 16)
  pub receiver_agrees : link.receiver_connected ≡ true
      → AgreesOn (site_of channel.caller.core) (site_of channel.receiver.core)
      (site_of channel.caller.core).max_pdu channel.receiver.core
  pub caller : IsCaller link.caller_connected link.stage link.receiver channel.caller.core
  pub receiver : IsReceiver link.receiver_connected link.stage link.caller channel.receiver.core
  pub to_receiver : link.receiver_connected ≡ true
      → Carries channel.receiver channel.to_receiver
      (ToReceiver link.stage link.receiver channel.caller.core channel.receiver.core)
      link.caller_connected
  pub to_caller : link.caller_connected ≡ true
      → Carries channel.caller channel.to_caller
      (ToCaller link.stage (site_of channel.receiver.core) channel.caller.core)
      link.receiver_connected
