-- Nodes of ours among other makers' products, to which alone they have links: all their desks and
-- ends, what may happen there, and that the four claims hold after any of it.
use Rattle.std.specs.Prelude.{◌≢◌, ◌≡◌, ◌≤◌, ◌+◌, ◌^◌, ◌==◌, if◌then◌else◌, ℕ, true, false, List}
use Rattle.std.specs.Prelude.{[], ◌∷◌, min, Option, None, Some, Ok}
use Rattle.dr_base.specs.Texts.{Text}
use Rattle.dr_route.specs.Routes.{local}
use Rattle.dr_plan_model.specs.Networks.{Network}
use Rattle.dr_plan_sound.specs.declared.certificate.Certificate.{Certificate}
use Rattle.dr_site.specs.Parts.{Part, IsPartOf}
use Rattle.dr_site.specs.Sites.{IsCertified}
use Rattle.dr_pdu.specs.Feeding.{fresh}
use Rattle.dr_ledger.specs.Books.{empty_book}
use Rattle.dr_ledger.specs.declared.content.Job.{Job}
use Rattle.dr_ledger.specs.declared.item.Outcome.TheVariants.{Broken}
use Rattle.dr_nego.specs.Agreeing.{AssociateRq}
use Rattle.dr_nego.specs.Proposing.{IsProposal}
use Rattle.dr_session.specs.declared.ends.Core.{Core}
use Rattle.dr_session.specs.declared.ends.Heard.{Heard}
use Rattle.dr_session.specs.declared.ends.Input.{Input}
use Rattle.dr_session.specs.declared.ends.Input.TheVariants.{AbortAsked, Ended, Late, PushAsked}
use Rattle.dr_session.specs.declared.ends.Input.TheVariants.{ReleaseAsked}
use Rattle.dr_session.specs.declared.ends.Effect.{Effect}
use Rattle.dr_session.specs.declared.ends.LinkAction.{LinkAction}
use Rattle.dr_session.specs.declared.ends.Moment.{Moment}
use Rattle.dr_session.specs.Desks.{Arrive, Arrival, Settle, Settling}
use Rattle.dr_session.specs.Ends.{Terminal as End, HearsOf, accepting, requesting}
use Rattle.dr_session.specs.Ledgers.{desk}
use Rattle.dr_session.specs.Pendings.{pending_of}
use Rattle.dr_session.specs.Plays.{Reacts, at_moment}
use Rattle.dr_world_model.specs.Worlds.{Link, World, same_text, start}
use Rattle.dr_world_model.specs.Calls.{Answer}
use Rattle.dr_ledger.specs.Replies.{Reply}
use Rattle.dr_world_model.specs.Events.{HasNode}
use Rattle.dr_world_model.specs.Steps.{IsHop, IsLink}
use Rattle.dr_world_model.specs.Among.{Ours, Act, RunsAmong, HeadlineAmong}
use Rattle.dr_world_tie.specs.ByteWorlds.{Side, Requestor, Acceptor}
use Rattle.dr_world_tie.specs.Desks.{Desk, LedgerStep}
use Rattle.dr_world_tie.specs.Channels.{LiveTerminal}
use Rattle.dr_world_tie.specs.Nodes.{ForgetsAt, GivesUpAt, RequeuesAt}
use Rattle.dr_world_tie.specs.Ties.{IsDeskOf, with_desk}
use Rattle.dr_world_tie.specs.Foreign.{ShowsForeign}
use Rattle.dr_world_tie.specs.ForeignCalls.{ShowsCall}
use Rattle.dr_world_tie.specs.ForeignLinks.{NoneComesAsOurs, end_of}

-- an end of the node of that name
pub record OwnEnd : Type 0 where
  pub side : Side
  pub node : Text
  pub terminal : LiveTerminal

-- the time, the desk of each node, and the ends of connections, by number
pub record OwnWorld : Type 0 where
  pub time : ℕ
  pub desks : Text → Desk
  pub ends : ℕ → Option OwnEnd

abbrev pub with_end : (ℕ → Option OwnEnd) → ℕ → OwnEnd → ℕ → Option OwnEnd
with_end ends number e other = if other == number then Some e else ends other

-- before anything happens
abbrev pub own_beginning : OwnWorld
own_beginning = record { time = 0; desks = λ name. desk empty_book false; ends = λ number. None }

-- the world with this desk at the node, and this end
abbrev pub with_done : OwnWorld → ℕ → OwnEnd → Desk → OwnWorld
with_done old number e t = record {
  time = old.time;
  desks = with_desk old.desks e.node t;
  ends = with_end old.ends number e;
}

-- what may happen
pub data OwnStep : Type 0 where
  Listens : (number : ℕ) → (node : Text) → OwnStep  -- another product connects
  Opens : (number : ℕ) → (node : Text) → (dest : Text) → OwnStep  -- a node calls another product
  Hears : (number : ℕ) → (came : Heard) → OwnStep  -- something comes over a connection
  -- something is asked of an end, or happens to it
  Meets : (number : ℕ) → (input : Input) → OwnStep
  Submits : (node : Text) → (item : Job) → OwnStep  -- an instance enters at a node
  -- a node comes to no link: a row is settled as broken
  StaysAway : (node : Text) → (uid : Text) → (dest : Text) → OwnStep
  PutsBack : (node : Text) → (uid : Text) → (dest : Text) → OwnStep  -- a held row waits again
  GivesUp : (node : Text) → (uid : Text) → (dest : Text) → OwnStep  -- a held row is given up
  -- a node forgets what is over, where no requestor of it awaits an answer about it
  Forgets : (node : Text) → (uid : Text) → OwnStep
  Refuses : (node : Text) → OwnStep  -- a node's store is to refuse its next line
  Restarts : (node : Text) → OwnStep  -- a node starts anew, and its links are gone
  Passes : (ms : ℕ) → OwnStep  -- time passes

-- an end of another node stays
abbrev pub without_node : Text → Option OwnEnd → Option OwnEnd
without_node node None = None
without_node node (Some e) = if same_text e.node node then None else Some e

-- no requestor of the node has a store of the uid pending
abbrev pub NoneAwaits : OwnWorld → Text → Text → Type 0
NoneAwaits b node uid =
    (i : ℕ) (e : OwnEnd) → b.ends i ≡ Some e → e.node ≡ node → e.side ≡ Requestor
    → pending_of e.terminal.core.pending ≢ Some uid

-- A requestor is asked to send a row, or for the release; any end to abort. The connection ends, or
-- the end is late. What comes as bytes is heard, and nothing of this.
abbrev pub MayMeet : Input → Side → Type 0
MayMeet PushAsked side = side ≡ Requestor
MayMeet ReleaseAsked side = side ≡ Requestor
MayMeet AbortAsked side = Unit {0}
MayMeet Ended side = Unit {0}
MayMeet Late side = Unit {0}
MayMeet input side = ⊥

module _ (ours : Ours) (plan : Network) (certificate : Certificate) where
  -- an end of ours that listens to a fresh connection
  pub record BeginsListening (old : OwnWorld) (number : ℕ) (node : Text)
      (new : OwnWorld) : Type 0 where
    pub free : old.ends number ≡ None
    pub own : ours node ≡ true
    pub site : Part
    pub part : IsPartOf plan certificate site
    pub named : site.name ≡ node
    pub is : new
        ≡ with_done old number
        (record {
          side = Acceptor;
          node = node;
          terminal = record { core = accepting site old.time; ear = fresh site.max_pdu };
        })
        (old.desks node)

  -- one whose request goes out over a hop to another product
  pub record BeginsCalling (old : OwnWorld) (number : ℕ) (node dest : Text)
      (new : OwnWorld) : Type 0 where
    pub free : old.ends number ≡ None
    pub own : ours node ≡ true
    pub away : ours dest ≡ false
    pub hop : IsHop plan node dest
    pub site : Part
    pub part : IsPartOf plan certificate site
    pub named : site.name ≡ node
    pub rq : AssociateRq
    pub proposal : IsProposal site dest rq
    pub is : new
        ≡ with_done old number
        (record {
          side = Requestor;
          node = node;
          terminal =
              record { core = requesting (Some site) dest rq old.time; ear = fresh site.max_pdu };
        })
        (old.desks node)

  -- whatever comes to an end while memory lasts, of any moment's count of other associations; no
  -- request that comes to an acceptor names one of ours as its caller
  pub record HearsWhat (old : OwnWorld) (number : ℕ) (came : Heard) (new : OwnWorld) : Type 0 where
    pub end : OwnEnd
    pub there : old.ends number ≡ Some end
    pub moment : Moment
    pub now : moment.now ≡ old.time
    pub acts : List LinkAction
    pub left : End
    pub core : Core
    pub after : Desk
    pub none : end.side ≡ Acceptor → NoneComesAsOurs ours end.terminal.ear came left.ear
    pub hears : HearsOf (LedgerStep plan end.node) came moment (end_of end.terminal)
        (old.desks end.node)
        (Ok acts)
        left after
    pub lives : left.core ≡ Some core
    pub is : new
        ≡ with_done old number
        (record {
          side = end.side;
          node = end.node;
          terminal = record { core = core; ear = left.ear };
        })
        after

  -- something is asked of an end, or happens to it
  pub record MeetsWhat (old : OwnWorld) (number : ℕ) (input : Input)
      (new : OwnWorld) : Type 0 where
    pub end : OwnEnd
    pub there : old.ends number ≡ Some end
    pub may : MayMeet input end.side
    pub moment : Moment
    pub now : moment.now ≡ old.time
    pub effect : Effect
    pub after : Desk
    pub reacts : Reacts (LedgerStep plan end.node) end.terminal.core (at_moment moment input)
        (old.desks end.node)
        effect after
    pub is : new
        ≡ with_done old number
        (record {
          side = end.side;
          node = end.node;
          terminal = record { core = effect.core; ear = end.terminal.ear };
        })
        after

  -- a node of ours does this with its ledger alone
  pub record DoesAlone (old : OwnWorld) (node : Text) (Does : Desk → Desk → Type 0)
      (new : OwnWorld) : Type 0 where
    pub is_node : HasNode plan node
    pub own : ours node ≡ true
    pub after : Desk
    pub does : Does (old.desks node) after
    pub is : new
        ≡ record {
          time = old.time;
          desks = with_desk old.desks node after;
          ends = old.ends;
        }

  -- a node of ours starts anew: its ends are gone, and nothing is settled
  pub record StartsAnew (old : OwnWorld) (node : Text) (new : OwnWorld) : Type 0 where
    pub own : ours node ≡ true
    pub is : new
        ≡ record {
          time = old.time;
          desks = old.desks;
          ends = λ number. without_node node (old.ends number);
        }

  -- the step leads from the one world to the other
  abbrev pub OwnSteps : OwnWorld → OwnStep → OwnWorld → Type 0
  OwnSteps old (Listens number node) new = BeginsListening old number node new
  OwnSteps old (Opens number node dest) new = BeginsCalling old number node dest new
  OwnSteps old (Hears number came) new = HearsWhat old number came new
  OwnSteps old (Meets number input) new = MeetsWhat old number input new
  OwnSteps old (Submits node item) new = DoesAlone old node
      (λ s t. (reply : Reply) × LedgerStep plan node s (Arrive local item) (Arrival reply) t)
      new
  OwnSteps old (StaysAway node uid dest) new = DoesAlone old node
      (λ s t. (answer : Answer)
      × LedgerStep plan node s (Settle uid dest Broken old.time) (Settling answer) t)
      new
  OwnSteps old (PutsBack node uid dest) new =
      DoesAlone old node (λ s t. (answer : Answer) × RequeuesAt s uid dest answer t) new
  OwnSteps old (GivesUp node uid dest) new =
      DoesAlone old node (λ s t. (answer : Answer) × GivesUpAt s uid dest old.time answer t) new
  OwnSteps old (Forgets node uid) new =
      NoneAwaits old node uid
      × DoesAlone old node (λ s t. (answer : Answer) × ForgetsAt s uid answer t) new
  OwnSteps old (Refuses node) new = DoesAlone old node (λ s t. t ≡ desk s.book true) new
  OwnSteps old (Restarts node) new = StartsAnew old node new
  OwnSteps old (Passes ms) new =
      new ≡ record { time = min (old.time + ms) (2 ^ 62); desks = old.desks; ends = old.ends }

  -- one after the other
  abbrev pub OwnRuns : OwnWorld → List OwnStep → OwnWorld → Type 0
  OwnRuns old [] new = new ≡ old
  OwnRuns old (step ∷ steps) new = (mid : OwnWorld) × OwnSteps old step mid × OwnRuns mid steps new

  -- ---- beside which world of messages it stands

  -- the end is the receiver or the caller of its link
  abbrev pub ShowsBy : World → Option ℕ → Side → Text → LiveTerminal → Type 0
  ShowsBy w at Acceptor node k = ShowsForeign ours plan certificate node w at k
  ShowsBy w at Requestor node k =
      (n : ℕ) × (at ≡ Some n) × ShowsCall ours plan certificate node w n k

  -- the same time, the desks of ours, and each end shown, each link by one end; and each link that
  -- one of ours called is its requestor's
  pub record ShowsOwn (b : OwnWorld) (w : World) : Type 0 where
    pub time : w.time ≡ b.time
    pub desks : (name : Text) → ours name ≡ true → IsDeskOf w name (b.desks name)
    pub numbers : ℕ → Option ℕ
    pub own : (i : ℕ) (e : OwnEnd) → b.ends i ≡ Some e → ours e.node ≡ true
    pub ends : (i : ℕ) (e : OwnEnd)
        → b.ends i ≡ Some e
        → ShowsBy w (numbers i) e.side e.node e.terminal
    pub apart : (i j n : ℕ) → numbers i ≡ Some n → numbers j ≡ Some n → i ≡ j
    pub known : (i n : ℕ) → numbers i ≡ Some n → n ≤ w.opened
    pub free : (i : ℕ) → b.ends i ≡ None → numbers i ≡ None
    pub called : (n : ℕ) (link : Link)
        → IsLink w n link
        → ours link.caller ≡ true
        → (i : ℕ) × (e : OwnEnd) × (b.ends i ≡ Some e) × (numbers i ≡ Some n)
        × (e.side ≡ Requestor)

-- After any steps from the beginning, whatever others write, a world of messages stands beside it,
-- to which acts lead from the start, and of which the four claims hold.
abbrev pub OwnWorldsKeepTheClaims : Type 0
OwnWorldsKeepTheClaims =
    (ours : Ours) (plan : Network) (certificate : Certificate)
    → IsCertified plan certificate
    → (steps : List OwnStep) (b : OwnWorld)
    → OwnRuns ours plan certificate own_beginning steps b
    → (acts : List Act) × (w : World)
    × RunsAmong ours plan start acts plan w
    × ShowsOwn ours plan certificate b w
    × HeadlineAmong ours plan w

-- ---- laws

-- At each number that is free an end of a node of ours can listen.
abbrev pub OursCanListen : Type 0
OursCanListen =
    (ours : Ours) (plan : Network) (certificate : Certificate) (b : OwnWorld) (number : ℕ)
    (site : Part)
    → b.ends number ≡ None
    → ours site.name ≡ true → IsPartOf plan certificate site
    → (new : OwnWorld) × OwnSteps ours plan certificate b (Listens number site.name) new

-- Nothing is listened for, asked or taken at a node that isn't ours, and none of ours is called.
pub record OthersAreNotHere : Type 0 where
  pub listens : (ours : Ours) (plan : Network) (certificate : Certificate) (b new : OwnWorld)
      (number : ℕ) (node : Text)
      → ours node ≡ false → OwnSteps ours plan certificate b (Listens number node) new → ⊥
  pub calls : (ours : Ours) (plan : Network) (certificate : Certificate) (b new : OwnWorld)
      (number : ℕ) (node dest : Text)
      → ours dest ≡ true → OwnSteps ours plan certificate b (Opens number node dest) new → ⊥
  pub takes : (ours : Ours) (plan : Network) (certificate : Certificate) (b new : OwnWorld)
      (node : Text) (item : Job)
      → ours node ≡ false → OwnSteps ours plan certificate b (Submits node item) new → ⊥

-- An acceptor is never asked to send, and no end of a node that starts anew is left.
pub record EndsAreAskedSo : Type 0 where
  pub sends : (ours : Ours) (plan : Network) (certificate : Certificate) (b new : OwnWorld)
      (number : ℕ) (e : OwnEnd)
      → b.ends number ≡ Some e → e.side ≡ Acceptor
      → OwnSteps ours plan certificate b (Meets number PushAsked) new → ⊥
  pub anew : (ours : Ours) (plan : Network) (certificate : Certificate) (b new : OwnWorld)
      (node : Text)
      → OwnSteps ours plan certificate b (Restarts node) new
      → (number : ℕ) (e : OwnEnd) → new.ends number ≡ Some e → e.node ≡ node → ⊥
