-- Nodes of ours that have links to each other beside those to other makers' products: what may
-- happen there, and that the four claims hold after any of it.
use Rattle.std.specs.Prelude.{◌≢◌, ◌≡◌, ◌↔◌, ◌⊎◌, ◌≤◌, ◌&&◌, ◌==◌, if◌then◌else◌, ℕ, true}
use Rattle.std.specs.Prelude.{false, List, [], ◌∷◌, length, take, Contains, Option, None, Some}
use Rattle.std.specs.Prelude.{map as mapped}
use Rattle.std.specs.Ordering.{nat_cmp}
use Rattle.std.specs.List.Sorted.{IsStrictlySortedBy}
use Rattle.dr_base.specs.Texts.{Text}
use Rattle.dr_plan_model.specs.Networks.{Network}
use Rattle.dr_plan_sound.specs.declared.certificate.Certificate.{Certificate}
use Rattle.dr_plan_sound.specs.declared.certificate.Hop.{Hop}
use Rattle.dr_site.specs.Parts.{Part, IsPartOf}
use Rattle.dr_site.specs.Sites.{IsCertified}
use Rattle.dr_ulstate.specs.declared.table.Event.TheVariants.{AbortRequest, ReleaseRequest}
use Rattle.dr_ulstate.specs.Phases.{state_of}
use Rattle.dr_pdu.specs.declared.pdu.Pdu.{Pdu}
use Rattle.dr_pdu.specs.Feeding.{Feeding}
use Rattle.dr_nego.specs.Agreeing.{AssociateRq}
use Rattle.dr_nego.specs.Proposing.{IsHopTo, IsProposal}
use Rattle.dr_session.specs.declared.ends.Core.{Core}
use Rattle.dr_session.specs.declared.ends.Effect.{Effect}
use Rattle.dr_session.specs.declared.ends.Input.{Input}
use Rattle.dr_session.specs.declared.ends.Input.TheVariants.{AbortAsked, Ended, Late, PushAsked}
use Rattle.dr_session.specs.declared.ends.Input.TheVariants.{ReleaseAsked}
use Rattle.dr_session.specs.declared.ends.Moment.{Moment}
use Rattle.dr_session.specs.Pendings.{pending_of}
use Rattle.dr_session.specs.Plays.{Reacts, PlaysBytes, at_moment}
use Rattle.dr_session.specs.Reactions.{is_free, is_idle}
use Rattle.dr_world_model.specs.Worlds.{Link, World, start}
use Rattle.dr_world_model.specs.Steps.{IsLink}
use Rattle.dr_world_model.specs.Among.{Ours, Act, RunsAmong, HeadlineAmong}
use Rattle.dr_world_tie.specs.Desks.{Desk, LedgerStep}
use Rattle.dr_world_tie.specs.Channels.{Channel, LiveTerminal, ShowsLink}
use Rattle.dr_world_tie.specs.Moves.{IsLeft}
use Rattle.dr_world_tie.specs.Ties.{IsDeskOf, with_desk, caller_did, receiver_did, caller_read}
use Rattle.dr_world_tie.specs.Ties.{receiver_read}
use Rattle.dr_world_tie.specs.ByteWorlds.{Side, Requestor, Acceptor, caller_of, receiver_of}
use Rattle.dr_world_tie.specs.ByteWorlds.{has_cell, is_open, is_over, is_there, opened_between}
use Rattle.dr_world_tie.specs.ForeignWorlds.{OwnEnd, OwnStep, OwnSteps, OwnRuns, OwnWorld, ShowsBy}
use Rattle.dr_world_tie.specs.ForeignWorlds.{Listens, Opens, Hears, Meets, Submits, StaysAway}
use Rattle.dr_world_tie.specs.ForeignWorlds.{PutsBack, GivesUp, Forgets, Refuses, Restarts, Passes}
use Rattle.dr_world_tie.specs.ForeignWorlds.{own_beginning}

-- The time, the desks and the ends whose peers are other products, as in a world that has nothing
-- else; and beside them the links between two of ours, under numbers of their own among these.
pub record MixedWorld : Type 0 where
  pub own : OwnWorld
  pub pairs : ℕ → Option Channel

-- before anything happens
abbrev pub mixed_beginning : MixedWorld
mixed_beginning = record { own = own_beginning; pairs = λ number. None }

abbrev pub with_pair : (ℕ → Option Channel) → ℕ → Channel → ℕ → Option Channel
with_pair pairs number k other = if other == number then Some k else pairs other

-- the world with this desk at the node, and this link
abbrev pub done_between : MixedWorld → ℕ → Channel → Text → Desk → MixedWorld
done_between old number k name t = record {
  own = record {
    time = old.own.time;
    desks = with_desk old.own.desks name t;
    ends = old.own.ends;
  };
  pairs = with_pair old.pairs number k;
}

-- what may happen
pub data MixedStep : Type 0 where
  -- what may happen where there are no links between two of ours
  Alone : (step : OwnStep) → MixedStep
  Joins : (number : ℕ) → (from : Text) → (to : Text) → MixedStep  -- a node calls another of ours
  -- so many bytes come to an end of a link between two of ours
  Moves : (number : ℕ) → (reader : Side) → (n : ℕ) → MixedStep
  -- something is asked of an end of such a link, or happens to it
  Asks : (number : ℕ) → (side : Side) → (input : Input) → MixedStep
  Empties : (number : ℕ) → MixedStep  -- what is on the wires of a link that is over is lost

-- a link of other nodes stays
abbrev pub without_pair : Text → Option Channel → Option Channel
without_pair node None = None
without_pair node (Some k) = if is_there node (Some k) then None else Some k

-- the links between two of ours after something happened beside them
abbrev pub pairs_after : OwnStep → (ℕ → Option Channel) → ℕ → Option Channel
pairs_after (Restarts node) pairs number = without_pair node (pairs number)
pairs_after (Listens place node) pairs number = pairs number
pairs_after (Opens place node dest) pairs number = pairs number
pairs_after (Hears place came) pairs number = pairs number
pairs_after (Meets place input) pairs number = pairs number
pairs_after (Submits node item) pairs number = pairs number
pairs_after (StaysAway node uid dest) pairs number = pairs number
pairs_after (PutsBack node uid dest) pairs number = pairs number
pairs_after (GivesUp node uid dest) pairs number = pairs number
pairs_after (Forgets node uid) pairs number = pairs number
pairs_after (Refuses node) pairs number = pairs number
pairs_after (Passes ms) pairs number = pairs number

-- no node has a store of the uid pending on a link between two of ours
abbrev pub NonePends : (ℕ → Option Channel) → Text → Text → Type 0
NonePends pairs node uid =
    (i : ℕ) (k : Channel)
    → pairs i ≡ Some k → caller_of k ≡ node
    → pending_of k.caller.core.pending ≢ Some uid

-- whoever of ours called the node has had the connection ended, so that it has nothing pending
abbrev pub CallersAreOver : (ℕ → Option Channel) → Text → Type 0
CallersAreOver pairs node =
    (i : ℕ) (k : Channel)
    → pairs i ≡ Some k → receiver_of k ≡ node → is_over k.caller.core ≡ true

-- what is asked of the links between two of ours where something happens beside them
abbrev pub MayBeside : (ℕ → Option Channel) → OwnStep → Type 0
MayBeside pairs (Listens number node) = pairs number ≡ None
MayBeside pairs (Opens number node dest) = pairs number ≡ None
MayBeside pairs (Forgets node uid) = NonePends pairs node uid
MayBeside pairs (Restarts node) = CallersAreOver pairs node
MayBeside pairs (Hears number came) = Unit {0}
MayBeside pairs (Meets number input) = Unit {0}
MayBeside pairs (Submits node item) = Unit {0}
MayBeside pairs (StaysAway node uid dest) = Unit {0}
MayBeside pairs (PutsBack node uid dest) = Unit {0}
MayBeside pairs (GivesUp node uid dest) = Unit {0}
MayBeside pairs (Refuses node) = Unit {0}
MayBeside pairs (Passes ms) = Unit {0}

-- ---- which associations a node counts

-- the association of that number is open at the node, which was called: by another product, or by
-- one of ours
abbrev pub IsOpenAt : MixedWorld → Text → ℕ → Type 0
IsOpenAt b name number =
    ((e : OwnEnd)
    × (b.own.ends number ≡ Some e)
    × (e.side ≡ Acceptor)
    × (e.node ≡ name)
    × (is_open (state_of e.terminal.core.phase) ≡ true))
    ⊎ ((k : Channel)
    × (b.pairs number ≡ Some k)
    × (receiver_of k ≡ name)
    × (is_open (state_of k.receiver.core.phase) ≡ true))

-- the others are that many
abbrev pub CountsOthers : MixedWorld → ℕ → Text → ℕ → Type 0
CountsOthers b number name count =
    (numbers : List ℕ)
    × IsStrictlySortedBy nat_cmp numbers
    × ((other : ℕ) → Contains numbers other ↔ ((other ≢ number) × IsOpenAt b name other))
    × (count ≡ length numbers)

-- ---- what is done

-- What may be asked of an end, or happen to it: a caller that is free sends a row, one that is idle
-- asks for the release. An end aborts where the table has a cell for that. The connection ends, or
-- the end is late.
abbrev pub MayAsk : Side → Core → Input → Type 0
MayAsk Requestor c PushAsked = is_free c ≡ true
MayAsk Requestor c ReleaseAsked = (is_idle c && has_cell ReleaseRequest c) ≡ true
MayAsk Requestor c AbortAsked = Unit {0}
MayAsk Acceptor c AbortAsked = has_cell AbortRequest c ≡ true
MayAsk side c Ended = Unit {0}
MayAsk side c Late = Unit {0}
MayAsk side c input = ⊥

-- never past the end of the PDU at the front
abbrev pub IsWithinFront : LiveTerminal → List ℕ → ℕ → Type 0
IsWithinFront t wire n =
    (front : Pdu) (left : List ℕ) → IsLeft t wire front left → n ≤ length left

-- one of ours has an end of the link
abbrev pub HasOurs : Ours → Link → Type 0
HasOurs ours link = (ours link.caller ≡ true) ⊎ (ours link.receiver ≡ true)

module _ (ours : Ours) (plan : Network) (certificate : Certificate) where
  -- One of ours calls another over a hop, at a number that is free: two fresh ends, the request on
  -- the wire.
  pub record JoinsTo (old : MixedWorld) (number : ℕ) (from to : Text)
      (new : MixedWorld) : Type 0 where
    pub free : (old.own.ends number ≡ None) × (old.pairs number ≡ None)
    pub own : (ours from ≡ true) × (ours to ≡ true)
    pub caller : Part
    pub receiver : Part
    pub rq : AssociateRq
    pub hop : Hop
    pub from_is : IsPartOf plan certificate caller × (caller.name ≡ from)
    pub to_is : IsPartOf plan certificate receiver × (receiver.name ≡ to)
    pub over : IsHopTo caller to hop
    pub proposal : IsProposal caller to rq
    pub is : new
        ≡ record {
          own = old.own;
          pairs =
              with_pair old.pairs number (opened_between caller receiver rq old.own.time);
        }

  -- the first bytes of its wire come to the caller
  pub record CallerIsMoved (old : MixedWorld) (number n : ℕ) (new : MixedWorld) : Type 0 where
    pub pair : Channel
    pub there : old.pairs number ≡ Some pair
    pub some : pair.to_caller ≢ []
    pub within : IsWithinFront pair.caller pair.to_caller n
    pub moment : Moment
    pub now : moment.now ≡ old.own.time
    pub ear : Feeding
    pub effect : Effect
    pub after : Desk
    pub plays : PlaysBytes (LedgerStep plan (caller_of pair)) moment pair.caller.ear
        pair.caller.core (take n pair.to_caller) (old.own.desks (caller_of pair)) ear effect after
    pub is : new
        ≡ done_between old number (caller_read pair n ear effect) (caller_of pair) after

  -- and to the receiver, whose node counts all its associations
  pub record ReceiverIsMoved (old : MixedWorld) (number n : ℕ) (new : MixedWorld) : Type 0 where
    pub pair : Channel
    pub there : old.pairs number ≡ Some pair
    pub some : pair.to_receiver ≢ []
    pub within : IsWithinFront pair.receiver pair.to_receiver n
    pub moment : Moment
    pub now : moment.now ≡ old.own.time
    pub counted : CountsOthers old number (receiver_of pair) moment.others
    pub ear : Feeding
    pub effect : Effect
    pub after : Desk
    pub plays : PlaysBytes (LedgerStep plan (receiver_of pair)) moment pair.receiver.ear
        pair.receiver.core (take n pair.to_receiver) (old.own.desks (receiver_of pair)) ear effect
        after
    pub is : new
        ≡ done_between old number (receiver_read pair n ear effect) (receiver_of pair) after

  -- something is asked of the caller's end, or happens to it
  pub record CallerIsAsked (old : MixedWorld) (number : ℕ) (input : Input)
      (new : MixedWorld) : Type 0 where
    pub pair : Channel
    pub there : old.pairs number ≡ Some pair
    pub may : MayAsk Requestor pair.caller.core input
    pub moment : Moment
    pub now : moment.now ≡ old.own.time
    pub effect : Effect
    pub after : Desk
    pub reacts : Reacts (LedgerStep plan (caller_of pair)) pair.caller.core
        (at_moment moment input) (old.own.desks (caller_of pair)) effect after
    pub is : new ≡ done_between old number (caller_did pair effect) (caller_of pair) after

  pub record ReceiverIsAsked (old : MixedWorld) (number : ℕ) (input : Input)
      (new : MixedWorld) : Type 0 where
    pub pair : Channel
    pub there : old.pairs number ≡ Some pair
    pub may : MayAsk Acceptor pair.receiver.core input
    pub moment : Moment
    pub now : moment.now ≡ old.own.time
    pub effect : Effect
    pub after : Desk
    pub reacts : Reacts (LedgerStep plan (receiver_of pair)) pair.receiver.core
        (at_moment moment input) (old.own.desks (receiver_of pair)) effect after
    pub is : new ≡ done_between old number (receiver_did pair effect) (receiver_of pair) after

  -- a link whose ends are over, with nothing on its wires any more
  pub record IsEmptied (old : MixedWorld) (number : ℕ) (new : MixedWorld) : Type 0 where
    pub pair : Channel
    pub there : old.pairs number ≡ Some pair
    pub over : (is_over pair.caller.core ≡ true) × (is_over pair.receiver.core ≡ true)
    pub is : new
        ≡ record {
          own = old.own;
          pairs = with_pair old.pairs number
              (record {
                caller = pair.caller;
                receiver = pair.receiver;
                to_caller = [];
                to_receiver = [];
              });
        }

  -- the step leads from the one world to the other
  abbrev pub MixedSteps : MixedWorld → MixedStep → MixedWorld → Type 0
  MixedSteps old (Alone step) new =
      MayBeside old.pairs step
      × ((own : OwnWorld)
      × OwnSteps ours plan certificate old.own step own
      × (new ≡ record { own = own; pairs = pairs_after step old.pairs }))
  MixedSteps old (Joins number from to) new = JoinsTo old number from to new
  MixedSteps old (Moves number Requestor n) new = CallerIsMoved old number n new
  MixedSteps old (Moves number Acceptor n) new = ReceiverIsMoved old number n new
  MixedSteps old (Asks number Requestor input) new = CallerIsAsked old number input new
  MixedSteps old (Asks number Acceptor input) new = ReceiverIsAsked old number input new
  MixedSteps old (Empties number) new = IsEmptied old number new

  -- one after the other
  abbrev pub MixedRuns : MixedWorld → List MixedStep → MixedWorld → Type 0
  MixedRuns old [] new = new ≡ old
  MixedRuns old (step ∷ steps) new =
      (mid : MixedWorld) × MixedSteps old step mid × MixedRuns mid steps new

  -- ---- beside which world of messages it stands

  -- the link between two of ours is this one there
  pub record ShowsPair (w : World) (at : Option ℕ) (k : Channel) : Type 0 where
    pub number : ℕ
    pub at_is : at ≡ Some number
    pub link : Link
    pub here : IsLink w number link
    pub caller : ours link.caller ≡ true
    pub receiver : ours link.receiver ≡ true
    pub shows : ShowsLink plan certificate k link

  -- The same time and the desks of ours; each end and each link between two of ours shown, each
  -- link there once; and each link of one of ours has its place.
  pub record ShowsMixed (b : MixedWorld) (w : World) : Type 0 where
    pub time : w.time ≡ b.own.time
    pub desks : (name : Text) → ours name ≡ true → IsDeskOf w name (b.own.desks name)
    pub numbers : ℕ → Option ℕ
    pub own : (i : ℕ) (e : OwnEnd) → b.own.ends i ≡ Some e → ours e.node ≡ true
    pub ends : (i : ℕ) (e : OwnEnd)
        → b.own.ends i ≡ Some e
        → ShowsBy ours plan certificate w (numbers i) e.side e.node e.terminal
    pub pairs : (i : ℕ) (k : Channel) → b.pairs i ≡ Some k → ShowsPair w (numbers i) k
    pub lone : (i : ℕ) (e : OwnEnd) → b.own.ends i ≡ Some e → b.pairs i ≡ None
    pub apart : (i j n : ℕ) → numbers i ≡ Some n → numbers j ≡ Some n → i ≡ j
    pub known : (i n : ℕ) → numbers i ≡ Some n → n ≤ w.opened
    pub free : (i : ℕ) → b.own.ends i ≡ None → b.pairs i ≡ None → numbers i ≡ None
    pub covered : (n : ℕ) (link : Link)
        → IsLink w n link
        → HasOurs ours link
        → (i : ℕ) × (numbers i ≡ Some n)

-- After any steps from the beginning, whatever others write, a world of messages stands beside it,
-- to which acts lead from the start, and of which the four claims hold. Of two of ours they say
-- what they say where all are ours.
abbrev pub MixedWorldsKeepTheClaims : Type 0
MixedWorldsKeepTheClaims =
    (ours : Ours) (plan : Network) (certificate : Certificate)
    → IsCertified plan certificate
    → (steps : List MixedStep) (b : MixedWorld)
    → MixedRuns ours plan certificate mixed_beginning steps b
    → ∥ ((acts : List Act) × (w : World)
    × RunsAmong ours plan start acts plan w
    × ShowsMixed ours plan certificate b w
    × HeadlineAmong ours plan w) ∥₁

-- ---- laws

-- Whatever may happen where there are no links between two of ours may happen here.
abbrev pub OwnRunsAreMixed : Type 0
OwnRunsAreMixed =
    (ours : Ours) (plan : Network) (certificate : Certificate) (steps : List OwnStep)
    (b : OwnWorld)
    → OwnRuns ours plan certificate own_beginning steps b
    → MixedRuns ours plan certificate mixed_beginning (mapped Alone steps)
    (record { own = b; pairs = λ number. None })

-- One of ours listens to another product, and calls another of ours beside that: both links are
-- there.
abbrev pub BothKindsStandThere : Type 0
BothKindsStandThere =
    (ours : Ours) (plan : Network) (certificate : Certificate) (from to : Part) (rq : AssociateRq)
    (hop : Hop)
    → ours from.name ≡ true → ours to.name ≡ true → IsPartOf plan certificate from
    → IsPartOf plan certificate to
    → IsHopTo from to.name hop
    → IsProposal from to.name rq
    → (b : MixedWorld)
    × MixedRuns ours plan certificate mixed_beginning
    (Alone (Listens 1 from.name) ∷ Joins 2 from.name to.name ∷ []) b
    × ((e : OwnEnd) × (b.own.ends 1 ≡ Some e))
    × (b.pairs 2 ≡ Some (opened_between from to rq 0))

-- No link to another product is one between two of ours, and none under a number in use.
pub record PairsAreOurs : Type 0 where
  pub from : (ours : Ours) (plan : Network) (certificate : Certificate) (b new : MixedWorld)
      (number : ℕ) (from to : Text)
      → ours from ≡ false
      → MixedSteps ours plan certificate b (Joins number from to) new
      → ⊥
  pub to : (ours : Ours) (plan : Network) (certificate : Certificate) (b new : MixedWorld)
      (number : ℕ) (from to : Text)
      → ours to ≡ false → MixedSteps ours plan certificate b (Joins number from to) new → ⊥
  pub twice : (ours : Ours) (plan : Network) (certificate : Certificate) (b new : MixedWorld)
      (number : ℕ) (from to : Text) (k : Channel)
      → b.pairs number ≡ Some k
      → MixedSteps ours plan certificate b (Joins number from to) new
      → ⊥
  pub shown : (ours : Ours) (plan : Network) (certificate : Certificate) (w : World)
      (at : Option ℕ) (k : Channel)
      → ours (receiver_of k) ≡ false → ShowsPair ours plan certificate w at k → ⊥

-- What comes to an end of such a link is what the other end wrote: each wire gets what its writer
-- writes, and loses what its reader reads. Where something happens beside it the link stays as it
-- is, or is gone.
pub record WiresCarryWhatIsWritten : Type 0 where
  pub caller_asked : (ours : Ours) (plan : Network) (certificate : Certificate)
      (b new : MixedWorld) (number : ℕ) (input : Input) (k l : Channel)
      → MixedSteps ours plan certificate b (Asks number Requestor input) new
      → b.pairs number ≡ Some k → new.pairs number ≡ Some l
      → (x : Effect) × (l ≡ caller_did k x)
  pub receiver_asked : (ours : Ours) (plan : Network) (certificate : Certificate)
      (b new : MixedWorld) (number : ℕ) (input : Input) (k l : Channel)
      → MixedSteps ours plan certificate b (Asks number Acceptor input) new
      → b.pairs number ≡ Some k → new.pairs number ≡ Some l
      → (x : Effect) × (l ≡ receiver_did k x)
  pub caller_moved : (ours : Ours) (plan : Network) (certificate : Certificate)
      (b new : MixedWorld) (number n : ℕ) (k l : Channel)
      → MixedSteps ours plan certificate b (Moves number Requestor n) new
      → b.pairs number ≡ Some k → new.pairs number ≡ Some l
      → (ear : Feeding) × (x : Effect) × (l ≡ caller_read k n ear x)
  pub receiver_moved : (ours : Ours) (plan : Network) (certificate : Certificate)
      (b new : MixedWorld) (number n : ℕ) (k l : Channel)
      → MixedSteps ours plan certificate b (Moves number Acceptor n) new
      → b.pairs number ≡ Some k → new.pairs number ≡ Some l
      → (ear : Feeding) × (x : Effect) × (l ≡ receiver_read k n ear x)
  pub beside : (ours : Ours) (plan : Network) (certificate : Certificate) (b new : MixedWorld)
      (number : ℕ) (step : OwnStep) (l : Channel)
      → MixedSteps ours plan certificate b (Alone step) new
      → new.pairs number ≡ Some l → b.pairs number ≡ Some l
