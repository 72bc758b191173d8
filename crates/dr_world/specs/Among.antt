-- Scripts in which other products write: what a world of ours has of a world of bytes, what is
-- asked of a script, and the four claims of ours.
use Rattle.std.specs.Prelude.{◌≡◌, ◌⊎◌, ℕ, Bool, true, false, List, [], ◌∷◌, ◌++◌, length, take}
use Rattle.std.specs.Prelude.{Option, None, Some}
use Rattle.std.specs.List.{AllByRecursion}
use Rattle.std.specs.FinMap as map
use Rattle.std.specs.BTreeMap as tree
use Rattle.dr_base.specs.Texts.{Text, text_cmp}
use Rattle.dr_ledger.specs.declared.ledger.Ledger.{Ghosts}
use Rattle.dr_nego.specs.Agreeing.{AssociateRq}
use Rattle.dr_pdu.specs.Feeding.{Feeding}
use Rattle.dr_pdu.specs.Written.{Fits, MeetsLimit, written}
use Rattle.dr_pdu.specs.declared.pdu.Pdu.{Pdu}
use Rattle.dr_pdu.specs.declared.pdu.Pdu.TheVariants as pdu
use Rattle.dr_session.specs.Plays.{inputs_of}
use Rattle.dr_plan_model.specs.Networks.{Network}
use Rattle.dr_plan_sound.specs.declared.certificate.Certificate.{Certificate}
use Rattle.dr_site.specs.Parts.{Part, IsPartOf}
use Rattle.dr_node.specs.declared.node.Node.{Node}
use Rattle.dr_world_model.specs.Worlds as model
use Rattle.dr_world_model.specs.Among.{Act, HeadlineAmong, Ours, RunsAmong}
use Rattle.dr_world_tie.specs.Channels.{Channel}
use Rattle.dr_world_tie.specs.ByteWorlds.{Acceptor, ByteWorld, Move, Opens, Requestor}
use Rattle.dr_world_tie.specs.ByteWorlds.{StepNote, Steps, WorldStep, beginning, caller_of, is_over}
use Rattle.dr_world_tie.specs.ByteWorlds.{receiver_of}
use Rattle.dr_world_tie.specs.Foreign.{CallsAsNoneOfOurs, NoneCallsAsOurs}
use Rattle.dr_world_tie.specs.ForeignWorlds.{OwnEnd}
use Rattle.dr_world_tie.specs.MixedWorlds.{MixedWorld}
use Rattle.dr_world_script.specs.declared.step.Side.{Side}
use Rattle.dr_world_script.specs.declared.step.Side.TheVariants as side
use Rattle.dr_world_script.specs.declared.step.Step.TheVariants as script
use Rattle.dr_world.specs.declared.deed.Deed.{Deed}
use Rattle.dr_world.specs.declared.deed.Deed.TheVariants as deed
use Rattle.dr_world.specs.declared.world.World.{World}
use Rattle.dr_world.specs.declared.changing.Change.{Change}
use Rattle.dr_world.specs.Adopted.{Changes, certificate_after, plan_after}
use Rattle.dr_world.specs.Ends.{named}
use Rattle.dr_world.specs.Others.{NoneWrites, Writes}
use Rattle.dr_world.specs.Runs.{step_of}

-- ---- what is ours

-- an end whose peer is another product, by whether the caller is ours, and the receiver
abbrev pub own_in : Bool → Bool → Channel → Option OwnEnd
own_in true false k = Some (record { side = Requestor; node = caller_of k; terminal = k.caller })
own_in false true k = Some (record { side = Acceptor; node = receiver_of k; terminal = k.receiver })
own_in true true k = None
own_in false false k = None

-- the one end of a link that is ours, if just one is
abbrev pub own_of : Ours → Channel → Option OwnEnd
own_of ours k = own_in (ours (caller_of k)) (ours (receiver_of k)) k

-- a link between two of ours
abbrev pub pair_in : Bool → Bool → Channel → Option Channel
pair_in true true k = Some k
pair_in true false k = None
pair_in false true k = None
pair_in false false k = None

-- the link, if both its ends are ours
abbrev pub pair_of : Ours → Channel → Option Channel
pair_of ours k = pair_in (ours (caller_of k)) (ours (receiver_of k)) k

-- The world of ours has what the world of bytes has of ours: the ends whose peers are other
-- products, and the links between two of ours. An end whose link a restart of its other node took
-- away is over.
pub record HasOurs (ours : Ours) (b : ByteWorld) (m : MixedWorld) : Type 0 where
  pub time : m.own.time ≡ b.time
  pub desks : (name : Text) → ours name ≡ true → m.own.desks name ≡ b.desks name
  pub ends : (number : ℕ) (k : Channel)
      → map.get b.links number ≡ Some k
      → m.own.ends number ≡ own_of ours k
  pub pairs : (number : ℕ) (k : Channel)
      → map.get b.links number ≡ Some k
      → m.pairs number ≡ pair_of ours k
  pub gone : (number : ℕ)
      → map.get b.links number ≡ None
      → (e : OwnEnd)
      → m.own.ends number ≡ Some e
      → is_over e.terminal.core ≡ true
  pub unpaired : (number : ℕ) → map.get b.links number ≡ None → m.pairs number ≡ None

-- ---- what is asked of a script

-- no request that comes to the acceptor, of what is on its way there, names one of ours as its
-- caller
abbrev pub NoneNamesOurs : Ours → Channel → Type 0
NoneNamesOurs ours k =
    (m : ℕ) (ear : Feeding) → NoneCallsAsOurs ours k.receiver.ear (take m k.to_receiver) ear

-- No request of another product that comes to an acceptor of ours names one of ours.
abbrev pub StepFits : Ours → ByteWorld → WorldStep → Type 0
StepFits ours b (Move number Acceptor n) =
    (k : Channel)
    → map.get b.links number ≡ Some k
    → ours (receiver_of k) ≡ true → ours (caller_of k) ≡ false → NoneNamesOurs ours k
StepFits ours b step = Unit {0}

-- nobody else writes on a link between two of ours
abbrev pub WritesFit : Ours → ByteWorld → ℕ → Type 0
WritesFit ours b link =
    (k : Channel)
    → map.get b.links link ≡ Some k
    → ours (caller_of k) ≡ true → ours (receiver_of k) ≡ false

-- Each deed is such, wherever those before it have led to. Whatever else is written may be, and by
-- whomever; links may be opened between any two; and any plan may be taken.
abbrev pub FitsFrom : Ours → Network → Certificate → ByteWorld → List Deed → Type 0
FitsFrom ours plan certificate b [] = Unit {0}
FitsFrom ours plan certificate b (deed.Step step ∷ deeds) =
    StepFits ours b (step_of step)
    × ((note : StepNote) (mid : ByteWorld)
    → Steps plan certificate b (step_of step) note mid
    → FitsFrom ours plan certificate mid deeds)
FitsFrom ours plan certificate b (deed.Bytes link side bytes ∷ deeds) =
    WritesFit ours b link
    × ((mid : ByteWorld)
    → Writes b link (named side) bytes mid
    → FitsFrom ours plan certificate mid deeds)
FitsFrom ours plan certificate b (deed.Adopt next ∷ deeds) =
    (change : Change) (mid : ByteWorld)
    → Changes plan b next.plan next.certificate change mid
    → FitsFrom ours (plan_after next.plan change plan)
    (certificate_after next.certificate change certificate) mid deeds

-- ---- what is claimed

-- The four claims hold of the books of our nodes by the plan in force: of a world of messages that
-- has just these, to which events, what other products do, and changes of plan lead from the start
-- by the first one.
abbrev pub HoldsAmong : {L : Type 0} {l : Ghosts L} → Ours → Network → Network → World L l → Type 0
HoldsAmong {L} {l} ours first plan w =
    ∥ ((v : model.World)
    × ((name : Text) (n : Node L l)
    → tree.get text_cmp w.nodes name ≡ Some n
    → ours name ≡ true
    → v.books name ≡ l.book n.desk.ledger)
    × ((acts : List Act) × RunsAmong ours first model.start acts plan v)
    × HeadlineAmong ours plan v) ∥₁

-- ---- laws

-- this PDU and nothing else comes to the acceptor: the end keeps the front of it, the wire has the
-- rest
pub record IsComing (k : Channel) (p : Pdu) : Type 0 where
  pub works : k.receiver.ear.failed ≡ false
  pub is : k.receiver.ear.kept ++ k.to_receiver ≡ written p
  pub fits : Fits p
  pub meets : MeetsLimit k.receiver.ear.limit p

-- Another product's request by a name of its own may come, and so may data; one by a name of ours
-- may not.
pub record NamesAreLookedAt : Type 0 where
  pub others : (ours : Ours) (k : Channel) (p : Pdu)
      → IsComing k p
      → AllByRecursion (CallsAsNoneOfOurs ours) (inputs_of p)
      → NoneNamesOurs ours k
  pub own : (ours : Ours) (k : Channel) (rq : AssociateRq)
      → IsComing k (pdu.AssociateRq rq)
      → ours rq.front.calling ≡ true → NoneNamesOurs ours k → ⊥

-- what another product sends over the first link, each PDU moved to the acceptor as it is written
abbrev pub sendings : List Pdu → List Deed
sendings [] = []
sendings (p ∷ ps) =
    deed.Bytes 1 side.Requestor (written p)
    ∷ (deed.Step (script.Move 1 side.Acceptor (length (written p))) ∷ sendings ps)

-- a PDU that an acceptor with that limit reads, and no request by a name of ours
abbrev pub IsOfAnother : Ours → ℕ → Pdu → Type 0
IsOfAnother ours limit p =
    Fits p × MeetsLimit limit p × AllByRecursion (CallsAsNoneOfOurs ours) (inputs_of p)

-- A script fits in which another product asks a node for an association, and sends what it wants.
-- So does one that opens a link between any two, and, where all are ours, each in which nobody else
-- writes. Beside others all steps fit but moves to an acceptor, and so do those over a link that
-- one of ours opened. Others may write on each link of which an end isn't ours. One fits not in
-- which somebody else writes on a link between two of ours.
pub record ScriptsFit : Type 0 where
  pub scanner : (ours : Ours) (plan : Network) (certificate : Certificate) (from to : Text)
      (pdus : List Pdu)
      → ours from ≡ false
      → ((site : Part)
      → IsPartOf plan certificate site
      → site.name ≡ to
      → AllByRecursion (IsOfAnother ours site.max_pdu) pdus)
      → FitsFrom ours plan certificate beginning
      (deed.Step (script.Open from to) ∷ sendings pdus)
  pub between : (ours : Ours) (plan : Network) (certificate : Certificate) (from to : Text)
      → FitsFrom ours plan certificate beginning (deed.Step (script.Open from to) ∷ [])
  pub own : (ours : Ours) (plan : Network) (certificate : Certificate) (b : ByteWorld)
      (deeds : List Deed)
      → ((name : Text) → ours name ≡ true)
      → NoneWrites deeds
      → FitsFrom ours plan certificate b deeds
  pub steps : (ours : Ours) (b : ByteWorld) (step : WorldStep)
      → ((number n : ℕ) → step ≡ Move number Acceptor n → ⊥)
      → StepFits ours b step
  pub called : (ours : Ours) (b : ByteWorld) (number n : ℕ) (k : Channel)
      → map.get b.links number ≡ Some k
      → ours (caller_of k) ≡ true
      → StepFits ours b (Move number Acceptor n)
  pub others : (ours : Ours) (b : ByteWorld) (number : ℕ) (k : Channel)
      → map.get b.links number ≡ Some k
      → (ours (caller_of k) ≡ false) ⊎ (ours (receiver_of k) ≡ false)
      → WritesFit ours b number
  pub overwritten : (ours : Ours) (plan : Network) (certificate : Certificate) (from to : Text)
      (by : Side) (bytes : List ℕ) (deeds : List Deed) (opened : ByteWorld)
      → ours from ≡ true → ours to ≡ true → Opens plan certificate beginning from to opened
      → FitsFrom ours plan certificate beginning
      (deed.Step (script.Open from to) ∷ (deed.Bytes 1 by bytes ∷ deeds))
      → ⊥
