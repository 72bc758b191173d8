-- The contents of a simulator's world, and what its steps do to them.
use Rattle.std.specs.Prelude.{List, ◌≡◌, ◌⊎◌, ℕ, ◌+◌, ◌^◌, min, true, false, Option, None, Some}
use Rattle.std.specs.Prelude.{Result}
use Rattle.std.specs.Ordering.{nat_cmp}
use Rattle.std.specs.BTreeMap as tree
use Rattle.dr_base.specs.Texts.{Text, text_cmp}
use Rattle.dr_route.specs.Routes.{local}
use Rattle.dr_ledger.specs.declared.ledger.Ledger.{Ghosts}
use Rattle.dr_plan_model.specs.Networks.{Network}
use Rattle.dr_plan_sound.specs.declared.certificate.Certificate.{Certificate}
use Rattle.dr_site.specs.Sites.{IsCertified}
use Rattle.dr_ledger.specs.declared.content.Job.{Job}
use Rattle.dr_ledger.specs.declared.fault.LedgerFault.{LedgerFault}
use Rattle.dr_ledger.specs.declared.fault.LedgerFault.TheVariants as ledger
use Rattle.dr_ledger.specs.Refusals.{Arms}
use Rattle.dr_ledger.specs.Replies.{Drops, Forgets, Requeues, IsHeld, IsOver, Reply}
use Rattle.dr_ledger.specs.SiteRoutes.{site_routing}
use Rattle.dr_site.specs.Parts.{Part}
use Rattle.dr_node.specs.declared.node.Node.{Node}
use Rattle.dr_node.specs.Desks.{StaysAway}
use Rattle.dr_node.specs.Sides.{EndDeed}
use Rattle.dr_session.specs.declared.ends.LinkAction.{LinkAction}
use Rattle.dr_session.specs.Desks.{Arrive, Arrival}
use Rattle.dr_session.specs.Ledgers.{Desk, RoutedStep, desk}
use Rattle.dr_world_model.specs.Calls.{Answer}
use Rattle.dr_world_tie.specs.ByteWorlds as bytes
use Rattle.dr_world.specs.declared.fault.WorldFault.{WorldFault}
use Rattle.dr_world.specs.declared.fault.WorldFault.TheVariants as cause
use Rattle.dr_world.specs.declared.steps.StepNote.{StepNote}
use Rattle.dr_world.specs.declared.steps.StepNote.TheVariants.{Done, Skipped, Refused, UnderWay}
use Rattle.dr_world.specs.declared.wires.Wires.{Wires}
use Rattle.dr_world.specs.declared.world.World.{World}
use Rattle.dr_world.specs.Shows.{Contents, Seat, ShowsBytes, IsSeated, Becomes, with_desk_of}
use Rattle.dr_world.specs.Answered.{armed_for, armed_in}
use Rattle.dr_world.specs.Laws.{away_note, with_time, with_seats}
use Rattle.dr_world.specs.Ends.{IsDoneAtEnd, note_by}
use Rattle.dr_world.specs.Nodes.{AllStandIn, seat_of, seats_of}

-- a note, as the world of bytes has it
abbrev pub noted : StepNote → bytes.StepNote
noted Done = bytes.Done
noted Skipped = bytes.Skipped
noted (Refused fault) = bytes.Refused fault
noted UnderWay = bytes.UnderWay

abbrev pub contents : {L : Type 0} {l : Ghosts L} → World L l → Contents
contents w = record {
  now = w.time.passed;
  opened = w.opened;
  seats = seats_of w.nodes;
  wires = λ number. tree.get nat_cmp w.wires number;
}

-- the premise of each ledger
abbrev pub AllStand : {L : Type 0} {l : Ghosts L} → World L l → Type 0
AllStand w = AllStandIn w.nodes

-- Nothing has changed; where the premise of each ledger stands after it, it stood before.
abbrev pub IsSameWorld : {L : Type 0} {l : Ghosts L} → World L l → World L l → Type 0
IsSameWorld old new =
    (AllStand new → AllStand old)
    × (AllStand new → contents new ≡ contents old)
    × (new.lost ≡ old.lost)

abbrev pub HasTicked : {L : Type 0} {l : Ghosts L} → ℕ → World L l → World L l → Type 0
HasTicked ms old new =
    (contents new ≡ with_time (contents old) (min (old.time.passed + ms) (2 ^ 62)))
    × (new.nodes ≡ old.nodes)

-- ---- calls on a node's ledger

-- Nothing is done at a name that no node has. Else the node's ledger alone has changed, by such a
-- call; and where the premise of each ledger stands after it, it stood before.
abbrev pub CallsIn : {L : Type 0} {l : Ghosts L}
    → (Seat → StepNote → Desk → Type 0)
    → Option (Node L l) → Text → World L l → StepNote → World L l → Type 0
CallsIn does None name old note new =
    (note ≡ Skipped) × (contents new ≡ contents old) × (new.nodes ≡ old.nodes)
CallsIn does (Some n) name old note new =
    (AllStand new → AllStand old)
    × (AllStand new
    → (t : Desk) × does (seat_of n) note t
    × (contents new ≡ with_seats (contents old) name (with_desk_of (seat_of n) t)))

abbrev pub Calls : {L : Type 0} {l : Ghosts L}
    → (Seat → StepNote → Desk → Type 0)
    → Text → World L l → StepNote → World L l → Type 0
Calls does name old note new = CallsIn does (tree.get text_cmp old.nodes name) name old note new

abbrev pub Submits : Job → Seat → StepNote → Desk → Type 0
Submits item seat note t =
    (reply : Reply)
    × RoutedStep (site_routing seat.site) seat.desk (Arrive local item) (Arrival reply) t
    × (noted note ≡ bytes.note_of reply)

abbrev pub StaysAwayFrom : Text → ℕ → Seat → StepNote → Desk → Type 0
StaysAwayFrom to now seat note t =
    (result : Result (Option Text) LedgerFault)
    × StaysAway to now seat.desk result t
    × (noted note ≡ away_note result)

abbrev pub Puts : Text → Text → Seat → StepNote → Desk → Type 0
Puts uid dest seat note t =
    (answer : Answer)
    × Requeues uid dest seat.desk.book answer t.book
    × Arms (IsHeld seat.desk.book uid dest) seat.desk.armed answer t.armed
    × (noted note ≡ bytes.note_of answer)

abbrev pub GivesUp : Text → Text → ℕ → Seat → StepNote → Desk → Type 0
GivesUp uid dest now seat note t =
    (answer : Answer)
    × Drops uid dest now seat.desk.book answer t.book
    × Arms (IsHeld seat.desk.book uid dest) seat.desk.armed answer t.armed
    × (noted note ≡ bytes.note_of answer)

abbrev pub LetsGoOf : Text → Seat → StepNote → Desk → Type 0
LetsGoOf uid seat note t = (answer : Answer) × Forgets uid seat.desk.book answer t.book
    × Arms (IsOver seat.desk.book uid) seat.desk.armed answer t.armed
    × (noted note ≡ bytes.note_of answer)

abbrev pub IsToldToRefuse : Seat → StepNote → Desk → Type 0
IsToldToRefuse seat note t = (note ≡ Done) × (t ≡ desk seat.desk.book true)

-- ---- steps

-- It is that step of the world of bytes: of each that stood beside the old contents, to one that
-- stands beside the new. Each node is one of the plan still. The ledgers' own premise is all that
-- is asked, as it stands after the step; then it stood before.
abbrev pub StepsTo : {L : Type 0} {l : Ghosts L}
    → bytes.WorldStep → World L l → StepNote → World L l → Type 0
StepsTo step old note new =
    (AllStand new → AllStand old)
    × ((plan : Network) (certificate : Certificate)
    → IsCertified plan certificate
    → (b : bytes.ByteWorld)
    → IsSeated plan certificate (contents old).seats
    → ShowsBytes (contents old) b
    → AllStand new
    → IsSeated plan certificate (contents new).seats
    × ∥ Becomes plan certificate b step (noted note) (contents new) ∥₁)

-- Why a world doesn't go on with a step: there was no memory; or the step came to a store that
-- failed, and that wasn't told to refuse.
abbrev pub EndsStep : {L : Type 0} {l : Ghosts L}
    → bytes.WorldStep → World L l → World L l → WorldFault → Type 0
EndsStep step old new why =
    (why ≡ cause.Memory)
    ⊎ ((why ≡ cause.Store)
    × ((note : StepNote) × StepsTo step old note new × (noted note ≡ bytes.Refused ledger.Store)
    × (armed_for (armed_in old.nodes) step ≡ false)))

-- ---- at links

-- Nothing is done where there is no link of that number. Else its end did this, and it is noted by
-- whether anything was written.
abbrev pub MeetsIn : {L : Type 0} {l : Ghosts L}
    → (Part → EndDeed Desk) → Option Wires → ℕ → bytes.Side → World L l → StepNote → World L l
    → Type 0
MeetsIn does None link side old note new =
    (note ≡ Skipped) × (contents new ≡ contents old) × (new.nodes ≡ old.nodes)
MeetsIn does (Some w) link side old note new =
    (AllStand new → AllStand old)
    × (AllStand new
    → (acts : List LinkAction)
    × (noted note ≡ note_by acts)
    × IsDoneAtEnd does 0 (contents old) link side acts (contents new))

abbrev pub Meets : {L : Type 0} {l : Ghosts L}
    → (Part → EndDeed Desk) → ℕ → bytes.Side → World L l → StepNote → World L l → Type 0
Meets does link side old note new =
    MeetsIn does (tree.get nat_cmp old.wires link) link side old note new
