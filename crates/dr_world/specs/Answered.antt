-- Which answers of a node's ledger a world goes on with.
use Rattle.std.specs.Prelude.{◌≡◌, ◌⊎◌, Bool, true, false, Option, None, Some}
use Rattle.std.specs.BTreeMap as tree
use Rattle.std.specs.BTreeMap.{BTreeMap}
use Rattle.dr_base.specs.Texts.{Text, text_cmp}
use Rattle.dr_route.specs.Routes.{local}
use Rattle.dr_ledger.specs.declared.content.Job.{Job}
use Rattle.dr_ledger.specs.declared.fault.LedgerFault.TheVariants as ledger
use Rattle.dr_ledger.specs.declared.ledger.Ledger.{Ghosts}
use Rattle.dr_ledger.specs.Books.{Book}
use Rattle.dr_ledger.specs.Items.{instance_of}
use Rattle.dr_ledger.specs.Laws.{Follows}
use Rattle.dr_ledger.specs.PlanRoutes.{plan_routing}
use Rattle.dr_ledger.specs.Replies.{Arrives, Reply}
use Rattle.dr_node.specs.declared.node.Node.{Node}
use Rattle.dr_plan_model.specs.Networks.{Network}
use Rattle.dr_plan_sound.specs.declared.certificate.Certificate.{Certificate}
use Rattle.dr_world_model.specs.Events.{HasNode}
use Rattle.dr_world_tie.specs.ByteWorlds.{ByteWorld, StepNote, Steps, WorldStep, Refused}
use Rattle.dr_world_tie.specs.ByteWorlds.{Submit, Away, Requeue, Drop, Forget}
use Rattle.dr_world.specs.declared.fault.WorldFault.{WorldFault}
use Rattle.dr_world.specs.declared.fault.WorldFault.TheVariants as fault

-- ---- stores that were told to refuse

-- whether a node's store is to refuse the next line
abbrev pub armed_of : {L : Type 0} {l : Ghosts L} → Option (Node L l) → Bool
armed_of None = false
armed_of {L} {l} (Some n) = l.armed n.desk.ledger

abbrev pub armed_in : {L : Type 0} {l : Ghosts L} → BTreeMap Text (Node L l) → Text → Bool
armed_in nodes name = armed_of (tree.get text_cmp nodes name)

-- the same in a world of bytes
abbrev pub armed_at : ByteWorld → Text → Bool
armed_at b name = (b.desks name).armed

-- whether it is the store of the node whose ledger a step asks
abbrev pub armed_for : (Text → Bool) → WorldStep → Bool
armed_for armed (Submit node item) = armed node
armed_for armed (Away from to) = armed from
armed_for armed (Requeue node uid dest) = armed node
armed_for armed (Drop node uid dest) = armed node
armed_for armed (Forget node uid) = armed node
armed_for armed step = false

-- ---- what is answered

-- A ledger never refuses for want of memory, and its store fails only where it was told to refuse.
abbrev pub IsAnsweredIf : Type 0 → StepNote → Type 0
IsAnsweredIf IsArmed (Refused ledger.Memory) = ⊥
IsAnsweredIf IsArmed (Refused ledger.Store) = IsArmed
IsAnsweredIf IsArmed note = Unit {0}

abbrev pub IsAnswered : (Text → Bool) → WorldStep → StepNote → Type 0
IsAnswered armed step note = IsAnsweredIf (armed_for armed step ≡ true) note

-- why a world doesn't go on: there was no memory, or a store failed that wasn't told to refuse
abbrev pub IsUnansweredBy : Bool → StepNote → WorldFault → Type 0
IsUnansweredBy armed note why =
    ((why ≡ fault.Memory) × (note ≡ Refused ledger.Memory))
    ⊎ ((why ≡ fault.Store) × (note ≡ Refused ledger.Store) × (armed ≡ false))

-- a step of the world of bytes with which a world goes on
abbrev pub StepsAnswered : Network → Certificate → ByteWorld → WorldStep → StepNote → ByteWorld
    → Type 0
StepsAnswered plan certificate b step note new =
    Steps plan certificate b step note new × IsAnswered (armed_at b) step note

-- ---- laws

-- What an instance is answered that enters at a node follows from the node's book alone, where the
-- store wasn't told to refuse.
abbrev pub EnteringIsAnswered : Type 0
EnteringIsAnswered =
    (plan : Network) (certificate : Certificate) (b new : ByteWorld) (node : Text) (item : Job)
    (note : StepNote)
    → HasNode plan node
    → armed_at b node ≡ false
    → StepsAnswered plan certificate b (Submit node item) note new
    → (reply : Reply) × Follows reply
    × Arrives (plan_routing plan node) local (instance_of item) (b.desks node).book reply
    (new.desks node).book
