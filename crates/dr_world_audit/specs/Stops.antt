-- Why the reading of journals ends.
use Rattle.std.specs.Prelude.{◌≡◌, ◌⊎◌, List, Contains, Option, None, Some, Result, Ok, Err}
use Rattle.dr_base.specs.Texts.{Text}
use Rattle.dr_plan_model.specs.Networks.{Network}
use Rattle.dr_ledger.specs.Books.{Line}
use Rattle.dr_plan_model.specs.Plans.{NamesNoNode}
use Rattle.dr_world_audit.specs.declared.audit.AuditFault.{AuditFault}
use Rattle.dr_world_audit.specs.declared.audit.AuditFault.TheVariants as fault
use Rattle.dr_world_audit.specs.declared.audit.Mismatch.{Mismatch}
use Rattle.dr_world_audit.specs.declared.audit.Mismatch.TheVariants as what
use Rattle.dr_world_audit.specs.declared.audit.NodeJournal.{NodeJournal}
use Rattle.dr_world_audit.specs.declared.hop.AuditHop.{AuditHop as Held}
use Rattle.dr_world_audit.specs.Comparing.{IsUnanswered, IsUnsent}
use Rattle.dr_world_audit.specs.declared.audit.AuditStop.{AuditStop}
use Rattle.dr_world_audit.specs.declared.audit.AuditStop.TheVariants as stop
use Rattle.dr_world_audit.specs.declared.audit.AuditVerdict.{AuditVerdict}
use Rattle.dr_world_audit.specs.declared.audit.AuditVerdict.TheVariants as verdicts
use Rattle.dr_world_audit.specs.declared.fault.JournalFault.{JournalFault}
use Rattle.dr_world_audit.specs.declared.fault.JournalFault.TheVariants as read
use Rattle.dr_world_audit.specs.declared.trail.Trail.{Trail}
use Rattle.dr_world_audit.specs.Sites.{AreApart, AreRead, IsUnfair, NotesNode, ShowsNode, TellsNode}
use Rattle.dr_world_audit.specs.Sites.{lines_at}

-- there is no memory
abbrev pub for_memory : AuditStop
for_memory = stop.Fault fault.Memory

-- each line's answer is fair
abbrev pub AllFair : List Text → NodeJournal → Type 0
AllFair ours node = (line : Line) → Contains (lines_at node) line → IsUnfair ours line → ⊥

-- all answers are fair, or one isn't
abbrev pub TestsAnswers : Network → List Text → NodeJournal → Result (Unit {0}) AuditStop → Type 0
TestsAnswers plan ours node (Ok done) = AllFair ours node
TestsAnswers plan ours node (Err (stop.No mismatch)) = TellsNode plan ours node mismatch
TestsAnswers plan ours node (Err (stop.Fault why)) = why ≡ fault.Memory

-- the mismatch of a node's journal that isn't read
abbrev pub StopsFor : NodeJournal → JournalFault → AuditStop → Type 0
StopsFor node read.NoCall (stop.No mismatch) = mismatch ≡ what.NoHistory node.name
StopsFor node (read.Unfit uid to) (stop.No mismatch) = mismatch ≡ what.NoHop node.name uid to
StopsFor node read.Memory (stop.No mismatch) = ⊥
StopsFor node read.NoCall (stop.Fault other) = other ≡ fault.Memory
StopsFor node (read.Unfit uid to) (stop.Fault other) = other ≡ fault.Memory
StopsFor node read.Memory (stop.Fault other) = other ≡ fault.Memory

-- no node of the plan has the name
abbrev pub RefusesNode : Network → NodeJournal → AuditFault → Type 0
RefusesNode plan node fault.NoNode = NamesNoNode plan node.name
RefusesNode plan node fault.Twice = ⊥
RefusesNode plan node fault.Memory = Unit {0}

-- no node of the plan has one of the names; or two journals are of one node
abbrev pub Refuses : Network → List NodeJournal → AuditFault → Type 0
Refuses plan nodes fault.NoNode =
    (node : NodeJournal) × Contains nodes node × NamesNoNode plan node.name
Refuses plan nodes fault.Twice = AreApart nodes → ⊥
Refuses plan nodes fault.Memory = Unit {0}

-- two journals are of one node
abbrev pub IsTwice : List NodeJournal → AuditFault → Type 0
IsTwice nodes fault.NoNode = ⊥
IsTwice nodes fault.Twice = AreApart nodes → ⊥
IsTwice nodes fault.Memory = Unit {0}

-- the node's journal was read, or it doesn't show what it has to
abbrev pub ReadsNode : Network → List Text → NodeJournal → Trail → Trail
    → Result (Unit {0}) AuditStop
    → Type 0
ReadsNode plan ours node old new (Ok done) = ShowsNode plan ours node × NotesNode plan node old new
ReadsNode plan ours node old new (Err (stop.No mismatch)) = TellsNode plan ours node mismatch
ReadsNode plan ours node old new (Err (stop.Fault why)) = RefusesNode plan node why

-- all were read, or one doesn't show what it has to
abbrev pub ReadsAll : Network → List Text → List NodeJournal → Trail → Trail
    → Result (Unit {0}) AuditStop
    → Type 0
ReadsAll plan ours nodes old new (Ok done) = AreRead plan ours nodes old new
ReadsAll plan ours nodes old new (Err (stop.No mismatch)) =
    (node : NodeJournal) × Contains nodes node × TellsNode plan ours node mismatch
ReadsAll plan ours nodes old new (Err (stop.Fault why)) = Refuses plan nodes why

-- each hop that came had a reason, and each that was answered came; or one hadn't, or didn't
abbrev pub Compares : List Text → List Held → List Held → List Held → Option Mismatch → Type 0
Compares ours came sent done None =
    ((hop : Held) → Contains came hop → IsUnsent ours sent hop → ⊥)
    × ((hop : Held) → Contains done hop → IsUnanswered ours came hop → ⊥)
Compares ours came sent done (Some mismatch) =
    ((hop : Held) × Contains came hop × IsUnsent ours sent hop
    × (mismatch ≡ what.NoReason hop.to hop.uid hop.from))
    ⊎ ((hop : Held) × Contains done hop × IsUnanswered ours came hop
    × (mismatch ≡ what.NoArrival hop.from hop.uid hop.to))

-- the verdict is the mismatch of the stop
abbrev pub IsVerdictOf : AuditStop → AuditVerdict → Type 0
IsVerdictOf (stop.No mismatch) verdict = verdict ≡ verdicts.No mismatch
IsVerdictOf (stop.Fault why) verdict = ⊥

-- the fault is that of the stop
abbrev pub IsFaultOf : AuditStop → AuditFault → Type 0
IsFaultOf (stop.No mismatch) why = ⊥
IsFaultOf (stop.Fault other) why = why ≡ other
