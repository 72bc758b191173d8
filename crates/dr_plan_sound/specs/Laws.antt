-- Laws of sound plans and certificates.
use Rattle.std.specs.Prelude.{◌≡◌, ℕ, ◌≤◌, ◌↔◌, List, Contains, Some, length}
use Rattle.dr_base.specs.Texts.{Text}
use Rattle.dr_base.specs.declared.syntax.Syntax.{Syntax}
use Rattle.dr_route.specs.declared.key.Key.{Key}
use Rattle.dr_plan_model.specs.Networks.{Network}
use Rattle.dr_plan_model.specs.Listening.{address_of}
use Rattle.dr_plan_model.specs.Plans.{IsNode, IsWellFormed}
use Rattle.dr_plan_model.specs.Walks.{Goes, IsReached}
use Rattle.dr_plan_model.specs.declared.plan.Node.{Node}
use Rattle.dr_plan_sound.specs.declared.certificate.Line.{Line}
use Rattle.dr_plan_sound.specs.Soundness.{IsSound, IsRank}
use Rattle.dr_plan_sound.specs.Certificates.{HasLine, AreHopPairs}
use Rattle.dr_plan_sound.specs.HopPairs.{AreOverHop}
use Rattle.dr_plan_sound.specs.Ranked.{AreRanked}

-- lines that are right one by one are exactly the plan's lines, so their ranks are the greatest
abbrev pub RankedLinesAreTheLines : Type 0
RankedLinesAreTheLines =
    (plan : Network) → IsWellFormed plan → (lines : List Line) → AreRanked plan lines
    → (line : Line)
    → Contains lines line ↔ HasLine plan line

-- the pairs that lines which are right one by one show for each hop are exactly the plan's hops
abbrev pub ShownPairsAreTheHops : Type 0
ShownPairsAreTheHops =
    (plan : Network) → IsWellFormed plan → (lines : List Line) → AreRanked plan lines
    → (from to : Text) (pairs : List (Text × Syntax))
    → AreOverHop lines from to pairs ↔ AreHopPairs plan from to pairs

-- where lines are right one by one and show at most 128 pairs over each hop, the plan is sound
abbrev pub RankedLinesAreSound : Type 0
RankedLinesAreSound =
    (plan : Network) → IsWellFormed plan → (lines : List Line) → AreRanked plan lines
    → ((from to : Text)
    → (pairs : List (Text × Syntax)) × AreOverHop lines from to pairs × (length pairs ≤ 128))
    → IsSound plan

-- each place that a key comes to in a sound plan has a rank
abbrev pub SoundPlansHaveRanks : Type 0
SoundPlansHaveRanks =
    (plan : Network) → IsSound plan
    → (key : Key) (caller name : Text)
    → IsReached plan key caller name
    → (rank : ℕ) × IsRank plan key caller name rank

-- in a sound plan, what goes over a hop goes to a node that listens
abbrev pub HopsLeadToAddresses : Type 0
HopsLeadToAddresses =
    (plan : Network) → IsWellFormed plan → IsSound plan
    → (key : Key) (from to : Text) → Goes plan key from to
    → (node : Node) → IsNode plan to node
    → (address : Text) × (address_of node.listens ≡ Some address)
