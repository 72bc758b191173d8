-- What a plan and a certificate must meet, one condition after another.
use Rattle.std.specs.Prelude.{◌≡◌, ◌≢◌, ℕ, ◌≤◌, ◌⊎◌, ◌↔◌, List, length, AllPairs, All, Contains}
use Rattle.std.specs.declared.cmp.Ordering.TheVariants.{Less}
use Rattle.dr_base.specs.Texts.{Text, text_cmp}
use Rattle.dr_base.specs.declared.syntax.Syntax.{Syntax}
use Rattle.dr_route.specs.declared.key.Key.{Key}
use Rattle.dr_plan_model.specs.Networks.{Network}
use Rattle.dr_plan_model.specs.Plans.{LiesIn}
use Rattle.dr_plan_model.specs.Walks.{Sends, Keeps, Accepts, IsReached, Goes, GoesOver}
use Rattle.dr_plan_sound.specs.declared.certificate.Stop.{Stop}
use Rattle.dr_plan_sound.specs.declared.certificate.Line.{Line}
use Rattle.dr_plan_sound.specs.declared.certificate.Hop.{Hop}
use Rattle.dr_plan_sound.specs.declared.certificate.Certificate.{Certificate}
use Rattle.dr_plan_sound.specs.Certificates.{HasLine, HasHop}
use Rattle.dr_plan_sound.specs.Printed.{printed_line, printed_hop}

-- the certificate has the plan's format as its version, and names the plan's digest
abbrev pub IsOfPlan : Network → Certificate → Type 0
IsOfPlan plan certificate = (certificate.format ≡ plan.format) × (certificate.digest ≡ plan.digest)

-- the lines stand in the byte order of their printed rows, each once
abbrev pub AreLinesInOrder : List Line → Type 0
AreLinesInOrder lines = AllPairs (λ a b. text_cmp (printed_line a) (printed_line b) ≡ Less) lines

-- the hops stand in the byte order of their printed rows, each once
abbrev pub AreHopsInOrder : List Hop → Type 0
AreHopsInOrder hops = AllPairs (λ a b. text_cmp (printed_hop a) (printed_hop b) ≡ Less) hops

-- the lines of a certificate stand in order, and so do its hops
abbrev pub IsInOrder : Certificate → Type 0
IsInOrder certificate = AreLinesInOrder certificate.lines × AreHopsInOrder certificate.hops

-- a walk from an entry comes to the stop, for some key of its cell
abbrev pub IsReachedStop : Network → Stop → Type 0
IsReachedStop plan stop =
    (key : Key) × LiesIn plan stop.cell key × IsReached plan key stop.caller stop.node

-- the stop has a line, whatever its rank
abbrev pub HasALine : List Line → Stop → Type 0
HasALine lines stop = (rank : ℕ) × Contains lines (record { stop = stop; rank = rank })

-- each stop to which a walk from an entry comes has a line
abbrev pub HasEachLine : Network → List Line → Type 0
HasEachLine plan lines = (stop : Stop) → IsReachedStop plan stop → HasALine lines stop

-- each hop of a walk from an entry is accepted
abbrev pub AcceptsEachHop : Network → Type 0
AcceptsEachHop plan =
    (key : Key) (from to : Text) → Goes plan key from to → Accepts plan to from key.class key.syntax

-- each node to which a walk comes keeps the instance or sends it on
abbrev pub GoesOnEverywhere : Network → Type 0
GoesOnEverywhere plan =
    (key : Key) (caller name : Text)
    → IsReached plan key caller name
    → Keeps plan name caller key ⊎ ((to : Text) × Sends plan name caller key to)

-- a walk comes to the stop of each line
abbrev pub ReachesEachLine : Network → List Line → Type 0
ReachesEachLine plan lines = (line : Line) → Contains lines line → IsReachedStop plan line.stop

-- each line is one of the plan, so its rank is the greatest number of hops left
abbrev pub HasRightRanks : Network → List Line → Type 0
HasRightRanks plan lines = (line : Line) → Contains lines line → HasLine plan line

-- no hop has more than 128 pairs
abbrev pub HasFewPairs : Network → Type 0
HasFewPairs plan =
    (from to : Text) (apart : List (Text × Syntax))
    → AllPairs (λ p q. p ≢ q) apart
    → All (GoesOver plan from to) apart
    → length apart ≤ 128

-- the hops are just those of the plan, with their numbers
abbrev pub HasRightHops : Network → List Hop → Type 0
HasRightHops plan hops = HasFewPairs plan × ((hop : Hop) → Contains hops hop ↔ HasHop plan hop)

-- ---- the first conditions, up to and with the one that gives the name

-- the certificate is of this plan, and its lines and hops stand in order
abbrev pub UpToOrder : Network → Certificate → Type 0
UpToOrder plan certificate = IsOfPlan plan certificate × IsInOrder certificate

-- the conditions up to here: digest, order, and each stop to which a walk comes has a line
abbrev pub UpToLines : Network → Certificate → Type 0
UpToLines plan certificate = UpToOrder plan certificate × HasEachLine plan certificate.lines

-- the conditions up to here: digest, order, a line for each stop, and each hop of a walk is
-- accepted
abbrev pub UpToContexts : Network → Certificate → Type 0
UpToContexts plan certificate = UpToLines plan certificate × AcceptsEachHop plan

-- the conditions up to here: digest, order, lines, contexts, and no walk ends where nobody keeps
abbrev pub UpToEnds : Network → Certificate → Type 0
UpToEnds plan certificate = UpToContexts plan certificate × GoesOnEverywhere plan

-- the conditions up to here: digest, order, lines, contexts, ends, and a walk comes to the stop of
-- each line
abbrev pub UpToReach : Network → Certificate → Type 0
UpToReach plan certificate = UpToEnds plan certificate × ReachesEachLine plan certificate.lines

-- all conditions but that of the hops: the last of them is that each line has the right rank
abbrev pub UpToRanks : Network → Certificate → Type 0
UpToRanks plan certificate = UpToReach plan certificate × HasRightRanks plan certificate.lines
