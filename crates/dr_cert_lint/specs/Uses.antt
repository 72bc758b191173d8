-- What is of use for what comes to a node.
use Rattle.std.specs.Prelude.{◌≡◌, ◌≢◌, All}
use Rattle.dr_base.specs.Texts.{Text}
use Rattle.dr_route.specs.Laws.{IsKnownRule, key_of}
use Rattle.dr_route.specs.Routes.{local, Holds, KeepsBy, Takes}
use Rattle.dr_route.specs.declared.key.Key.{Key}
use Rattle.dr_plan_model.specs.Networks.{Network}
use Rattle.dr_plan_model.specs.Plans.{literals_of}
use Rattle.dr_plan_model.specs.Walks.{IsReached}
use Rattle.dr_plan_sound.specs.declared.certificate.Line.{Line}
use Rattle.dr_cert_lint.specs.declared.uses.PartInUse.{PartInUse}
use Rattle.dr_cert_lint.specs.declared.uses.PartInUse.TheVariants.{Whole, Row, Rule, Kept}

-- The part of a node is of use for the key that it has from the caller: the node itself always, a
-- row where it accepts that, a rule where it holds, and what is kept where some rule keeps it.
abbrev pub Uses : PartInUse → Text → Key → Type 0
Uses Whole caller key = Unit {0}
Uses (Row row) caller key = (caller ≢ local) × Takes row.now caller key.class key.syntax
Uses (Rule rule) caller key = Holds rule.now caller key
Uses (Kept rules) caller key = KeepsBy rules.now caller key

-- some key comes to the node for which the part is of use
abbrev pub IsUsed : Network → Text → PartInUse → Type 0
IsUsed plan name part =
    (key : Key) × (caller : Text) × IsReached plan key caller name × Uses part caller key

-- the line is of the node, and the part of use for its keys
abbrev pub ServesLine : Text → PartInUse → Line → Type 0
ServesLine name part line =
    (line.stop.node ≡ name) × Uses part line.stop.caller (key_of line.stop.cell)

-- the values that the part's rules ask for are ones that the plan names
abbrev pub IsKnownPart : Network → PartInUse → Type 0
IsKnownPart plan Whole = Unit {0}
IsKnownPart plan (Row row) = Unit {0}
IsKnownPart plan (Rule rule) = IsKnownRule (literals_of plan) rule.now
IsKnownPart plan (Kept rules) = All (IsKnownRule (literals_of plan)) rules.now
