-- What the rules of a node, and its accept rows, say of a key.
use Rattle.std.specs.Prelude.{◌≡◌, ◌≢◌, List, [], ◌∷◌, codes, Contains, ◌⊎◌, IsTrue}
use Rattle.dr_base.specs.Texts.{Text, Begins}
use Rattle.dr_base.specs.declared.syntax.Syntax.{Syntax}
use Rattle.dr_route.specs.declared.key.Key.{Key}
use Rattle.dr_route.specs.declared.rule.Pattern.{Pattern}
use Rattle.dr_route.specs.declared.rule.Pattern.TheVariants.{Any, Literal}
use Rattle.dr_route.specs.declared.rule.FieldPattern.{FieldPattern}
use Rattle.dr_route.specs.declared.rule.FieldPattern.TheVariants as field
use Rattle.dr_route.specs.declared.rule.Rule.{Rule}
use Rattle.dr_route.specs.declared.accept.Callers.{Callers}
use Rattle.dr_route.specs.declared.accept.Callers.TheVariants as callers
use Rattle.dr_route.specs.declared.accept.AcceptRow.{AcceptRow}

-- the caller of what enters at a node itself: `-`, which is no node's name
abbrev pub local : Text
local = codes "-"

-- the pattern admits the value
abbrev pub Matches : Pattern → Text → Type 0
Matches Any value = Unit {0}
Matches (Literal literal) value = literal ≡ value

-- the pattern admits the value of its field
abbrev pub MatchesField : FieldPattern → Text → Type 0
MatchesField field.Any value = Unit {0}
MatchesField (field.Literal literal) value = literal ≡ value
MatchesField (field.Prefix prefix) value = Begins prefix value

-- the rule speaks of the station: its pattern admits it, and it is no exception
abbrev pub TakesStation : Rule → Text → Type 0
TakesStation rule station = MatchesField rule.station station × (Contains rule.except station → ⊥)

-- the rule holds for what the caller brings
abbrev pub Holds : Rule → Text → Key → Type 0
Holds rule caller key =
    (caller ≢ local) × Matches rule.from caller
    × Matches rule.class key.class
    × MatchesField rule.modality key.modality
    × TakesStation rule key.station

-- some rule that holds for what the caller brings names the node among its targets
abbrev pub SendsBy : List Rule → Text → Key → Text → Type 0
SendsBy [] caller key name = ⊥
SendsBy (rule ∷ rules) caller key name =
    (Holds rule caller key × Contains rule.to name) ⊎ SendsBy rules caller key name

-- some rule that holds for what the caller brings keeps it
abbrev pub KeepsBy : List Rule → Text → Key → Type 0
KeepsBy [] caller key = ⊥
KeepsBy (rule ∷ rules) caller key =
    (Holds rule caller key × IsTrue rule.keep) ⊎ KeepsBy rules caller key

-- the accept row speaks of the caller: of everybody, or by its name
abbrev pub IsCaller : Callers → Text → Type 0
IsCaller callers.Any caller = Unit {0}
IsCaller (callers.Listed names) caller = Contains names caller

-- the accept row takes the class from the caller, in whatever transfer syntaxes
abbrev pub TakesClass : Text → Text → AcceptRow → Type 0
TakesClass caller class row = IsCaller row.from caller × (row.class ≡ class)

-- the accept row takes the class in that transfer syntax from the caller
abbrev pub Takes : AcceptRow → Text → Text → Syntax → Type 0
Takes row caller class syntax =
    IsCaller row.from caller × (row.class ≡ class) × Contains row.syntaxes syntax

-- some accept row takes the class in that transfer syntax from the caller
abbrev pub AcceptsBy : List AcceptRow → Text → Text → Syntax → Type 0
AcceptsBy [] caller class syntax = ⊥
AcceptsBy (row ∷ rows) caller class syntax =
    Takes row caller class syntax ⊎ AcceptsBy rows caller class syntax
