-- What a remedy does.
use Rattle.std.specs.Prelude.{◌≡◌, List, [], ◌∷◌, ◌++◌}
use Rattle.dr_base.specs.Texts.{Text}
use Rattle.dr_base.specs.declared.syntax.Syntax.{Syntax}
use Rattle.dr_route.specs.Routes.{Takes, TakesClass}
use Rattle.dr_route.specs.declared.accept.AcceptRow.{AcceptRow}
use Rattle.dr_route.specs.declared.accept.Callers.TheVariants.{Listed}
use Rattle.dr_check_reasons.specs.Reasons.{TakesPair}

-- a row that takes the class from the caller takes it in the transfer syntax that is added to it
abbrev pub AddedSyntaxIsTaken : Type 0
AddedSyntaxIsTaken =
    (row : AcceptRow) (caller class : Text) (syntax : Syntax)
    → TakesClass caller class row
    → Takes (record row { syntaxes = row.syntaxes ++ syntax ∷ [] }) caller class syntax

-- a row that takes the class in the transfer syntax from these names takes it from the caller that
-- is added to them
abbrev pub AddedCallerIsTaken : Type 0
AddedCallerIsTaken =
    (row : AcceptRow) (names : List Text) (caller class : Text) (syntax : Syntax)
    → row.from ≡ Listed names
    → TakesPair class syntax row
    → Takes (record row { from = Listed (names ++ caller ∷ []) }) caller class syntax
