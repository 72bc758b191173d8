-- The line of a plan that isn't sound: the word no, the fault's name and its parts, joined by one
-- tab, and the LF that ends it.
use Rattle.std.specs.Prelude.{List, [], ◌∷◌, ◌++◌, codes, flat_map}
use Rattle.dr_base.specs.Texts.{Text}
use Rattle.dr_base.specs.Syntaxes.{syntax_uid}
use Rattle.dr_route.specs.declared.cell.OwnedCell.{OwnedCell}
use Rattle.dr_plan_sound.specs.Printed.{printed_field}
use Rattle.dr_check.specs.declared.fault.Fault.{Fault}
use Rattle.dr_check.specs.declared.fault.Fault.TheVariants.{NoContext, Cycle, DeadEnd}
use Rattle.dr_check.specs.declared.fault.Fault.TheVariants.{TooManyContexts}

-- each field behind a tab, one after the other
abbrev pub tabbed : List Text → Text
tabbed fields = flat_map (λ field. 9 ∷ field) fields

-- the fields of a fault that a walk shows: class, transfer syntax, modality, station, and the nodes
-- of the walk
abbrev pub walk_fields : OwnedCell → List Text → Text
walk_fields cell walk =
    (9 ∷ cell.class) ++ (9 ∷ syntax_uid cell.syntax) ++ (9 ∷ printed_field cell.modality)
    ++ (9 ∷ printed_field cell.station) ++ tabbed walk

-- the fields of a fault: its name and its parts, such as `Cycle` with a walk that comes back
abbrev pub fault_fields : Fault → Text
fault_fields (NoContext walk cell) = (9 ∷ codes "NoContext") ++ walk_fields cell walk
fault_fields (Cycle walk cell) = (9 ∷ codes "Cycle") ++ walk_fields cell walk
fault_fields (DeadEnd walk cell) = (9 ∷ codes "DeadEnd") ++ walk_fields cell walk
fault_fields (TooManyContexts from to) = (9 ∷ codes "TooManyContexts") ++ (9 ∷ from) ++ (9 ∷ to)

-- the line that is printed for a plan that isn't sound: `no`, the fault's fields, and the LF that
-- ends it
abbrev pub no_line : Fault → Text
no_line fault = codes "no" ++ fault_fields fault ++ (10 ∷ [])
