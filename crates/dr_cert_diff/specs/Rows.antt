-- The lines that are printed of changes: fields joined by one tab, each line ended by an LF.
use Rattle.std.specs.Prelude.{List, [], ◌∷◌, ◌++◌, codes, flat_map}
use Rattle.dr_base.specs.Texts.{Text, next_field}
use Rattle.dr_base.specs.Syntaxes.{syntax_uid}
use Rattle.dr_route.specs.declared.cell.OwnedCell.{OwnedCell}
use Rattle.dr_plan_sound.specs.Printed.{printed_field}
use Rattle.dr_cert_diff.specs.declared.change.RouteChange.{RouteChange}

-- the node where keys enter, and their class, transfer syntax, modality and station
abbrev pub entry_fields : Text → OwnedCell → Text
entry_fields site cell =
    (9 ∷ site) ++ (9 ∷ cell.class) ++ (9 ∷ syntax_uid cell.syntax)
    ++ (9 ∷ printed_field cell.modality) ++ (9 ∷ printed_field cell.station)

-- a word, the node and the cell, and the nodes that are lost or gained; nothing where there is none
abbrev pub row_of : Text → Text → OwnedCell → List Text → Text
row_of word site cell [] = []
row_of word site cell (dest ∷ more) =
    word ++ entry_fields site cell ++ flat_map next_field (dest ∷ more) ++ (10 ∷ [])

-- the lines of a change: what is lost, and what is gained
abbrev pub change_rows : RouteChange → Text
change_rows change =
    row_of (codes "lost") change.site change.cell change.lost
    ++ row_of (codes "gained") change.site change.cell change.gained
