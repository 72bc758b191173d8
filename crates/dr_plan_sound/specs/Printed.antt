-- Lines and hops as they are printed: fields joined by one tab, numbers in decimal.
use Rattle.std.specs.Prelude.{◌∷◌, ◌++◌, codes}
use Rattle.std.specs.Fmt.{decimal}
use Rattle.dr_base.specs.Texts.{Text}
use Rattle.dr_base.specs.Syntaxes.{syntax_uid}
use Rattle.dr_route.specs.declared.cell.OwnedField.{OwnedField}
use Rattle.dr_route.specs.declared.cell.OwnedField.TheVariants.{Literal, Prefix, Rest}
use Rattle.dr_plan_sound.specs.declared.certificate.Line.{Line}
use Rattle.dr_plan_sound.specs.declared.certificate.Hop.{Hop}

-- a part of the modalities, or of the stations, as it is printed: a literal as it is, a prefix with
-- an asterisk behind it, and what has neither as an asterisk
abbrev pub printed_field : OwnedField → Text
printed_field (Literal literal) = literal
printed_field (Prefix prefix) = prefix ++ codes "*"
printed_field Rest = codes "*"

-- a line as it is printed: caller, node, class, transfer syntax, modality, station and rank, joined
-- by tabs
abbrev pub printed_line : Line → Text
printed_line line =
    line.stop.caller ++ (9 ∷ line.stop.node) ++ (9 ∷ line.stop.cell.class)
    ++ (9 ∷ syntax_uid line.stop.cell.syntax) ++ (9 ∷ printed_field line.stop.cell.modality)
    ++ (9 ∷ printed_field line.stop.cell.station) ++ (9 ∷ decimal line.rank)

-- a hop as it is printed: sender, receiver, id, class and transfer syntax, joined by tabs
abbrev pub printed_hop : Hop → Text
printed_hop hop =
    hop.from ++ (9 ∷ hop.to) ++ (9 ∷ decimal hop.id) ++ (9 ∷ hop.class)
    ++ (9 ∷ syntax_uid hop.syntax)
