-- The rows that are printed of a journey: fields joined by one tab, each row ended by an LF.
use Rattle.std.specs.Prelude.{ℕ, [], ◌∷◌, ◌++◌, codes, decimal, flat_map}
use Rattle.dr_base.specs.Texts.{Text}
use Rattle.dr_base.specs.Syntaxes.{syntax_uid}
use Rattle.dr_route.specs.declared.cell.OwnedCell.{OwnedCell}
use Rattle.dr_plan_sound.specs.declared.certificate.Hop.{Hop}
use Rattle.dr_plan_sound.specs.Printed.{printed_field}
use Rattle.dr_cert_trace.specs.declared.tracing.Journey.{Journey}

-- `cell`, and then class, transfer syntax, modality and station, as a line of the certificate has
-- them
abbrev pub cell_row : OwnedCell → Text
cell_row cell =
    codes "cell" ++ (9 ∷ cell.class) ++ (9 ∷ syntax_uid cell.syntax)
    ++ (9 ∷ printed_field cell.modality) ++ (9 ∷ printed_field cell.station) ++ (10 ∷ [])

-- `rank`, and how many hops there are at most
abbrev pub rank_row : ℕ → Text
rank_row rank = codes "rank" ++ (9 ∷ decimal rank) ++ (10 ∷ [])

-- `hop`, and then sender, receiver, and the id of the presentation context
abbrev pub traced_hop_row : Hop → Text
traced_hop_row hop =
    codes "hop" ++ (9 ∷ hop.from) ++ (9 ∷ hop.to) ++ (9 ∷ decimal hop.id) ++ (10 ∷ [])

-- `keep`, and a node that keeps
abbrev pub keep_row : Text → Text
keep_row name = codes "keep" ++ (9 ∷ name) ++ (10 ∷ [])

-- the rows of a journey: the cell of its keys, its rank, its hops, and the nodes that keep
abbrev pub journey_text : OwnedCell → Journey → Text
journey_text cell journey =
    cell_row cell ++ rank_row journey.rank ++ flat_map traced_hop_row journey.hops
    ++ flat_map keep_row journey.keeps
