use Rattle.std.specs.Prelude.{◌≤◌}
use Rattle.dr_store_bodies.specs.declared.extent.Extent.{Extent}
use Rattle.std.proofs.lemmas.List.Elements.{All-contains}
use Rattle.dr_store_data.proofs.laws.no_cell_names_the_head.Goals as goal

pub returns : goal.returns
returns c list uses e is there = All-contains (λ (x : Extent). 4096 ≤ x.at) list e is.behind there
