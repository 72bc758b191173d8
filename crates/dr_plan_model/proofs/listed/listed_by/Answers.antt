use Rattle.std.proofs.Common.{◌↔◌, subst, List, Contains}
use Rattle.dr_base.specs.Texts.{Text}
use Rattle.dr_plan_model.proofs.listed.listed_by.Goals as goal

pub returns : goal.returns
returns c = record {
  modalities = λ t. let P : List Text → Type 0 = λ ts. Contains c.in_ok-modalities.modalities t ↔ Contains ts t in subst P c.literals_in.ensures (c.in_ok-modalities.ensures.same t);
  stations = λ t. let P : List Text → Type 0 = λ ts. Contains c.in_ok-stations.stations t ↔ Contains ts t in subst P c.literals_in-2.ensures (c.in_ok-stations.ensures.same t);
  modalities_ordered = c.in_ok-modalities.ensures.ordered;
  stations_ordered = c.in_ok-stations.ensures.ordered;
}
