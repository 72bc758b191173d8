use Rattle.std.proofs.Common.{◌≡◌, subst}
use Rattle.dr_plan_model.specs.declared.plan.Values.{Values}
use Rattle.dr_plan_model.specs.Formed.{StationsFit}
use Rattle.dr_plan_model.specs.Naming.{listed_prefixes}
use Rattle.dr_plan_text.specs.Fields.{SaysValues}
use Rattle.dr_plan_text.proofs.OneAnswer.{Given-one}
use Rattle.dr_plan_text.proofs.OfValues.{SaysValues-one}
use Rattle.dr_plan_places.proofs.FieldsFlawed.{not_both}
use Rattle.dr_plan_places.proofs.keys.misses_stations.Goals as goal

pub returns-in-Ok : goal.returns-in-Ok
returns-in-Ok c = λ unfit x given fits.
    let same : x ≡ c.in-Ok.values = Given-one SaysValues SaysValues-one _ x c.in-Ok.values given c.in-Ok.ensures.ok in
    not_both c.stations_fit.result unfit (c.stations_fit.ensures.1 (subst (λ (v : Values). StationsFit c.args.format (listed_prefixes v)) same fits))
