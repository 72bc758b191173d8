use Rattle.toml.specs.View.{table_view}
use Rattle.dr_plan_expand.specs.Tables.{IsShortPlan, short_keys}
use Rattle.dr_plan_places.proofs.FieldsFlawed.{unknown_found}
use Rattle.dr_plan_places.proofs.short_tables.ShortPlanTableInspected.unknown_in.Goals as goal

pub returns : goal.returns
returns c = λ format. unknown_found IsShortPlan (table_view c.args.table.now) short_keys (λ other x is. is.only) c.unknown_key.result c.unknown_key.ensures
