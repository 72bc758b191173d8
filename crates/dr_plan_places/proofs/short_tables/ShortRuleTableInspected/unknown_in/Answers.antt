use Rattle.toml.specs.View.{table_view}
use Rattle.dr_plan_text.specs.Tables.{rule_keys}
use Rattle.dr_plan_expand.specs.Tables.{IsShortRule}
use Rattle.dr_plan_places.proofs.FieldsFlawed.{unknown_found}
use Rattle.dr_plan_places.proofs.short_tables.ShortRuleTableInspected.unknown_in.Goals as goal

pub returns : goal.returns
returns c = λ format. unknown_found IsShortRule (table_view c.args.table.now) rule_keys (λ other x is. is.only) c.unknown_key.result c.unknown_key.ensures
