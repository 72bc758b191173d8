use Rattle.toml.specs.View.{table_view}
use Rattle.dr_plan_text.specs.Tables.{node_keys}
use Rattle.dr_plan_expand.specs.Tables.{IsShortNode}
use Rattle.dr_plan_places.proofs.FieldsFlawed.{unknown_found}
use Rattle.dr_plan_places.proofs.short_tables.ShortNodeTableInspected.unknown_in.Goals as goal

pub returns : goal.returns
returns c = λ format. unknown_found IsShortNode (table_view c.args.table.now) node_keys (λ other x is. is.only) c.unknown_key.result c.unknown_key.ensures
