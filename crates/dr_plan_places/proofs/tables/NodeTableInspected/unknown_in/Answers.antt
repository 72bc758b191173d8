use Rattle.toml.specs.View.{table_view}
use Rattle.dr_plan_text.specs.Tables.{node_keys}
use Rattle.dr_plan_places.specs.FieldFlaws.{IsNodeOf}
use Rattle.dr_plan_places.proofs.FieldsFlawed.{unknown_found}
use Rattle.dr_plan_places.proofs.tables.NodeTableInspected.unknown_in.Goals as goal

pub returns : goal.returns
returns c = λ format. unknown_found (IsNodeOf format) (table_view c.args.table.now) node_keys (λ other x is. is.0.only) c.unknown_key.result c.unknown_key.ensures
