use Rattle.toml.specs.View.{members_view, table_view}
use Rattle.dr_plan_expand.proofs.Defining.{Defined}
use Rattle.dr_plan_expand.proofs.fields.DefinitionsTableForm.read_table.Given as goal

abbrev pub invariant-loop-name : goal.invariant-loop-name
invariant-loop-name l = Defined (table_view l.fn.table) (members_view l.name-iterator) l.read.items
