use Rattle.std.proofs.Common.{take}
use Rattle.toml.specs.View.{items_view}
use Rattle.dr_plan_text.specs.Fields.{ListsValues}
use Rattle.dr_plan_text.proofs.form.read_items.Given as goal

abbrev pub invariant-loop-item : goal.invariant-loop-item
invariant-loop-item g l = ListsValues g.F.Form.says (items_view (take l.item-index l.items)) l.read.items
