use Rattle.std.proofs.Common.{refl}
use Rattle.toml.specs.View.{table_view}
use Rattle.dr_plan_places.proofs.ListenFlawed.{node_at, node_accepts}
use Rattle.dr_plan_places.proofs.tables.NodeTableInspected.fault_in.Goals as goal

pub returns-in-Some : goal.returns-in-Some
returns-in-Some c = node_at c.args.format (table_view c.args.table.now) c.in-Some.key.now (rw c.in-Some.is at c.in_ok-key.ensures)

pub returns-then-calls_and_accepts : goal.returns-then-calls_and_accepts
returns-then-calls_and_accepts c = node_accepts c.args.format (table_view c.args.table.now) (c.if-calls_and_accepts.ensures.calls refl) (c.if-calls_and_accepts.ensures.accepts refl)
