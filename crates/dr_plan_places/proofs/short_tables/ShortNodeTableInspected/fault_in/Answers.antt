use Rattle.std.proofs.Common.{refl}
use Rattle.toml.specs.View.{table_view}
use Rattle.dr_plan_places.proofs.ListenFlawed.{short_at, short_accepts}
use Rattle.dr_plan_places.proofs.short_tables.ShortNodeTableInspected.fault_in.Goals as goal

pub returns-in-Some : goal.returns-in-Some
returns-in-Some c = short_at (table_view c.args.table.now) c.in-Some.key.now (rw c.in-Some.is at c.in_ok-key.ensures)

pub returns-then-calls_and_accepts : goal.returns-then-calls_and_accepts
returns-then-calls_and_accepts c = short_accepts (table_view c.args.table.now) (c.if-calls_and_accepts.ensures.calls refl) (c.if-calls_and_accepts.ensures.accepts refl)
