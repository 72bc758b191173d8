use Rattle.std.proofs.Common.{sym, subst, Option}
use Rattle.std.specs.Prelude.{IfSome}
use Rattle.toml.specs.View.{table_view}
use Rattle.dr_plan_places.proofs.Indices.{table_at}
use Rattle.dr_plan_places.proofs.rows.first_among.Goals as goal

pub returns-in-Some-2 : goal.returns-in-Some-2
returns-in-Some-2 g c = (
  table_view c.in-Some.row.now,
  table_at c.args.items.now c.loop-index.index c.index-items-index.result (table_view c.in-Some.row.now) c.loop-index-test.true c.index-items-index.is (sym c.in-Some.ensures),
  subst (λ (o : Option g.row.S-Found.Denot). IfSome o (g.S.TableSearch.is_found c.args.format (table_view c.in-Some.row.now))) c.in-Some-2.is c.in_ok-found.ensures,
)
