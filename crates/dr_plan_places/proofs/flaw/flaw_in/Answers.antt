use Rattle.toml.specs.View.{table_view}
use Rattle.dr_plan_places.specs.FieldFlaws.{IsUnknown}
use Rattle.dr_plan_places.proofs.flaw.flaw_in.Goals as goal

pub returns-in-Some : goal.returns-in-Some
returns-in-Some g c =
    let unknown : IsUnknown (g.T.Inspected.is_table c.args.format) (table_view c.args.table.now) c.in-Some.key.now = rw c.in-Some.is at (c.unknown_in.ensures c.args.format) in
    rw (c.in_ok-flaw_at.ensures.0, c.in_ok-flaw_at.ensures.1) unknown
