use Rattle.std.proofs.Common.{◌↔◌, drop}
use Rattle.dr_route.specs.Routes.{AcceptsBy}
use Rattle.dr_route.proofs.accept.accepts.Given as goal

abbrev pub invariant-loop-row : goal.invariant-loop-row
invariant-loop-row l = AcceptsBy (drop l.row-index l.rows) l.caller l.class l.syntax ↔ AcceptsBy l.rows l.caller l.class l.syntax
