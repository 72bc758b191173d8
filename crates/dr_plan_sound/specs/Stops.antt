-- The order of stops.
use Rattle.std.specs.declared.cmp.Ordering.{Ordering}
use Rattle.dr_plan_sound.specs.declared.certificate.Stop.{Stop}
use Rattle.dr_plan_sound.specs.contracts.certificate.StopOrd.TheImpl as order

-- the order of stops: by caller, node and cell
abbrev pub stop_cmp : Stop → Stop → Ordering
stop_cmp = order.cmp-value.it
