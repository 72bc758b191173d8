use Rattle.std.proofs.Common.{List, subst}
use Rattle.std.specs.List.{AllZip}
use Rattle.dr_world.specs.Orders.{OrdersChange, OrdersRefusal}
use Rattle.dr_world.specs.declared.order.WorldOrder.{WorldOrder}
use Rattle.dr_world.specs.declared.fault.WorldFault.{WorldFault}
use Rattle.dr_world_script.specs.declared.act.Act.{Act}
use Rattle.dr_word_simulate.specs.Orders.{IsOrderOf, StopsAt}
use Rattle.dr_word_simulate.specs.Reported.{IsReportAfter, IsUnreported}
use Rattle.dr_word_simulate.proofs.Doing.{has_change, stopped, stops_at_line}
use Rattle.dr_word_simulate.proofs.outcome.outcome_of.Goals as goal

pub outcome_of_stop-requires : goal.outcome_of_stop-requires
outcome_of_stop-requires g c =
    let stop = c.in-Err.stop in
    let P : List Act → Type 0 = λ acts. StopsAt (g.F.Files.holds c.args.files.now) acts stop.place stop.fault in
    stops_at_line (g.F.Files.holds c.args.files.now) c.args.text.now c.in-Ok.acts stop.place stop.fault c.in-Ok.ensures (subst P c.into_vec.ensures c.in-Err.ensures)

pub returns-in-Err : goal.returns-in-Err
returns-in-Err g c =
    let stop = c.in-Err.stop in
    let P : List Act → Type 0 = λ acts. StopsAt (g.F.Files.holds c.args.files.now) acts stop.place stop.fault in
    stopped (g.F.Files.holds c.args.files.now) c.args.sealed.now.plan c.args.sealed.now.certificate c.args.text.now c.in-Ok.acts stop.place stop.fault c.outcome_of_stop.result c.in-Ok.ensures
    (subst P c.into_vec.ensures c.in-Err.ensures) c.outcome_of_stop.ensures

pub returns-in-Ok-report_after : goal.returns-in-Ok-report_after
returns-in-Ok-report_after g c =
    let P : List Act → Type 0 = λ acts. AllZip (IsOrderOf (g.F.Files.holds c.args.files.now)) acts c.in-Ok-orders_of.orders.items in
    let Q : List WorldOrder → Type 0 = λ orders. IsReportAfter c.args.sealed.now.plan c.args.sealed.now.certificate orders c.in-Ok-report_after.report in
    record {
      acts = c.in-Ok.acts;
      told = c.in-Ok.ensures;
      orders = c.in-Ok-orders_of.orders.items;
      ordered = subst P c.into_vec.ensures c.in-Ok-orders_of.ensures;
      reported = subst Q c.as_slice.ensures.value c.in-Ok-report_after.ensures.reports;
    }

pub returns-in-Err-HalfAdopted : goal.returns-in-Err-HalfAdopted
returns-in-Err-HalfAdopted g c =
    let P : List Act → Type 0 = λ acts. AllZip (IsOrderOf (g.F.Files.holds c.args.files.now)) acts c.in-Ok-orders_of.orders.items in
    let Q : List WorldOrder → Type 0 = λ orders. OrdersChange orders × OrdersRefusal orders in
    let F : WorldFault → Type 0 = λ why. IsUnreported c.as_slice.result.now why in
    has_change (g.F.Files.holds c.args.files.now) c.args.text.now c.in-Ok.acts c.in-Ok-orders_of.orders.items c.in-Ok.ensures (subst P c.into_vec.ensures c.in-Ok-orders_of.ensures)
    (subst Q c.as_slice.ensures.value (subst F c.in-Err-HalfAdopted.field-0-is c.in-Err-HalfAdopted.ensures.unreported))
