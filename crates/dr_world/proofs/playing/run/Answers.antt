use Rattle.std.proofs.Common.{List, subst, sym}
use Rattle.dr_base.specs.Texts.{Text}
use Rattle.dr_plan_model.specs.Networks.{Network}
use Rattle.dr_plan_model.specs.Plans.{AreNames}
use Rattle.dr_site.specs.Sites.{IsCertified}
use Rattle.dr_world.specs.Orders.{OrdersChange, OrdersRefusal}
use Rattle.dr_world.specs.Played.{EndsEarly}
use Rattle.dr_world.proofs.Founded.{passed_on}
use Rattle.dr_world.proofs.Orders.{ordered_run}
use Rattle.dr_world.proofs.Played.{unfounded_early}
use Rattle.dr_world.proofs.playing.run.Goals as goal

pub returns-in_err-ledgers-clause-early : goal.returns-in_err-ledgers-clause-early
returns-in_err-ledgers-clause-early c =
    let of_plan : AreNames c.args.sealed.now.plan c.in_ok-names.names.items = subst (λ (p : Network). AreNames p c.in_ok-names.names.items) c.plan-plan.ensures.same c.in_ok-names.ensures in
    let names : AreNames c.args.sealed.now.plan c.as_slice.result.now = subst (λ (ns : List Text). AreNames c.args.sealed.now.plan ns) (sym c.as_slice.ensures.value) of_plan in
    passed_on c.from_residual-in_err-ledgers.result c.in_err-ledgers.field-0.0 (EndsEarly (OrdersChange c.args.orders.now × OrdersRefusal c.args.orders.now)) c.from_residual-in_err-ledgers.ensures.1
    (unfounded_early (OrdersChange c.args.orders.now × OrdersRefusal c.args.orders.now) c.args.sealed.now.plan c.as_slice.result.now c.in_err-ledgers.field-0.0 names c.in_err-ledgers.ensures.why)

pub returns-clause-runs : goal.returns-clause-runs
returns-clause-runs c =
    let certified : IsCertified c.args.sealed.now.plan c.args.sealed.now.certificate = record { formed = c.plan-plan.ensures.well_formed; sound = c.plan-plan.ensures.sound; certified = c.certificate-certificate.ensures.own } in
    ordered_run c.args.sealed.now.plan c.args.sealed.now.certificate certified c.in-Ok.world c.play_all.new.world c.args.orders.now c.in_ok-notes.notes c.in-Ok.ensures.reached c.in_ok-notes.ensures.plays (λ name n is. tt)
