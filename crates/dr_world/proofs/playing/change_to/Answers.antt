use Rattle.std.proofs.Common.{List, subst, sym}
use Rattle.dr_base.specs.Texts.{Text}
use Rattle.dr_plan_model.specs.Networks.{Network}
use Rattle.dr_world.specs.Adopted.{AreJoining}
use Rattle.dr_world.specs.Played.{EndsEarly}
use Rattle.dr_world.proofs.Founded.{passed_on}
use Rattle.dr_world.proofs.Played.{unjoined_early}
use Rattle.dr_world.proofs.playing.change_to.Goals as goal

pub returns-in_err-ledgers-clause-early : goal.returns-in_err-ledgers-clause-early
returns-in_err-ledgers-clause-early c =
    let of_plan : AreJoining c.args.next.now.plan c.args.world.now.nodes c.in_ok-names.names.items = subst (λ (p : Network). AreJoining p c.args.world.now.nodes c.in_ok-names.names.items) c.plan.ensures.same c.in_ok-names.ensures.joining in
    let names : AreJoining c.args.next.now.plan c.args.world.now.nodes c.as_slice.result.now = subst (λ (ns : List Text). AreJoining c.args.next.now.plan c.args.world.now.nodes ns) (sym c.as_slice.ensures.value) of_plan in
    passed_on c.from_residual-in_err-ledgers.result c.in_err-ledgers.field-0.0 (EndsEarly (Unit {0})) c.from_residual-in_err-ledgers.ensures.1
    (unjoined_early c.args.next.now.plan c.args.world.now.nodes c.as_slice.result.now c.in_err-ledgers.field-0.0 names c.in_err-ledgers.ensures.why)
