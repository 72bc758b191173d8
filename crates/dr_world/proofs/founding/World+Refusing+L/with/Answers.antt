use Rattle.std.proofs.Common.{List, inr, sym, subst}
use Rattle.dr_base.specs.Texts.{Text}
use Rattle.dr_plan_model.specs.Networks.{Network}
use Rattle.dr_plan_model.specs.Plans.{AreNames}
use Rattle.dr_world.specs.Founding.{HasCause, IsUnfit}
use Rattle.dr_world.proofs.Founded.{passed_on, reached}
use Rattle.dr_world.proofs.founding.World+Refusing+L.with.Goals as goal

pub returns-clause-reached : goal.returns-clause-reached
returns-clause-reached g c =
    let of_plan : AreNames c.args.sealed.now.plan c.in_ok-names.names.items = subst (λ (p : Network). AreNames p c.in_ok-names.names.items) c.plan.ensures.same c.in_ok-names.ensures in
    let names : AreNames c.args.sealed.now.plan c.as_slice.result.now = subst (λ (ns : List Text). AreNames c.args.sealed.now.plan ns) (sym c.as_slice.ensures.value) of_plan in
    reached c.args.sealed.now.plan c.args.sealed.now.certificate c.as_slice.result.now c.in_ok-nodes.nodes c.in_ok-nodes.ensures.founded
    c.of_nodes.result c.of_nodes.ensures.nodes c.of_nodes.ensures.time c.of_nodes.ensures.opened c.of_nodes.ensures.wires names

pub returns-in_err-nodes-clause-cause : goal.returns-in_err-nodes-clause-cause
returns-in_err-nodes-clause-cause g c =
    let of_plan : AreNames c.args.sealed.now.plan c.in_ok-names.names.items = subst (λ (p : Network). AreNames p c.in_ok-names.names.items) c.plan.ensures.same c.in_ok-names.ensures in
    let names : AreNames c.args.sealed.now.plan c.as_slice.result.now = subst (λ (ns : List Text). AreNames c.args.sealed.now.plan ns) (sym c.as_slice.ensures.value) of_plan in
    let unfit = IsUnfit g.L.Ledger.trusts g.L.Ledger.stands g.L.Ledger.book g.L.Ledger.site g.L.Ledger.failed in
    passed_on c.from_residual-in_err-nodes.result c.in_err-nodes.field-0.0 (HasCause unfit c.args.sealed.now.plan c.args.sealed.now.certificate c.args.ledgers.items) c.from_residual-in_err-nodes.ensures.1
    (inr (c.as_slice.result.now, names, inr c.in_err-nodes.ensures.unfit))
