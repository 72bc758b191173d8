use Rattle.std.proofs.Common.{refl, ap, subst}
use Rattle.std.specs.BTreeMap as tree
use Rattle.dr_base.specs.Texts.{text_cmp}
use Rattle.dr_ledger.specs.declared.refusing.Refusing.{Refusing}
use Rattle.dr_session.specs.Ledgers.{desk}
use Rattle.dr_world.specs.declared.steps.StepNote.TheVariants.{Done, Skipped}
use Rattle.dr_world.specs.Whole.{IsToldToRefuse}
use Rattle.dr_world.proofs.Calling.{called, uncalled, there}
use Rattle.dr_world.proofs.Stepping.{told_to_refuse}
use Rattle.dr_world.proofs.world.World+Refusing+L.refuse.Goals as goal

pub returns-in_default-clause-calls : goal.returns-in_default-clause-calls
returns-in_default-clause-calls g c = uncalled IsToldToRefuse c.args.self.now c.get_mut.follows.lender-at-none c.args.name.now c.in_default.ensures.value c.get_mut.follows.holds-at-none

pub returns-in_default-clause-step : goal.returns-in_default-clause-step
returns-in_default-clause-step g c =
    told_to_refuse c.args.self.now (record { alloc = c.args.self.now.alloc; time = c.args.self.now.time; opened = c.args.self.now.opened; nodes = c.get_mut.follows.lender-at-none; wires = c.args.self.now.wires; lost = c.args.self.now.lost }) Skipped c.args.name.now
    (uncalled IsToldToRefuse c.args.self.now c.get_mut.follows.lender-at-none c.args.name.now c.in_default.ensures.value c.get_mut.follows.holds-at-none)

pub returns-clause-calls : goal.returns-clause-calls
returns-clause-calls g c =
    let new = c.refuse_next.new.self in
    called IsToldToRefuse c.args.self.now (c.get_mut.follows.lender new) c.args.name.now c.in-Some.node.now new Done c.in-Some.ensures.value
    ((c.get_mut.follows.holds new).3 (there (tree.get text_cmp c.args.self.now.nodes c.args.name.now) c.in-Some.node.now c.in-Some.ensures.value)).0
    c.refuse_next.ensures.links (ap (λ (r : Refusing g.row.L.Denot). g.L.Ledger.site r.ledger) c.refuse_next.ensures.armed)
    (λ s. subst (λ (r : Refusing g.row.L.Denot). g.L.Ledger.stands r.ledger) c.refuse_next.ensures.armed s)
    (λ s. (refl, ap (λ (r : Refusing g.row.L.Denot). desk (g.L.Ledger.book r.ledger) r.refusals.is_due) c.refuse_next.ensures.armed))

pub returns-clause-step : goal.returns-clause-step
returns-clause-step g c =
    let new = c.refuse_next.new.self in
    told_to_refuse c.args.self.now (record { alloc = c.args.self.now.alloc; time = c.args.self.now.time; opened = c.args.self.now.opened; nodes = c.get_mut.follows.lender new; wires = c.args.self.now.wires; lost = c.args.self.now.lost }) Done c.args.name.now
    (called IsToldToRefuse c.args.self.now (c.get_mut.follows.lender new) c.args.name.now c.in-Some.node.now new Done c.in-Some.ensures.value
    ((c.get_mut.follows.holds new).3 (there (tree.get text_cmp c.args.self.now.nodes c.args.name.now) c.in-Some.node.now c.in-Some.ensures.value)).0
    c.refuse_next.ensures.links (ap (λ (r : Refusing g.row.L.Denot). g.L.Ledger.site r.ledger) c.refuse_next.ensures.armed)
    (λ s. subst (λ (r : Refusing g.row.L.Denot). g.L.Ledger.stands r.ledger) c.refuse_next.ensures.armed s)
    (λ s. (refl, ap (λ (r : Refusing g.row.L.Denot). desk (g.L.Ledger.book r.ledger) r.refusals.is_due) c.refuse_next.ensures.armed)))
