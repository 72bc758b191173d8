use Rattle.std.proofs.Common.{◌↔◌, sym, subst, List, Option, Contains}
use Rattle.dr_base.specs.Texts.{Text}
use Rattle.dr_route.specs.Routes.{local}
use Rattle.dr_plan_model.specs.Walks.{IsDestination, IsEntry}
use Rattle.dr_cert_trace.specs.declared.reaching.Reach.{Reach}
use Rattle.dr_cert_trace.specs.Reaches.{IsReach, Reaches}
use Rattle.dr_cert_diff.proofs.Finding.{destination_enters}
use Rattle.dr_cert_diff.proofs.comparing.keepers.Goals as goal

pub returns-in_ok-names-in-Some-clause-same : goal.returns-in_ok-names-in-Some-clause-same
returns-in_ok-names-in-Some-clause-same c = λ dest.
    let plan = c.args.sealed.now.plan in
    let is : IsReach plan c.args.site.now c.args.key.now c.in-Some.reach = subst (λ (o : Option Reach). Reaches plan c.args.site.now c.args.key.now o) c.in-Some.is c.in_ok-reach.ensures in
    subst (λ (xs : List Text). Contains xs dest ↔ IsDestination plan local c.args.site.now c.args.key.now dest) (sym c.in_ok-names-in-Some.ensures) (is.keeps dest)

pub returns-in_ok-names-in-None-clause-same : goal.returns-in_ok-names-in-None-clause-same
returns-in_ok-names-in-None-clause-same c = λ dest.
    let plan = c.args.sealed.now.plan in
    let none : IsEntry plan c.args.site.now c.args.key.now → ⊥ = subst (λ (o : Option Reach). Reaches plan c.args.site.now c.args.key.now o) c.in-None.is c.in_ok-reach.ensures in (
      λ h. absurd (c.in_ok-names-in-None.ensures.none dest h),
      λ d. absurd (none (destination_enters plan c.args.site.now c.args.key.now dest d)),
    )
