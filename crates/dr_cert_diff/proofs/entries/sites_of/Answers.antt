use Rattle.std.proofs.Common.{sym, subst, List, Contains}
use Rattle.dr_plan_model.specs.declared.plan.Flow.{Flow}
use Rattle.dr_cert_diff.proofs.entries.sites_of.Goals as goal

pub returns : goal.returns
returns c =
    let same = c.in_ok-sites.ensures.same in (
      λ flow among. (same flow.at).1 (c.in_ok-add_sites-2.ensures.kept flow.at (c.in_ok-add_sites.ensures.all flow (subst (λ (fs : List Flow). Contains fs flow) (sym c.flows.ensures.same) among))),
      λ flow among. (same flow.at).1 (c.in_ok-add_sites-2.ensures.all flow (subst (λ (fs : List Flow). Contains fs flow) (sym c.flows-2.ensures.same) among)),
    )
