use Rattle.std.proofs.Common.{◌≡◌, sym, subst, List, [], Contains}
use Rattle.dr_base.specs.Texts.{Text}
use Rattle.dr_plan_model.specs.Networks.{Network}
use Rattle.dr_plan_model.proofs.Gathered.{nothing_in_nil}
use Rattle.dr_cert_diff.specs.declared.change.RouteChange.{RouteChange}
use Rattle.dr_cert_diff.specs.Entering.{HasSites}
use Rattle.dr_cert_diff.specs.Going.{Adds, AtSite, Over}
use Rattle.dr_cert_diff.proofs.Finding.{enters_somewhere}
use Rattle.dr_cert_diff.proofs.going.changes.Goals as goal

pub returns : goal.returns
returns c =
    let old = c.args.old.now.plan in
    let new = c.args.new.now.plan in
    let sites = c.in_ok-sites.sites in
    let of_old : HasSites old sites = subst (λ (p : Network). HasSites p sites) c.plan.ensures.same c.in_ok-sites.ensures.0 in
    let of_new : HasSites new sites = subst (λ (p : Network). HasSites p sites) c.plan-2.ensures.same c.in_ok-sites.ensures.1 in
    let after = c.over_sites.new.changes.items in
    let adds : Adds old new (Over sites (AtSite old new)) c.new-changes.result.items after =
    subst (λ (xs : List Text). Adds old new (Over xs (AtSite old new)) c.new-changes.result.items after) c.as_slice.ensures c.in_ok-over_sites.ensures in
    record {
      right = adds.right (λ change among. absurd (nothing_in_nil change (subst (λ (xs : List RouteChange). Contains xs change) c.new-changes.ensures.items among)));
      whole = λ site key dest differs. adds.whole site key (enters_somewhere old new sites of_old of_new site key dest differs) dest differs;
    }
