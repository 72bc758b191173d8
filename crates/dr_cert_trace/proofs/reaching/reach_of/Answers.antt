use Rattle.std.proofs.Common.{sym, subst, rules, ◌∷◌, []}
use Rattle.dr_base.specs.Texts.{Text}
use Rattle.dr_plan_model.specs.Walks.{IsEntry, IsReached}
use Rattle.dr_plan_model.specs.Networks.{Network}
use Rattle.dr_plan_sound.specs.Soundness.{IsRank}
use Rattle.dr_plan_sound.proofs.Hopping.{reached_entry}
use Rattle.dr_cert_trace.specs.Reaches.{IsReach}
use Rattle.dr_cert_trace.proofs.reaching.reach_of.Goals as goal

pub returns-in_default : goal.returns-in_default
returns-in_default c = λ entry.
    let plan = c.args.sealed.now.plan in
    let site = c.args.site.now in
    c.in_default.ensures (subst (λ (t : Text). IsReached plan c.args.key.now t site) (sym c.in_ok-caller.ensures) (reached_entry plan c.args.key.now site entry))

pub reach_within-requires-clause-enters : goal.reach_within-requires-clause-enters
reach_within-requires-clause-enters c =
    let E : Network → Type 0 = λ p. IsEntry p c.args.site.now c.args.key.now in
    subst E (sym c.plan-2.ensures.same) (subst E c.plan.ensures.same (c.in_ok-is_entry.ensures.0 (search rules)))

pub reach_within-requires-clause-rank : goal.reach_within-requires-clause-rank
reach_within-requires-clause-rank c =
    subst (λ (p : Network). IsRank p c.args.key.now (45 ∷ []) c.args.site.now c.in-Some.rank) (sym c.plan-2.ensures.same)
    (subst (λ (t : Text). IsRank c.args.sealed.now.plan c.args.key.now t c.args.site.now c.in-Some.rank) c.in_ok-caller.ensures c.in-Some.ensures.1)
