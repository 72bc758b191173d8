use Rattle.std.proofs.Common.{sym, subst, rules}
use Rattle.dr_base.specs.Texts.{Text}
use Rattle.dr_plan_model.specs.Walks.{IsEntry, IsReached}
use Rattle.dr_plan_model.specs.Networks.{Network}
use Rattle.dr_plan_sound.specs.Soundness.{IsRank}
use Rattle.dr_plan_sound.proofs.Hopping.{reached_entry}
use Rattle.dr_cert_trace.proofs.tracing.trace.Goals as goal

pub returns-in_default : goal.returns-in_default
returns-in_default c entry =
    let plan = c.args.sealed.now.plan in
    let site = c.args.site.now in
    c.in_default.ensures (subst (λ (t : Text). IsReached plan c.args.key.now t site) (sym c.in_ok-caller.ensures) (reached_entry plan c.args.key.now site entry))

pub follow-requires-clause-rank : goal.follow-requires-clause-rank
follow-requires-clause-rank c =
    subst (λ (t : Text). IsRank c.args.sealed.now.plan c.args.key.now t c.args.site.now c.in-Some.rank) c.in_ok-caller.ensures c.in-Some.ensures.1

pub follow-requires-clause-enters : goal.follow-requires-clause-enters
follow-requires-clause-enters c = subst (λ (p : Network). IsEntry p c.args.site.now c.args.key.now) c.plan.ensures.same (c.in_ok-is_entry.ensures.0 (search rules))
