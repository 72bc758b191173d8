use Rattle.std.proofs.Common.{◌≡◌, sym, ◌∙◌, subst, List, length}
use Rattle.std.proofs.lemmas.Bool.{eqb-true}
use Rattle.std.proofs.lemmas.List.{nil_from_length}
use Rattle.dr_plan_model.specs.Networks.{Network}
use Rattle.dr_plan_entries.specs.Visiting.{VisitorGoesOn, FindsAt, IsEntryCell}
use Rattle.dr_check.specs.declared.all.Gatherer.{Gatherer}
use Rattle.dr_check.specs.declared.fault.Fault.{Fault}
use Rattle.dr_check.specs.Gathering.{GathererIsReady, HasGathered, ShowsLarge}
use Rattle.dr_check.specs.AllFaults.{AreCovered}
use Rattle.dr_check.specs.Shown.{IsTooLarge}
use Rattle.dr_check.proofs.Gathered.{all_covered, each_told}
use Rattle.dr_check.proofs.Told.{all_gathered, some_gathered}
use Rattle.dr_check.proofs.all.all_faults.Goals as goal

pub returns-in-Some : goal.returns-in-Some
returns-in-Some c =
    let at : FindsAt
    (λ (v : Gatherer). v.plan.now) GathererIsReady HasGathered ShowsLarge
    (IsEntryCell c.args.plan.now) c.gatherer_of-gatherer.result c.in-Some.field-0 =
    rw c.in-Some.is at c.in_ok-visit_entries.ensures in
    let P : Network → Type 0 = λ plan. IsTooLarge plan in
    subst P (at.earlier.same_plan ∙ c.gatherer_of-gatherer.ensures.plan) at.shown

pub named_by_check-requires : goal.named_by_check-requires
named_by_check-requires c =
    let end : Gatherer = c.visit_entries.new.visitor in
    let went : VisitorGoesOn
    (λ (v : Gatherer). v.plan.now) GathererIsReady HasGathered ShowsLarge
    (IsEntryCell c.args.plan.now) c.gatherer_of-gatherer.result end =
    rw c.in-None.is at c.in_ok-visit_entries.ensures in
    let same : end.plan.now ≡ c.args.plan.now =
    went.same_plan ∙ c.gatherer_of-gatherer.ensures.plan in
    let P : List Fault → Type 0 = λ faults. AreCovered c.args.plan.now faults in
    subst P
    (nil_from_length end.faults
    (eqb-true (length end.faults) 0 (sym c.is_empty.ensures ∙ c.if-is_empty.true)))
    (all_covered c.args.plan.now end same went.wanted)

pub returns-else-is_empty : goal.returns-else-is_empty
returns-else-is_empty c =
    let end : Gatherer = c.visit_entries.new.visitor in
    let went : VisitorGoesOn
    (λ (v : Gatherer). v.plan.now) GathererIsReady HasGathered ShowsLarge
    (IsEntryCell c.args.plan.now) c.gatherer_of-gatherer.result end =
    rw c.in-None.is at c.in_ok-visit_entries.ensures in
    let same : end.plan.now ≡ c.args.plan.now =
    went.same_plan ∙ c.gatherer_of-gatherer.ensures.plan in
    all_gathered c.args.plan.now end.faults (each_told c.args.plan.now end same went.is_ready)
    (all_covered c.args.plan.now end same went.wanted)
    (some_gathered end.faults (sym c.is_empty.ensures ∙ c.if-is_empty.false))
