use Rattle.std.proofs.Common.{◌≡◌, ◌≢◌, sym, ◌∙◌, ap, subst, List}
use Rattle.std.specs.Prelude.{AllPairs}
use Rattle.dr_plan_model.specs.Networks.{Network}
use Rattle.dr_plan_sound.specs.declared.certificate.Line.{Line}
use Rattle.dr_plan_sound.specs.Ranked.{AreRanked}
use Rattle.dr_plan_entries.specs.Visiting.{VisitorGoesOn, FindsAt, IsEntryCell}
use Rattle.dr_check.specs.Stopping.{IsStoppedAt}
use Rattle.dr_check.proofs.Entered.{stops_first}
use Rattle.dr_check.specs.declared.checker.Checker.{Checker}
use Rattle.dr_check.specs.Checking.{CheckerIsReady, HasVisited, ShowsStopped}
use Rattle.dr_check.specs.Answering.{AreFew}
use Rattle.dr_check.proofs.Ready.{are_ranked, are_few, are_apart}
use Rattle.dr_check.proofs.verdict.check.Goals as goal

pub judged-requires-clause-ranked : goal.judged-requires-clause-ranked
judged-requires-clause-ranked c =
    let end : Checker = c.visit_entries.new.visitor in
    let went : VisitorGoesOn (λ (v : Checker). v.plan.now) CheckerIsReady HasVisited ShowsStopped (IsEntryCell c.args.plan.now) c.in_ok-checker.checker end = rw c.in-None.is at c.in_ok-stopped.ensures in
    let same : end.plan.now ≡ c.args.plan.now = went.same_plan ∙ c.in_ok-checker.ensures.plan in
    let P : Network → Type 0 = λ plan. (site : _) (cell : _) → IsEntryCell plan site cell → HasVisited end site cell in
    let Q : Network → Type 0 = λ plan. AreRanked plan c.into_lines.result.items in
    let R : List Line → Type 0 = λ lines. AreRanked end.plan.now lines in
    subst Q same (subst R (sym (ap (λ v. v.items) c.into_lines.ensures)) (are_ranked end went.is_ready (subst P (sym same) went.wanted)))

pub judged-requires-clause-apart : goal.judged-requires-clause-apart
judged-requires-clause-apart c =
    let end : Checker = c.visit_entries.new.visitor in
    let went : VisitorGoesOn (λ (v : Checker). v.plan.now) CheckerIsReady HasVisited ShowsStopped (IsEntryCell c.args.plan.now) c.in_ok-checker.checker end = rw c.in-None.is at c.in_ok-stopped.ensures in
    let R : List Line → Type 0 = λ lines. AllPairs (λ a b. a ≢ b) lines in
    subst R (sym (ap (λ v. v.items) c.into_lines.ensures)) (are_apart end went.is_ready)

pub judged-requires-clause-few : goal.judged-requires-clause-few
judged-requires-clause-few c =
    let end : Checker = c.visit_entries.new.visitor in
    let went : VisitorGoesOn (λ (v : Checker). v.plan.now) CheckerIsReady HasVisited ShowsStopped (IsEntryCell c.args.plan.now) c.in_ok-checker.checker end = rw c.in-None.is at c.in_ok-stopped.ensures in
    let R : List Line → Type 0 = λ lines. AreFew lines in
    subst R (sym (ap (λ v. v.items) c.into_lines.ensures)) (are_few end went.is_ready)

pub returns-in-Some : goal.returns-in-Some
returns-in-Some c =
    let start : Checker = c.in_ok-checker.checker in
    let at : FindsAt (λ (v : Checker). v.plan.now) CheckerIsReady HasVisited ShowsStopped (IsEntryCell c.args.plan.now) start c.in-Some.stopped = rw c.in-Some.is at c.in_ok-stopped.ensures in
    let same : at.there.plan.now ≡ c.args.plan.now = at.earlier.same_plan ∙ c.in_ok-checker.ensures.plan in
    let P : Network → Type 0 = λ plan. IsStoppedAt plan c.in-Some.stopped at.site at.cell in
    c.answer_to.ensures c.args.plan.now at.site at.cell (subst P same at.shown) (stops_first c.args.plan.now start c.in-Some.stopped c.in_ok-checker.ensures.plan at)
