use Rattle.std.proofs.Common.{◌<◌, refl, sym, ◌∙◌, subst, rules}
use Rattle.dr_plan_model.specs.Networks.{Network}
use Rattle.dr_plan_entries.specs.Visiting.{VisitorGoesOn, FindsAt, IsEntryCell}
use Rattle.dr_cert.specs.Conditions.{HasEachLine}
use Rattle.dr_cert.specs.Walking.{IsWalking, HasVisited, ShowsMissing}
use Rattle.dr_cert.specs.declared.walker.Walker.{Walker}
use Rattle.dr_cert.proofs.Walks.{Visits, same_lines, found, found_at, missing_at}
use Rattle.dr_cert.proofs.walk.walk_lines.Goals as goal

pub returns-in-Some : goal.returns-in-Some
returns-in-Some c =
    let start : Walker = c.in_ok-walker.walker in
    let at : FindsAt (λ (w : Walker). w.plan.now) IsWalking HasVisited ShowsMissing (IsEntryCell c.args.plan.now) start c.in-Some.field-0 = rw c.in-Some.is at c.in_ok-visit_entries.ensures in
    let shown : (c.in-Some.field-0.count < 18446744073709551616 → HasEachLine start.plan.now start.lines.now → ⊥) = (at.earlier.shown c.in-Some.field-0 at.site at.cell at.shown).1 in
    missing_at start c.args.plan.now c.args.lines.now c.in_ok-walker.ensures.plan c.in_ok-walker.ensures.lines (shown (search rules))

pub returns-in_default : goal.returns-in_default
returns-in_default c =
    let start : Walker = c.in_ok-walker.walker in
    let mid : Walker = c.visit_entries.new.visitor in
    let P : Network → Type 0 = λ p. VisitorGoesOn (λ (w : Walker). w.plan.now) IsWalking HasVisited ShowsMissing (IsEntryCell p) start mid in
    let went : Visits start mid = subst P (sym c.in_ok-walker.ensures.plan) (rw c.in-None.is at c.in_ok-visit_entries.ensures) in
    missing_at mid c.args.plan.now c.args.lines.now (went.same_plan ∙ c.in_ok-walker.ensures.plan) (same_lines start mid went ∙ c.in_ok-walker.ensures.lines) (rw c.in_default.is at c.in_ok-survey.ensures)

pub returns : goal.returns
returns c =
    let start : Walker = c.in_ok-walker.walker in
    let mid : Walker = c.visit_entries.new.visitor in
    let P : Network → Type 0 = λ p. VisitorGoesOn (λ (w : Walker). w.plan.now) IsWalking HasVisited ShowsMissing (IsEntryCell p) start mid in
    let went : Visits start mid = subst P (sym c.in_ok-walker.ensures.plan) (rw c.in-None.is at c.in_ok-visit_entries.ensures) in
    found_at mid c.args.plan.now c.args.lines.now _ (went.same_plan ∙ c.in_ok-walker.ensures.plan) (same_lines start mid went ∙ c.in_ok-walker.ensures.lines)
    (found start mid c.walk.new.self went c.in-Some-2.survey (rw c.in-Some-2.is at c.in_ok-survey.ensures) _ refl c.has_all.ensures)
