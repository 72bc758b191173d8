use Rattle.std.proofs.Common.{◌≡◌, ℕ, List, ◌++◌, sym, ap, subst, ◌∙◌}
use Rattle.dr_base.specs.Texts.{Text}
use Rattle.dr_world.specs.Reports.{IsReported, books_of}
use Rattle.dr_world.proofs.Founded.{passed_on}
use Rattle.dr_word_simulate.specs.Reported.{IsUnreported, notes_of, refusals_of}
use Rattle.dr_word_simulate.proofs.Doing.{ended_early}
use Rattle.dr_word_simulate.proofs.Reporting.{reported_after}
use Rattle.dr_word_simulate.proofs.outcome.report_after.Goals as goal

pub returns-in-Ok-clause-reports : goal.returns-in-Ok-clause-reports
returns-in-Ok-clause-reports c =
    let w = c.in_ok-world.field-0.world in
    let changes = c.in_ok-world.field-0.notes.changes in
    let refusals = c.in_ok-world.field-0.notes.refusals in
    let others = c.in_ok-world.field-0.notes.others in
    let first : c.tell_changes.new.out.items ≡ notes_of changes =
    c.in_ok-tell_changes.ensures ∙ (ap (λ (t : List ℕ). t ++ notes_of c.as_slice.result.now) c.new-report.ensures.items ∙ ap notes_of c.as_slice.ensures) in
    let wrote : c.tell_refusals.new.out.items ≡ notes_of changes ++ refusals_of refusals =
    c.in_ok-tell_refusals.ensures ∙ (ap (λ (t : List ℕ). t ++ refusals_of c.as_slice-2.result.now) first ∙ ap (λ (t : List ℕ). notes_of changes ++ t) (ap refusals_of c.as_slice-2.ensures)) in
    let Behind : List Text × List ℕ → Type 0 = λ p. IsReported p.0 (books_of w.nodes) p.1 c.report-told.new.out.items in
    let Is : List ℕ → Type 0 = λ text. IsReported others (books_of w.nodes) (notes_of changes ++ refusals_of refusals) text in
    reported_after (λ v name n is. tt) c.args.sealed.now.plan c.args.sealed.now.certificate c.args.orders.now changes refusals others w c.from_vec.result c.in_ok-world.ensures.runs
    (subst Is (sym c.from_vec.ensures) (subst Behind (λ j. (c.as_slice-3.ensures j, wrote j)) (c.in-Ok.ensures.reports (λ name n is. tt))))

pub returns-in_err-world-clause-unreported : goal.returns-in_err-world-clause-unreported
returns-in_err-world-clause-unreported c =
    passed_on c.from_residual.result c.in_err-world.field-0.0 (IsUnreported c.args.orders.now) c.from_residual.ensures.1
    (ended_early c.args.orders.now c.in_err-world.field-0.0 c.in_err-world.ensures.early)
