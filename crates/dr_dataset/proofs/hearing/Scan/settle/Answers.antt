use Rattle.std.proofs.Common.{ap, ◌∙◌, Some, List, ℕ, subst, length, ◌≤◌}
use Rattle.dr_dataset.specs.Wholes.{whole}
use Rattle.dr_dataset.specs.declared.hearing.ScanPlace.TheVariants.{InValue}
use Rattle.dr_dataset.proofs.HearLemmas.{settles_item, settles_element}
use Rattle.dr_dataset.proofs.hearing.Scan.settle.Goals as goal

pub returns-in_default-tag-clause-hears : goal.returns-in_default-tag-clause-hears
returns-in_default-tag-clause-hears c =
    settles_item c.args.self.now c.in-InValue.missing (c.in-InValue.is ∙ ap (λ t. InValue t c.in-InValue.missing) c.in_default-tag.is) c.if-missing-gt0.false

pub returns-clause-hears : goal.returns-clause-hears
returns-clause-hears c =
    settles_element c.args.self.now c.in-Some.tag c.in-InValue.missing _ c.note.new.self (c.in-InValue.is ∙ ap (λ t. InValue t c.in-InValue.missing) c.in-Some.is) c.if-missing-gt0.false
    (c.at_top-whole.ensures.element ∙ ap (λ (x : List ℕ). whole c.args.self.now.scanner.stack c.in-Some.tag (Some x)) c.as_slice.ensures.value)
    (subst (λ (x : List ℕ). length x ≤ 1024) c.as_slice.ensures.value c.as_slice.ensures.fits) c.note.ensures
