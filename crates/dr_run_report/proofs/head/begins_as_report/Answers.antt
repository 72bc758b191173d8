use Rattle.std.proofs.Common.{◌≡◌, ◌++◌, ap, refl, sym, ◌∙◌}
use Rattle.dr_base.specs.Texts.{Text}
use Rattle.dr_run_report.proofs.head.begins_as_report.Goals as goal

pub returns-in-Some : goal.returns-in-Some
returns-in-Some c = (
  λ h. (c.in-Some.field-0.now, sym c.as_slice.ensures ∙ c.in-Some.ensures ∙ ap (λ (front : Text). front ++ c.in-Some.field-0.now) c.first_bytes.ensures),
  λ begins. refl,
)
