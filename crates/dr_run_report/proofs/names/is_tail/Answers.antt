use Rattle.std.proofs.Common.{◌++◌, ap, inl, inr, sym, ◌∙◌}
use Rattle.std.proofs.lemmas.Bool.{false≢true}
use Rattle.dr_base.specs.Texts.{Text}
use Rattle.dr_run_report.proofs.names.is_tail.Goals as goal

pub returns-in-None : goal.returns-in-None
returns-in-None c = (
  λ h. absurd (false≢true h),
  λ tail. elim tail [
    | inl side ↦ absurd (false≢true (sym c.if-is_side.false ∙ c.is_side.ensures.1 side))
    | inr (inl data_sets) ↦ absurd (false≢true (sym c.if-is_data_tail.false ∙ c.is_data_tail.ensures.1 data_sets))
    | inr (inr part) ↦ absurd (c.in-None.ensures part.0 (part.1 ∙ ap (λ (front : Text). front ++ part.0) (sym c.as_slice.ensures)))
  ],
)
