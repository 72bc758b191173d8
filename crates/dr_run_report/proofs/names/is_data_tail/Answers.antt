use Rattle.std.proofs.Common.{◌≡◌, ◌++◌, ap, sym, subst, ◌∙◌}
use Rattle.std.specs.Prelude.{codes}
use Rattle.std.proofs.lemmas.Bool.{false≢true}
use Rattle.std.proofs.lemmas.List.{append_cancel_left}
use Rattle.dr_base.specs.Texts.{Text}
use Rattle.dr_run_report.specs.Names.{IsSide}
use Rattle.dr_run_report.proofs.names.is_data_tail.Goals as goal

pub returns-in-Some : goal.returns-in-Some
returns-in-Some c =
    let at = c.in-Some.ensures ∙ ap (λ (front : Text). front ++ c.in-Some.side.now) c.as_slice.ensures in (
      λ is. (c.in-Some.side.now, c.is_side.ensures.0 is, at),
      λ own. c.is_side.ensures.1 (subst (λ (side : Text). IsSide side) (append_cancel_left (codes ".data") own.0 c.in-Some.side.now (sym own.2 ∙ at)) own.1),
    )

pub returns-in-None : goal.returns-in-None
returns-in-None c = (
  λ h. absurd (false≢true h),
  λ own. absurd (c.in-None.ensures own.0 (own.2 ∙ ap (λ (front : Text). front ++ own.0) (sym c.as_slice.ensures))),
)
