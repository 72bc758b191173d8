use Rattle.std.proofs.Common.{◌≡◌, ◌++◌, sym, subst, ◌∙◌}
use Rattle.std.proofs.lemmas.List.{append_cancel_left}
use Rattle.dr_base.specs.Texts.{Text}
use Rattle.dr_run_report.specs.Names.{IsTail}
use Rattle.dr_run_report.proofs.names.is_own_name.Goals as goal

pub returns-in-Some : goal.returns-in-Some
returns-in-Some c = (
  λ is. (c.in-Some.tail.now, c.is_tail.ensures.0 is, c.in-Some.ensures),
  λ own. c.is_tail.ensures.1 (subst (λ (tail : Text). IsTail tail) (append_cancel_left c.args.database.now own.0 c.in-Some.tail.now (sym own.2 ∙ c.in-Some.ensures)) own.1),
)
