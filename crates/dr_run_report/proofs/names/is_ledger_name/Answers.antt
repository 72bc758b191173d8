use Rattle.std.proofs.Common.{◌≡◌, ◌++◌, ap, inl, inr, sym, subst, ◌∙◌}
use Rattle.std.proofs.lemmas.Bool.{false≢true}
use Rattle.std.proofs.lemmas.List.{append_cancel_right}
use Rattle.dr_base.specs.Texts.{Text}
use Rattle.dr_run_report.specs.Names.{IsOwnName}
use Rattle.dr_run_report.proofs.names.is_ledger_name.Goals as goal

pub returns-in-Some : goal.returns-in-Some
returns-in-Some c =
    let at = c.in-Some.ensures ∙ ap (λ (end : Text). c.in-Some.front.now ++ end) c.as_slice.ensures in (
      λ is. inr (c.in-Some.front.now, c.is_own_name-in-Some.ensures.0 is, at),
      λ named. elim named [
        | inl own ↦ absurd (false≢true (sym c.if-is_own_name.false ∙ c.is_own_name.ensures.1 own))
        | inr new ↦ c.is_own_name-in-Some.ensures.1 (subst (λ (front : Text). IsOwnName c.args.database.now front) (append_cancel_right new.0 c.in-Some.front.now _ (sym new.2 ∙ at)) new.1)
      ],
    )
