use Rattle.std.proofs.Common.{[], sym, subst, ◌∙◌}
use Rattle.dr_dataset.specs.declared.hearing.Scan.{Scan}
use Rattle.dr_dataset.specs.Hearing.{Hears}
use Rattle.dr_dimse_scan.proofs.hearing.begin.Goals as goal

pub returns : goal.returns
returns c =
    c.feed.ensures.hears c.in-Some.syntax [] (subst (λ (x : Scan). Hears c.in-Some.syntax [] x) (sym (c.deref_mut.ensures.value ∙ c.in-Ok.ensures.ok)) c.new.ensures)
