use Rattle.std.proofs.Common.{sym, subst}
use Rattle.dr_dataset.specs.declared.hearing.Scan.{Scan}
use Rattle.dr_dataset.specs.Hearing.{Hears}
use Rattle.dr_dimse_scan.proofs.heard.finish.Goals as goal

pub returns : goal.returns
returns c = λ s text h. c.finish.ensures.scans s text (subst (λ (x : Scan). Hears s text x) (sym c.deref_mut.ensures.value) h)
