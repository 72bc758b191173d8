use Rattle.dr_base.proofs.RunLemmas.{run_same, run_later, starts_then}
use Rattle.dr_base.proofs.laws.a_text_has_one_run.Goals as goal

pub returns-clause-same : goal.returns-clause-same
returns-clause-same g c = run_same g.P.TextPart.starts

pub returns-clause-front : goal.returns-clause-front
returns-clause-front g c = run_later g.P.TextPart.starts

pub returns-clause-next : goal.returns-clause-next
returns-clause-next g c = λ parts xs ys text mid some r q.
    let f = starts_then g.P.TextPart.starts parts xs ys text mid some r q in (f.0.0, f.0.1, f.1)
