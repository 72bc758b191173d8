use Rattle.std.proofs.Common.{◌∙◌, sym}
use Rattle.std.proofs.lemmas.Bool.{false≢true}
use Rattle.dr_run_serve.proofs.Telling.{told_shut, told_so}
use Rattle.dr_run_serve.proofs.sender.fault_of.Goals as goal

pub returns-then-is_shut : goal.returns-then-is_shut
returns-then-is_shut g c =
    let s = c.is_shut.ensures in
    (s.0, s.1, s.2, told_shut s.1 c.args.fault (s.3.0 c.if-is_shut.true))

pub returns : goal.returns
returns g c =
    let s = c.is_shut.ensures in
    (s.0, s.1, s.2, told_so s.1 c.args.fault (λ is. false≢true (sym c.if-is_shut.false ∙ s.3.1 is)))
