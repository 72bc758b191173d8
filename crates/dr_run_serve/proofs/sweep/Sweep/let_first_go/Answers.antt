use Rattle.std.proofs.Common.{◌≡◌, sym, ap, ◌∙◌, List, ◌∷◌, drop}
use Rattle.dr_run_serve.specs.declared.sweep.OverInstance.{OverInstance}
use Rattle.dr_run_serve.proofs.sweep.Sweep.let_first_go.Goals as goal

pub returns : goal.returns
returns c = λ one rest is. is ∙ sym (ap (λ (more : List OverInstance). one ∷ more) (c.pop_front-gone.ensures.rest ∙ ap (drop 1) is))
