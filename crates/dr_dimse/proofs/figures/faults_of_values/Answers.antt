use Rattle.std.proofs.Common.{refl, inl, arith}
use Rattle.std.proofs.lemmas.List.{length-append}
use Rattle.dr_dimse.proofs.figures.faults_of_values.Goals as goal

pub returns : goal.returns
returns c = record {
  data_first = (refl, inl (tt, λ e. absurd (cc)));
  contexts = (refl, λ e. absurd (omega (arith, e)));
  within = (refl, inl (refl, λ e. absurd (cc)));
  longest = λ text more is one. (refl, (refl, refl), refl, omega (arith, is, one, length-append text more));
}
