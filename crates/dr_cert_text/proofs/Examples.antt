-- The certificate of the empty plan.
use Rattle.std.proofs.Common.{◌≡◌, ◌<◌, refl, arith, nat_lt, true}
use Rattle.std.proofs.lemmas.List.Sums.{AllPass-from_list_all}
use Rattle.std.proofs.lemmas.List.Elements.{All-nil, All-weaker}
use borrow.Author.Tests.{ltb-true}
use Rattle.hex.specs.Hex.{encode_with}
use Rattle.dr_cert_text.specs.Laws.{TextOfTheEmptyPlan, empty_plan}
use Rattle.dr_cert_text.specs.Printable.{IsPrintable, IsPrintableLine, IsPrintableHop}

pub empty_plan_text : TextOfTheEmptyPlan
unfolding encode_with
empty_plan_text = refl

pub empty_plan_printable : IsPrintable empty_plan
empty_plan_printable = record {
  digest = (refl, All-weaker (λ b. nat_lt b 256 ≡ true) (λ b. b < 256) (λ b h. ltb-true b 256 h) empty_plan.digest (AllPass-from_list_all (λ b. nat_lt b 256) empty_plan.digest refl));
  hops = All-nil IsPrintableHop;
  lines = All-nil IsPrintableLine;
  few = omega arith;
}
