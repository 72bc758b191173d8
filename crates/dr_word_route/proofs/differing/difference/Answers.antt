use Rattle.std.proofs.Common.{◌≡◌, ◌↔◌, subst, List, IsTrue}
use Rattle.std.specs.Prelude.{flat_map}
use Rattle.dr_cert_diff.specs.Differing.{LosesSome}
use Rattle.dr_cert_diff.specs.Rows.{change_rows}
use Rattle.dr_cert_diff.specs.declared.change.RouteChange.{RouteChange}
use Rattle.dr_word_route.proofs.differing.difference.Goals as goal

pub returns : goal.returns
returns c = (
  c.in_ok-all.all.items,
  c.in_ok-all.ensures,
  subst (λ (xs : List RouteChange). c.in_ok-text.text ≡ flat_map change_rows xs) c.as_slice.ensures.value c.in_ok-text.ensures,
  subst (λ (xs : List RouteChange). IsTrue c.has_lost.result ↔ LosesSome xs) c.as_slice-2.ensures.value c.has_lost.ensures,
)
