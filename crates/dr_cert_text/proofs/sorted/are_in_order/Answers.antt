use Rattle.std.proofs.Common.{◌≡◌, ◌∙◌, subst, List}
use Rattle.std.specs.Prelude.{◌↔◌, AllPairs, IsTrue}
use Rattle.std.specs.declared.cmp.Ordering.TheVariants.{Less}
use Rattle.dr_base.specs.Texts.{Text, text_cmp}
use Rattle.dr_cert_text.proofs.Sorting.{AllPairs-map, AllPairs-unmap}
use Rattle.dr_cert_text.proofs.sorted.are_in_order.Goals as goal

pub returns : goal.returns
returns g c =
    let P : List Text → Type 0 = λ ts. IsTrue c.ascend.result ↔ AllPairs (λ a b. text_cmp a b ≡ Less) ts in
    let h = subst P (c.as_slice.ensures.value ∙ c.in_ok-texts.ensures) c.ascend.ensures in (
      (λ t. AllPairs-unmap g.P.Printed.printed (λ a b. text_cmp a b ≡ Less) c.args.items.now (h.0 t)),
      (λ all. h.1 (AllPairs-map g.P.Printed.printed (λ a b. text_cmp a b ≡ Less) c.args.items.now all)),
    )
