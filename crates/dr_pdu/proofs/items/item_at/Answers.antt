use Rattle.std.proofs.Common.{arith, refl, ◌∙◌}
use Rattle.dr_pdu.proofs.ItemLemmas.{starts_at}
use Rattle.dr_pdu.proofs.items.item_at.Goals as goal

pub returns : goal.returns
returns c =
    let s = starts_at c.args.text.now _ c.from-len.result refl c.in-len4-up.len_at_least (λ i. omega (arith, c.type_inv.text i)) (c.from-len.ensures ∙ c.from_be_bytes.ensures) c.if-rest-len.false in
    rw (c.split_at.ensures.front, c.split_at.ensures.back) s
