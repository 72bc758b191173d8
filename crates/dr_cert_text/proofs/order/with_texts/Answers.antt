use Rattle.std.proofs.Common.{◌≡◌, rules}
use Rattle.std.proofs.lemmas.List.Elements.{All-push}
use Rattle.dr_cert_text.proofs.Sorting.{one_more}
use Rattle.dr_cert_text.proofs.order.with_texts.Goals as goal

pub loop-item-preserved : goal.loop-item-preserved
loop-item-preserved g c =
    let text : c.from_vec-text.result ≡ g.P.Printed.printed c.in-Some.item = rw (c.from_vec-text.ensures, c.in_ok-print.ensures, c.new-text.ensures.items) (search rules) in (
      rw c.in_ok-push.ensures.items (one_more (λ k. k.item) c.loop-item.all.items _ _ _ _ c.loop-item.invariant.0 (search rules)),
      rw c.in_ok-push.ensures.items (All-push (λ k. k.text ≡ g.P.Printed.printed k.item) c.loop-item.all.items _ c.loop-item.invariant.1 text),
    )
