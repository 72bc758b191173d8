use Rattle.std.proofs.Common.{◌≡◌, ◌++◌, All, map}
use Rattle.std.specs.Vec.Iter.{into_iter_items}
use Rattle.dr_cert_text.proofs.order.with_texts.Given as goal

-- what has its text, and what is left, are the items
abbrev pub invariant-loop-item : goal.invariant-loop-item
invariant-loop-item g l =
    (map (λ k. k.item) l.all.items ++ into_iter_items l.item-iterator ≡ l.fn.items.items)
    × All (λ k. k.text ≡ g.P.Printed.printed k.item) l.all.items
