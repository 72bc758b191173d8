use Rattle.std.proofs.Common.{◌≡◌, map, rules}
use Rattle.dr_cert_text.proofs.Sorting.{in_order, same_items, same_length}
use Rattle.dr_cert_text.proofs.order.in_printed_order.Goals as goal

pub returns-clause-same : goal.returns-clause-same
returns-clause-same g c =
    let items : c.in_ok-sorted.sorted.items ≡ map (λ k. k.item) c.sort_unstable.new.self.items = search rules in
    rw (c.from_vec.ensures, items) (same_items (λ k. k.text) (λ k. k.item) g.P.Printed.printed _ _ _ c.in_ok-all.ensures.items c.sort_unstable.ensures.permutation)

pub returns-clause-ordered : goal.returns-clause-ordered
returns-clause-ordered g c =
    let items : c.in_ok-sorted.sorted.items ≡ map (λ k. k.item) c.sort_unstable.new.self.items = search rules in
    rw (c.from_vec.ensures, items)
    (in_order (λ k. k.text) (λ k. k.item) g.P.Printed.printed _ _ _ c.in_ok-all.ensures.items c.in_ok-all.ensures.texts c.sort_unstable.ensures.permutation c.sort_unstable.ensures.sorted c.requires)

pub returns-clause-long : goal.returns-clause-long
returns-clause-long g c =
    let items : c.in_ok-sorted.sorted.items ≡ map (λ k. k.item) c.sort_unstable.new.self.items = search rules in
    rw (c.from_vec.ensures, items) (same_length (λ k. k.item) _ _ _ c.in_ok-all.ensures.items c.sort_unstable.ensures.permutation)
