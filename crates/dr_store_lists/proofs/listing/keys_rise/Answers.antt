use Rattle.std.proofs.Common.{rules, ◌≡◌}
use Rattle.std.specs.Ordering.{is_lt}
use Rattle.std.proofs.lemmas.List.Sorted.{answers_always}
use Rattle.dr_store_lists.proofs.Orders.{adjacent, keys_rise}
use Rattle.dr_store_lists.proofs.listing.keys_rise.Goals as goal

pub returns : goal.returns
returns g c is = keys_rise g.met.K.Ord.total c.args.keys.now (adjacent c.is_sorted_by.result (λ x y b. b ≡ is_lt (g.K.Ord.cmp x y)) c.args.keys.now is (c.is_sorted_by.ensures.cases (λ a b. is_lt (g.K.Ord.cmp a b)) (answers_always _ _ _ (λ f a r g called. search rules))))
