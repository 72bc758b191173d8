use Rattle.std.proofs.Common.{rules, ◌≡◌}
use Rattle.std.specs.Ordering.{is_lt}
use Rattle.std.proofs.lemmas.List.Sorted.{answers_always}
use Rattle.dr_store_lists.proofs.Orders.{adjacent, rises}
use Rattle.dr_store_lists.proofs.listing.rise.Goals as goal

pub returns : goal.returns
returns g c is = rises g.met.K.Ord.total c.args.entries.now (adjacent c.is_sorted_by.result (λ x y b. b ≡ is_lt (g.K.Ord.cmp x.0 y.0)) c.args.entries.now is (c.is_sorted_by.ensures.cases (λ a b. is_lt (g.K.Ord.cmp a.0 b.0)) (answers_always _ _ _ (λ f a r g called. search rules))))
