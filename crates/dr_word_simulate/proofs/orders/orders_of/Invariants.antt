use Rattle.std.proofs.Common.{◌≡◌, ◌++◌}
use Rattle.std.specs.List.{AllZip}
use Rattle.std.specs.Vec.Iter.{into_iter_items}
use Rattle.dr_word_simulate.specs.Orders.{IsOrderOf}
use Rattle.dr_word_simulate.proofs.orders.orders_of.Given as goal

-- the orders so far are those of the lines so far, and with what is left these are all
abbrev pub invariant-loop-act : goal.invariant-loop-act
invariant-loop-act g l = (l.fn.acts.items ≡ l.yielded ++ into_iter_items l.act-iterator)
    × AllZip (IsOrderOf (g.F.Files.holds l.files)) l.yielded l.orders.items
