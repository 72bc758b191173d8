use Rattle.std.proofs.Common.{ℕ, List, take, sym, subst}
use Rattle.std.proofs.lemmas.List.{take_more}
use Rattle.dr_desk.specs.Paging.{IsLeastFrom}
use Rattle.dr_desk.proofs.paging.least_from.Goals as goal

pub loop-number-preserved : goal.loop-number-preserved
loop-number-preserved c =
    let all = c.args.all.now in
    let i = c.loop-number.number-index in
    subst (λ (ns : List ℕ). IsLeastFrom c.args.from ns c.lesser-least.result) (sym (take_more all i 0 c.loop-number-test.true))
    (c.lesser-least.ensures (take i all) c.loop-number.invariant)
