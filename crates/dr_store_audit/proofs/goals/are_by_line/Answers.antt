use Rattle.std.proofs.Common.{rules, ◌≡◌, leb, leb-true, sym}
use Rattle.std.proofs.lemmas.List.Sorted.{IsNonDecreasingBy-from_all_adjacent, answers_always}
use Rattle.dr_store_lists.proofs.Orders.{adjacent}
use Rattle.dr_store_lists.specs.Lists.{Goal}
use Rattle.dr_store_audit.proofs.Rising.{said_of_all}
use Rattle.dr_store_audit.proofs.goals.are_by_line.Goals as goal

pub returns : goal.returns
returns c =
    let goals = c.args.goals.now in
    let cases = c.is_sorted_by.ensures.cases (λ x y. leb x.0 y.0) (answers_always _ _ _ (λ f a r g called. search rules)) in (
      λ is.
          let tests = adjacent c.is_sorted_by.result (λ (x y : Goal) b. b ≡ leb x.0 y.0) goals is cases in
          IsNonDecreasingBy-from_all_adjacent (λ (g : Goal). g.0) goals (λ k d lt. leb-true _ _ (sym (tests k d lt))),
      λ by_line. said_of_all goals c.is_sorted_by.result cases by_line,
    )
