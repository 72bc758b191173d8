use Rattle.dr_word_line.specs.Words.{Asks, IsDiffOf, IsFileRouteOf, IsKeyRouteOf}
use Rattle.std.specs.Prelude.{ℕ, List}
use Rattle.std.specs.Borrow.{Bor}
use Rattle.dr_word_line.specs.declared.words.KeyWords.{KeyWords as KeyWordsValue}
use Rattle.dr_word_line.specs.declared.words.NextPlan.{NextPlan as NextPlanValue}
use Rattle.dr_word_line.proofs.Trying.{none_left, none_right, some_or}
use Rattle.dr_word_line.proofs.plans.read_ways.Goals as goal

pub returns-clause-asked : goal.returns-clause-asked
returns-clause-asked c =
    some_or (Asks c.args.words.now) _ _ _ c.or.ensures (c.read_diff.ensures.asked) c.read_route.ensures.asked

pub returns-clause-diff : goal.returns-clause-diff
returns-clause-diff c =
    none_left ((plan certificate : Bor (List ℕ)) (next : NextPlanValue) → IsDiffOf c.args.words.now plan certificate next → ⊥) _ _ _ c.or.ensures c.read_diff.ensures.diff

pub returns-clause-route_of_file : goal.returns-clause-route_of_file
returns-clause-route_of_file c =
    none_right ((plan certificate at path : Bor (List ℕ)) → IsFileRouteOf c.args.words.now plan certificate at path → ⊥) _ _ _ c.or.ensures c.read_route.ensures.route_of_file

pub returns-clause-route_of_key : goal.returns-clause-route_of_key
returns-clause-route_of_key c =
    none_right ((plan certificate at : Bor (List ℕ)) (key : KeyWordsValue) → IsKeyRouteOf c.args.words.now plan certificate at key → ⊥) _ _ _ c.or.ensures c.read_route.ensures.route_of_key
