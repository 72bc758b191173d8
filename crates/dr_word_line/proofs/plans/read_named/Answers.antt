use Rattle.dr_word_line.specs.Words.{Asks, IsEchoOf, IsExpectOf, IsGraphOf, IsLintOf, IsSimulateOf, IsVerifyOf}
use Rattle.std.specs.Prelude.{ℕ, List}
use Rattle.std.specs.Borrow.{Bor}
use Rattle.dr_word_line.proofs.Trying.{none_left, none_right, some_or}
use Rattle.dr_word_line.proofs.plans.read_named.Goals as goal

pub returns-clause-asked : goal.returns-clause-asked
returns-clause-asked c =
    some_or (Asks c.args.words.now) _ _ _ c.or-2.ensures (some_or (Asks c.args.words.now) _ _ _ c.or.ensures (c.read_pair.ensures.asked) c.read_question.ensures.asked) c.read_expect.ensures.asked

pub returns-clause-verify : goal.returns-clause-verify
returns-clause-verify c =
    none_left ((plan certificate : Bor (List ℕ)) → IsVerifyOf c.args.words.now plan certificate → ⊥) _ _ _ c.or-2.ensures (none_left ((plan certificate : Bor (List ℕ)) → IsVerifyOf c.args.words.now plan certificate → ⊥) _ _ _ c.or.ensures c.read_pair.ensures.verify)

pub returns-clause-simulate : goal.returns-clause-simulate
returns-clause-simulate c =
    none_left ((plan certificate script : Bor (List ℕ)) → IsSimulateOf c.args.words.now plan certificate script → ⊥) _ _ _ c.or-2.ensures (none_left ((plan certificate script : Bor (List ℕ)) → IsSimulateOf c.args.words.now plan certificate script → ⊥) _ _ _ c.or.ensures c.read_pair.ensures.simulate)

pub returns-clause-echo : goal.returns-clause-echo
returns-clause-echo c =
    none_left ((plan caller called : Bor (List ℕ)) → IsEchoOf c.args.words.now plan caller called → ⊥) _ _ _ c.or-2.ensures (none_left ((plan caller called : Bor (List ℕ)) → IsEchoOf c.args.words.now plan caller called → ⊥) _ _ _ c.or.ensures c.read_pair.ensures.echo)

pub returns-clause-graph : goal.returns-clause-graph
returns-clause-graph c =
    none_left ((plan certificate : Bor (List ℕ)) → IsGraphOf c.args.words.now plan certificate → ⊥) _ _ _ c.or-2.ensures (none_right ((plan certificate : Bor (List ℕ)) → IsGraphOf c.args.words.now plan certificate → ⊥) _ _ _ c.or.ensures c.read_question.ensures.graph)

pub returns-clause-lint : goal.returns-clause-lint
returns-clause-lint c =
    none_left ((plan certificate : Bor (List ℕ)) → IsLintOf c.args.words.now plan certificate → ⊥) _ _ _ c.or-2.ensures (none_right ((plan certificate : Bor (List ℕ)) → IsLintOf c.args.words.now plan certificate → ⊥) _ _ _ c.or.ensures c.read_question.ensures.lint)

pub returns-clause-expect : goal.returns-clause-expect
returns-clause-expect c =
    none_right ((plan certificate path : Bor (List ℕ)) → IsExpectOf c.args.words.now plan certificate path → ⊥) _ _ _ c.or-2.ensures c.read_expect.ensures.expect
