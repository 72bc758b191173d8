use Rattle.dr_word_line.specs.Words.{Asks, IsCheckOf, IsExpandOf, IsImportOf, IsPlainCheck}
use Rattle.std.specs.Prelude.{ℕ, List}
use Rattle.std.specs.Borrow.{Bor}
use Rattle.dr_word_line.proofs.Trying.{none_left, none_right, some_or}
use Rattle.dr_word_line.proofs.plans.read_alone.Goals as goal

pub returns-clause-asked : goal.returns-clause-asked
returns-clause-asked c =
    some_or (Asks c.args.words.now) _ _ _ c.or-2.ensures (some_or (Asks c.args.words.now) _ _ _ c.or.ensures (c.read_check.ensures.asked) c.read_expand.ensures.asked) c.read_import.ensures.asked

pub returns-clause-input : goal.returns-clause-input
returns-clause-input c =
    none_left (IsPlainCheck c.args.words.now → ⊥) _ _ _ c.or-2.ensures (none_left (IsPlainCheck c.args.words.now → ⊥) _ _ _ c.or.ensures c.read_check.ensures.input)

pub returns-clause-file : goal.returns-clause-file
returns-clause-file c =
    none_left ((plan : Bor (List ℕ)) → IsCheckOf c.args.words.now plan → ⊥) _ _ _ c.or-2.ensures (none_left ((plan : Bor (List ℕ)) → IsCheckOf c.args.words.now plan → ⊥) _ _ _ c.or.ensures c.read_check.ensures.file)

pub returns-clause-expand : goal.returns-clause-expand
returns-clause-expand c =
    none_left ((plan : Bor (List ℕ)) → IsExpandOf c.args.words.now plan → ⊥) _ _ _ c.or-2.ensures (none_right ((plan : Bor (List ℕ)) → IsExpandOf c.args.words.now plan → ⊥) _ _ _ c.or.ensures c.read_expand.ensures.expand)

pub returns-clause-imported : goal.returns-clause-imported
returns-clause-imported c =
    none_right ((table : Bor (List ℕ)) → IsImportOf c.args.words.now table → ⊥) _ _ _ c.or-2.ensures c.read_import.ensures.imported
