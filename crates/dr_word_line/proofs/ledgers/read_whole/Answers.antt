use Rattle.dr_word_line.specs.Words.{Asks, IsListOf, IsMakeOf, IsMakeWithDataOf, IsServeOf, IsSummaryOf}
use Rattle.dr_run_files.specs.declared.node.NodeFiles.{NodeFiles as NodeFilesValue}
use Rattle.dr_word_line.proofs.Trying.{none_left, none_right, some_or}
use Rattle.dr_word_line.proofs.ledgers.read_whole.Goals as goal

pub returns-clause-asked : goal.returns-clause-asked
returns-clause-asked c =
    some_or (Asks c.args.words.now) _ _ _ c.or-2.ensures (some_or (Asks c.args.words.now) _ _ _ c.or.ensures (c.read_listing.ensures.asked) c.read_serving.ensures.asked) c.read_making.ensures.asked

pub returns-clause-list : goal.returns-clause-list
returns-clause-list c =
    none_left ((given : NodeFilesValue) → IsListOf c.args.words.now given → ⊥) _ _ _ c.or-2.ensures (none_left ((given : NodeFilesValue) → IsListOf c.args.words.now given → ⊥) _ _ _ c.or.ensures c.read_listing.ensures.list)

pub returns-clause-summary : goal.returns-clause-summary
returns-clause-summary c =
    none_left ((given : NodeFilesValue) → IsSummaryOf c.args.words.now given → ⊥) _ _ _ c.or-2.ensures (none_left ((given : NodeFilesValue) → IsSummaryOf c.args.words.now given → ⊥) _ _ _ c.or.ensures c.read_listing.ensures.summary)

pub returns-clause-serve : goal.returns-clause-serve
returns-clause-serve c =
    none_left ((given : NodeFilesValue) → IsServeOf c.args.words.now given → ⊥) _ _ _ c.or-2.ensures (none_right ((given : NodeFilesValue) → IsServeOf c.args.words.now given → ⊥) _ _ _ c.or.ensures c.read_serving.ensures.serve)

pub returns-clause-make : goal.returns-clause-make
returns-clause-make c =
    none_right ((given : NodeFilesValue) → IsMakeOf c.args.words.now given → ⊥) _ _ _ c.or-2.ensures c.read_making.ensures.make

pub returns-clause-with_data : goal.returns-clause-with_data
returns-clause-with_data c =
    none_right ((given : NodeFilesValue) → IsMakeWithDataOf c.args.words.now given → ⊥) _ _ _ c.or-2.ensures c.read_making.ensures.with_data
