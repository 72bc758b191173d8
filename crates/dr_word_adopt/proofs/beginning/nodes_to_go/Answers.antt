use Rattle.dr_word_adopt.proofs.Begun.{some_to_go}
use Rattle.std.proofs.Common.{inl, inr}
use Rattle.dr_word_adopt.proofs.beginning.nodes_to_go.Goals as goal

pub returns-in-Ok-test_none : goal.returns-in-Ok-test_none
returns-in-Ok-test_none g c = some_to_go (g.O.ShowsFiles.shows c.args.ledgers.now) c.args.folder.now c.args.old.now.plan c.args.next.now.plan c.args.others.now c.in-Ok.ours c.some_of.result c.in-Ok.ensures c.in-Ok-test_none.ensures c.some_of.ensures

pub returns-in-Err-test_none : goal.returns-in-Err-test_none
returns-in-Err-test_none g c = inr (inl c.in-Err-test_none.ensures)

pub returns-in-Err : goal.returns-in-Err
returns-in-Err g c = inl c.in-Err.ensures
