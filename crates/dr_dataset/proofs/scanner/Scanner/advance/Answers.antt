use Rattle.std.proofs.Common.{inl, inr}
use Rattle.std.proofs.lemmas.Result.{err_from_is_err_and}
use Rattle.dr_dataset.proofs.OpensLemmas.{token_shorter}
use Rattle.dr_dataset.proofs.AdvanceLemmas.{err_shows, value_cut, item_cut, value_grows, item_grows, opening_grows, open_item_grows, item_end_grows, sequence_end_grows, split_shorter}
use Rattle.dr_dataset.proofs.scanner.Scanner.advance.Goals as goal

pub returns-in_err-token-clause-err : goal.returns-in_err-token-clause-err
returns-in_err-token-clause-err c =
    let p = err_from_is_err_and c.from_residual.result c.from_residual.ensures.1 in
    rw (p.1, p.2) (err_shows c.args.self.now.syntax c.args.self.now.stack c.args.text.now _ c.in_err-token.ensures.err.0)

pub returns-in_default-clause-err : goal.returns-in_default-clause-err
returns-in_default-clause-err c =
    value_cut c.args.self.now.syntax c.args.self.now.stack c.args.text.now _ _ _ _ c.in_ok-token.ensures.ok.0 c.in-Value.is c.in_default.ensures.cases

pub returns-in_default-split_at_checked-clause-err :
    goal.returns-in_default-split_at_checked-clause-err
returns-in_default-split_at_checked-clause-err c =
    item_cut c.args.self.now.syntax c.args.self.now.stack c.args.text.now _ _ _ c.in_ok-token.ensures.ok.0 c.in-PlainItem.is c.in_default-split_at_checked.ensures.cases

pub returns-in-Some-clause-ok : goal.returns-in-Some-clause-ok
returns-in-Some-clause-ok c =
    value_grows c.args.self.now.syntax c.args.self.now.stack c.args.text.now _ _ _ _ _ _ _ _ c.in_ok-token.ensures.ok.0 c.in-Value.is c.in-Some.ensures.cases c.in_ok-token.ensures.ok.1 c.at_top.ensures.element

pub returns-in-Some-clause-shorter : goal.returns-in-Some-clause-shorter
returns-in-Some-clause-shorter c =
    split_shorter c.args.self.now.syntax c.args.self.now.stack c.args.text.now _ _ _ _ _ c.in_ok-token.ensures.ok.0 c.in-Some.ensures.cases

pub returns-in-Some-split_at_checked-clause-ok : goal.returns-in-Some-split_at_checked-clause-ok
returns-in-Some-split_at_checked-clause-ok c =
    item_grows c.args.self.now.syntax c.args.self.now.stack c.args.text.now _ _ _ _ _ _ c.in_ok-token.ensures.ok.0 c.in-PlainItem.is c.in-Some-split_at_checked.ensures.cases c.in_ok-token.ensures.ok.1

pub returns-in-Some-split_at_checked-clause-shorter :
    goal.returns-in-Some-split_at_checked-clause-shorter
returns-in-Some-split_at_checked-clause-shorter c =
    split_shorter c.args.self.now.syntax c.args.self.now.stack c.args.text.now _ _ _ _ _ c.in_ok-token.ensures.ok.0 c.in-Some-split_at_checked.ensures.cases

pub returns-in-SequenceEnd-clause-ok : goal.returns-in-SequenceEnd-clause-ok
returns-in-SequenceEnd-clause-ok c =
    sequence_end_grows c.args.self.now.syntax c.args.self.now.stack c.args.text.now _ _ _ _ _ c.in_ok-token.ensures.ok.0 c.in-SequenceEnd.is c.in_ok-token.ensures.ok.1 c.at_top-in-SequenceEnd.ensures.element

pub returns-in-SequenceEnd-clause-shorter : goal.returns-in-SequenceEnd-clause-shorter
returns-in-SequenceEnd-clause-shorter c =
    token_shorter c.args.self.now.syntax c.args.self.now.stack c.args.text.now _ _ c.in_ok-token.ensures.ok.0

pub returns-in-Sequence-clause-ok : goal.returns-in-Sequence-clause-ok
returns-in-Sequence-clause-ok c =
    let o = c.in_ok-token.ensures.ok in
    elim c.in-Sequence.is [
      | inl e ↦ opening_grows c.args.self.now.syntax c.args.self.now.stack c.args.text.now _ _ e.0 e.1 _ c.args.self.now.nested o.0 e.2 o.1
      | inr h ↦ elim h [
        | inl e ↦ open_item_grows c.args.self.now.syntax c.args.self.now.stack c.args.text.now _ _ _ o.0 e o.1
        | inr e ↦ item_end_grows c.args.self.now.syntax c.args.self.now.stack c.args.text.now _ _ _ o.0 e o.1
      ]
    ]

pub returns-in-Sequence-clause-shorter : goal.returns-in-Sequence-clause-shorter
returns-in-Sequence-clause-shorter c =
    token_shorter c.args.self.now.syntax c.args.self.now.stack c.args.text.now _ _ c.in_ok-token.ensures.ok.0
