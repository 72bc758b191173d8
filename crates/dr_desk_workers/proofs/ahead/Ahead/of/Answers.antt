use Rattle.std.proofs.Common.{sym, ◌∙◌}
use Rattle.std.proofs.lemmas.Bool.{eqb-true}
use Rattle.std.proofs.lemmas.List.{nil_from_length}
use Rattle.dr_desk_workers.proofs.Waited.{one_piece, two_pieces}
use Rattle.dr_desk_workers.proofs.ahead.Ahead.of.Goals as goal

pub returns-then-is_empty-2 : goal.returns-then-is_empty-2
returns-then-is_empty-2 c =
    let none = nil_from_length _ (eqb-true _ _ (sym c.is_empty-2.ensures ∙ c.if-is_empty-2.true)) in
    one_piece c.args.text.now c.in_ok-first.first c.split_at.result.1.now c.min.result c.args.ended
    (c.in_ok-first.ensures ∙ c.split_at.ensures.front) c.split_at.ensures.back none

pub returns : goal.returns
returns c =
    two_pieces c.args.text.now c.in_ok-first.first c.in_ok-second.second c.min.result c.args.ended
    (c.in_ok-first.ensures ∙ c.split_at.ensures.front) (c.in_ok-second.ensures ∙ c.split_at.ensures.back)
