use Rattle.std.proofs.Common.{arith}
use Rattle.dr_cert_text.proofs.CutRows.{one_part, one_more_part, short_line, bad_syntax_line, bad_rank}
use Rattle.dr_cert_text.proofs.lines.cut_line.Goals as goal

pub returns-in_err-caller : goal.returns-in_err-caller
returns-in_err-caller c = rw c.from_residual.ensures (short_line c.args.row.now 1 (one_part _ c.in_err-caller.ensures) (λ e. omega arith))

pub returns-in_err-node : goal.returns-in_err-node
returns-in_err-node c = rw c.from_residual-in_err-node.ensures (short_line c.args.row.now 2 (one_more_part 1 c.in_ok-caller.ensures (one_part _ c.in_err-node.ensures)) (λ e. omega arith))

pub returns-in_err-class : goal.returns-in_err-class
returns-in_err-class c =
    rw c.from_residual-in_err-class.ensures
    (short_line c.args.row.now 3 (one_more_part 2 c.in_ok-caller.ensures (one_more_part 1 c.in_ok-node.ensures (one_part _ c.in_err-class.ensures))) (λ e. omega arith))

pub returns-in_err-uid : goal.returns-in_err-uid
returns-in_err-uid c =
    rw c.from_residual-in_err-uid.ensures
    (short_line c.args.row.now 4 (one_more_part 3 c.in_ok-caller.ensures (one_more_part 2 c.in_ok-node.ensures (one_more_part 1 c.in_ok-class.ensures (one_part _ c.in_err-uid.ensures)))) (λ e. omega arith))

pub returns-in_err-modality : goal.returns-in_err-modality
returns-in_err-modality c =
    rw c.from_residual-in_err-modality.ensures
    (short_line c.args.row.now 5
    (one_more_part 4 c.in_ok-caller.ensures (one_more_part 3 c.in_ok-node.ensures (one_more_part 2 c.in_ok-class.ensures (one_more_part 1 c.in_ok-uid.ensures (one_part _ c.in_err-modality.ensures)))))
    (λ e. omega arith))

pub returns-in_err-station : goal.returns-in_err-station
returns-in_err-station c =
    rw c.from_residual-in_err-station.ensures
    (short_line c.args.row.now 6
    (one_more_part 5 c.in_ok-caller.ensures (one_more_part 4 c.in_ok-node.ensures (one_more_part 3 c.in_ok-class.ensures (one_more_part 2 c.in_ok-uid.ensures
    (one_more_part 1 c.in_ok-modality.ensures (one_part _ c.in_err-station.ensures))))))
    (λ e. omega arith))

pub returns-in_err-syntax : goal.returns-in_err-syntax
returns-in_err-syntax c =
    rw c.from_residual-in_err-syntax.ensures (bad_syntax_line c.in_ok-caller.ensures c.in_ok-node.ensures c.in_ok-class.ensures c.in_ok-uid.ensures c.in_err-syntax.ensures)

pub returns-in_err-rank : goal.returns-in_err-rank
returns-in_err-rank c =
    rw c.from_residual-in_err-rank.ensures
    (bad_rank c.in_ok-caller.ensures c.in_ok-node.ensures c.in_ok-class.ensures c.in_ok-uid.ensures c.in_ok-modality.ensures c.in_ok-station.ensures c.in_err-rank.ensures)
