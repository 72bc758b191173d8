use Rattle.std.proofs.Common.{subst, sym}
use Rattle.std.specs.Str.Parse.{AllDigits}
use Rattle.dr_ledger_read.specs.Pieces.{EndsDigits}
use Rattle.dr_ledger_read.proofs.Counts.{no_number, number_cut}
use Rattle.dr_ledger_read.proofs.numbers.cut_number.Goals as goal

pub split_at-requires : goal.split_at-requires
split_at-requires c = c.count_digits.ensures.within

pub returns-in_err-number : goal.returns-in_err-number
returns-in_err-number c =
    rw c.from_residual.ensures
    (no_number c.args.text.now c.split_at.result.0.now c.split_at.result.1 c.split_at.ensures.by_index.0 (subst (AllDigits 10) (sym c.split_at.ensures.front) c.count_digits.ensures.digits)
    (subst EndsDigits (sym c.split_at.ensures.back) c.count_digits.ensures.stops) c.in_err-number.ensures)

pub returns : goal.returns
returns c =
    number_cut c.args.text.now c.split_at.result.0.now c.split_at.result.1 c.split_at.ensures.by_index.0 (subst (AllDigits 10) (sym c.split_at.ensures.front) c.count_digits.ensures.digits)
    (subst EndsDigits (sym c.split_at.ensures.back) c.count_digits.ensures.stops) c.in_ok-number.number c.in_ok-number.ensures
