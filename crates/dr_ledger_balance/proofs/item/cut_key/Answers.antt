use Rattle.dr_ledger_balance.proofs.Lines.{key_there, no_class, no_modality, no_station, no_syntax_there}
use Rattle.dr_ledger_balance.proofs.item.cut_key.Goals as goal

pub returns-in_err-class : goal.returns-in_err-class
returns-in_err-class c = rw c.from_residual.ensures (no_class c.args.text.now c.in_err-class.ensures)

pub returns-in_err-syntax : goal.returns-in_err-syntax
returns-in_err-syntax c =
    rw c.from_residual-in_err-syntax.ensures (no_syntax_there c.args.text.now c.in_ok-class.class.now c.in_ok-class.after_class.now c.in_ok-class.ensures c.in_err-syntax.ensures)

pub returns-in_err-modality : goal.returns-in_err-modality
returns-in_err-modality c =
    rw c.from_residual-in_err-modality.ensures
    (no_modality c.args.text.now c.in_ok-class.class.now c.in_ok-class.after_class.now c.in_ok-class.ensures c.in_ok-syntax.syntax c.in_ok-syntax.after_syntax.now c.in_ok-syntax.ensures
    c.in_err-modality.ensures)

pub returns-in_err-station : goal.returns-in_err-station
returns-in_err-station c =
    rw c.from_residual-in_err-station.ensures
    (no_station c.args.text.now c.in_ok-class.class.now c.in_ok-class.after_class.now c.in_ok-class.ensures c.in_ok-syntax.syntax c.in_ok-syntax.after_syntax.now c.in_ok-syntax.ensures
    c.in_ok-modality.modality.now c.in_ok-modality.after_modality.now c.in_ok-modality.ensures c.in_err-station.ensures)

pub returns : goal.returns
returns c =
    key_there c.args.text.now c.in_ok-class.class.now c.in_ok-class.after_class.now c.in_ok-class.ensures c.in_ok-syntax.syntax c.in_ok-syntax.after_syntax.now c.in_ok-syntax.ensures
    c.in_ok-modality.modality.now c.in_ok-modality.after_modality.now c.in_ok-modality.ensures c.in_ok-station.station.now c.in_ok-station.rest.now c.in_ok-station.ensures
