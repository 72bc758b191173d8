use Rattle.dr_ledger_read.proofs.Instances.{item_cut, no_key, no_sha, no_size, no_uid}
use Rattle.dr_ledger_read.proofs.item.cut_item.Goals as goal

pub returns-in_err-uid : goal.returns-in_err-uid
returns-in_err-uid c = rw c.from_residual.ensures (no_uid c.args.text.now c.in_err-uid.ensures)

pub returns-in_err-key : goal.returns-in_err-key
returns-in_err-key c = rw c.from_residual-in_err-key.ensures (no_key c.args.text.now c.in_ok-uid.uid c.in_ok-uid.after_uid c.in_ok-uid.ensures c.in_err-key.ensures)

pub returns-in_err-size : goal.returns-in_err-size
returns-in_err-size c =
    rw c.from_residual-in_err-size.ensures
    (no_size c.args.text.now c.in_ok-uid.uid c.in_ok-uid.after_uid c.in_ok-uid.ensures c.in_ok-key.key c.in_ok-key.after_key c.in_ok-key.ensures c.in_err-size.ensures)

pub returns-in_err-digest : goal.returns-in_err-digest
returns-in_err-digest c =
    rw c.from_residual-in_err-digest.ensures
    (no_sha c.args.text.now c.in_ok-uid.uid c.in_ok-uid.after_uid c.in_ok-uid.ensures c.in_ok-key.key c.in_ok-key.after_key c.in_ok-key.ensures
    c.in_ok-size.size c.in_ok-size.after_size c.in_ok-size.ensures c.in_err-digest.ensures)

pub returns : goal.returns
returns c =
    item_cut c.args.text.now c.in_ok-uid.uid c.in_ok-uid.after_uid c.in_ok-uid.ensures c.in_ok-key.key c.in_ok-key.after_key c.in_ok-key.ensures
    c.in_ok-size.size c.in_ok-size.after_size c.in_ok-size.ensures c.in_ok-digest.digest c.in_ok-digest.rest c.in_ok-digest.ensures
