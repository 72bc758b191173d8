use Rattle.dr_ledger_balance.specs.Places.{key_of}
use Rattle.dr_ledger_balance.proofs.Lines.{item_there, no_instance, no_item_digest, no_item_uid, no_key, no_size, unended_item}
use Rattle.dr_ledger_balance.proofs.item.cut_item.Goals as goal

pub returns-in_err-fields : goal.returns-in_err-fields
returns-in_err-fields c = rw c.from_residual.ensures (no_instance c.args.text.now c.in_err-fields.ensures)

pub returns-in_err-uid : goal.returns-in_err-uid
returns-in_err-uid c = rw c.from_residual-in_err-uid.ensures (no_item_uid c.args.text.now c.in_ok-fields.fields.now c.in_ok-fields.ensures c.in_err-uid.ensures)

pub returns-in_err-key : goal.returns-in_err-key
returns-in_err-key c =
    rw c.from_residual-in_err-key.ensures
    (no_key c.args.text.now c.in_ok-fields.fields.now c.in_ok-fields.ensures c.in_ok-uid.uid.now c.in_ok-uid.after_uid.now c.in_ok-uid.ensures c.in_err-key.ensures)

pub returns-in_err-size : goal.returns-in_err-size
returns-in_err-size c =
    rw c.from_residual-in_err-size.ensures
    (no_size c.args.text.now c.in_ok-fields.fields.now c.in_ok-fields.ensures c.in_ok-uid.uid.now c.in_ok-uid.after_uid.now c.in_ok-uid.ensures
    (key_of c.in_ok-key.key) c.in_ok-key.after_key.now c.in_ok-key.ensures c.in_err-size.ensures)

pub returns-in_err-digest : goal.returns-in_err-digest
returns-in_err-digest c =
    rw c.from_residual-in_err-digest.ensures
    (no_item_digest c.args.text.now c.in_ok-fields.fields.now c.in_ok-fields.ensures c.in_ok-uid.uid.now c.in_ok-uid.after_uid.now c.in_ok-uid.ensures
    (key_of c.in_ok-key.key) c.in_ok-key.after_key.now c.in_ok-key.ensures c.in_ok-size.size c.in_ok-size.after_size.now c.in_ok-size.ensures c.in_err-digest.ensures)

pub returns-in_err-rest : goal.returns-in_err-rest
returns-in_err-rest c =
    rw c.from_residual-in_err-rest.ensures
    (unended_item c.args.text.now c.in_ok-fields.fields.now c.in_ok-fields.ensures c.in_ok-uid.uid.now c.in_ok-uid.after_uid.now c.in_ok-uid.ensures
    (key_of c.in_ok-key.key) c.in_ok-key.after_key.now c.in_ok-key.ensures c.in_ok-size.size c.in_ok-size.after_size.now c.in_ok-size.ensures
    c.in_ok-digest.digest c.in_ok-digest.later.now c.in_ok-digest.ensures c.in_err-rest.ensures)

pub returns : goal.returns
returns c =
    item_there c.args.text.now c.in_ok-fields.fields.now c.in_ok-fields.ensures c.in_ok-uid.uid.now c.in_ok-uid.after_uid.now c.in_ok-uid.ensures
    (key_of c.in_ok-key.key) c.in_ok-key.after_key.now c.in_ok-key.ensures c.in_ok-size.size c.in_ok-size.after_size.now c.in_ok-size.ensures
    c.in_ok-digest.digest c.in_ok-digest.later.now c.in_ok-digest.ensures c.in_ok-rest.rest.now c.in_ok-rest.ensures
