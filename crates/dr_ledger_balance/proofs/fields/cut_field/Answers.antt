use Rattle.dr_ledger_balance.proofs.Cutting.{field_there, no_field, too_short}
use Rattle.dr_ledger_balance.proofs.fields.cut_field.Goals as goal

pub returns-in_err-length : goal.returns-in_err-length
returns-in_err-length c = rw c.from_residual.ensures (no_field c.args.text.now c.in_err-length.ensures)

pub returns-then-behind-length : goal.returns-then-behind-length
returns-then-behind-length c = too_short c.args.text.now c.in_ok-length.length c.in_ok-length.behind.now c.in_ok-length.ensures c.if-behind-length.true

pub split_at-requires : goal.split_at-requires
split_at-requires c = c.if-behind-length.false

pub returns : goal.returns
returns c =
    field_there c.args.text.now c.in_ok-length.length c.in_ok-length.behind.now c.in_ok-length.ensures c.split_at.result.0.now c.split_at.result.1.now c.split_at.ensures.by_index.0 c.split_at.ensures.front_len
