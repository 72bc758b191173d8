use Rattle.std.proofs.Common.{◌∙◌}
use Rattle.dr_ledger_balance.specs.Fields.{field_then, syntax_then}
use Rattle.dr_ledger_balance.proofs.writing.put_key.Goals as goal

pub returns : goal.returns
returns c = λ rest.
    let key = c.args.key.now in
    let three = field_then key.station rest in
    let two = field_then key.modality three in
    c.in_ok-put_field-3.ensures rest
    ∙ c.in_ok-put_field-2.ensures three
    ∙ (rw c.uid.ensures at c.in_ok-put_bytes.ensures) two
    ∙ c.in_ok-put_field.ensures (syntax_then key.syntax two)
