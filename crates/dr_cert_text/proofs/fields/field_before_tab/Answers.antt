use Rattle.dr_cert_text.proofs.Splits.{first_field}
use Rattle.dr_cert_text.proofs.fields.field_before_tab.Goals as goal

pub returns : goal.returns
returns c = first_field c.args.row.now c.split_at_byte.result c.requires c.split_at_byte.ensures
