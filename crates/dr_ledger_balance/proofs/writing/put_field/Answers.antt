use Rattle.dr_base.specs.Texts.{Text}
use Rattle.std.proofs.Common.{subst}
use Rattle.dr_ledger_balance.specs.Adding.{Adds}
use Rattle.dr_ledger_balance.specs.Fields.{field_then}
use Rattle.dr_ledger_balance.proofs.writing.put_field.Goals as goal

pub returns : goal.returns
returns c = subst (λ (t : Text). Adds c.args.out.now.items c.put_bytes.new.out.items (field_then t)) c.as_bytes.ensures c.in_ok-put_bytes.ensures
