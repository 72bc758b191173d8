use Rattle.std.proofs.Common.{◌∙◌, codes}
use Rattle.dr_ledger_balance.specs.Fields.{number_then}
use Rattle.dr_ledger_balance.proofs.Added.{extended}
use Rattle.dr_ledger_balance.proofs.writing.put_status.Goals as goal

pub returns : goal.returns
returns c = λ rest.
    (rw c.from.ensures at c.in_ok-put_number.ensures) rest
    ∙ extended c.args.out.now.items c.extend_from_slice.new.self.items (codes " status") c.in_ok-extend_from_slice.ensures.items (number_then c.args.status rest)
