use Rattle.std.proofs.Common.{◌∙◌, codes}
use Rattle.dr_ledger_balance.specs.Fields.{number_then}
use Rattle.dr_ledger_balance.proofs.Added.{extended}
use Rattle.dr_ledger_balance.proofs.writing.put_waiting.Goals as goal

pub returns : goal.returns
returns c = λ rest.
    let later = number_then c.args.due rest in
    c.in_ok-put_number-2.ensures rest
    ∙ (rw c.from.ensures at c.in_ok-put_number.ensures) later
    ∙ extended c.args.out.now.items c.extend_from_slice.new.self.items (codes " waiting") c.in_ok-extend_from_slice.ensures.items (number_then c.args.tries later)
