use Rattle.std.proofs.Common.{◌∙◌, ◌∷◌, codes}
use Rattle.dr_ledger_balance.specs.Fields.{number_then}
use Rattle.dr_ledger_balance.proofs.Added.{extended, pushed}
use Rattle.dr_ledger_balance.proofs.writing.put_end.Goals as goal

pub returns : goal.returns
returns c = λ rest.
    pushed c.put_number.new.out.items c.push.new.self.items 10 c.in_ok-push.ensures.items rest
    ∙ c.in_ok-put_number.ensures (10 ∷ rest)
    ∙ extended c.args.out.now.items c.extend_from_slice.new.self.items (codes "lines") c.in_ok-extend_from_slice.ensures.items (number_then c.args.count (10 ∷ rest))
