use Rattle.std.proofs.Common.{◌∙◌, ◌∷◌, ◌++◌, decimal}
use Rattle.dr_ledger_balance.proofs.Added.{extended, pushed}
use Rattle.dr_ledger_balance.proofs.writing.put_number.Goals as goal

pub returns : goal.returns
returns c = λ rest.
    pushed c.add_decimal.new.out.items c.push-2.new.self.items 58 c.in_ok-push-2.ensures.items rest
    ∙ extended c.push.new.self.items c.add_decimal.new.out.items (decimal c.args.number) c.in_ok-add_decimal.ensures (58 ∷ rest)
    ∙ pushed c.args.out.now.items c.push.new.self.items 32 c.in_ok-push.ensures.items (decimal c.args.number ++ 58 ∷ rest)
