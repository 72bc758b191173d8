use Rattle.dr_ledger_balance.proofs.Added.{extended}
use Rattle.dr_ledger_balance.proofs.writing.put_literal.Goals as goal

pub returns : goal.returns
returns c = extended c.args.out.now.items c.extend_from_slice.new.self.items c.args.bytes.now c.in_ok-extend_from_slice.ensures.items
