use Rattle.std.proofs.Common.{◌∙◌, ◌++◌}
use Rattle.dr_ledger_balance.proofs.Added.{extended}
use Rattle.dr_ledger_balance.proofs.writing.put_bytes.Goals as goal

pub returns : goal.returns
returns c = λ rest.
    extended c.put_number.new.out.items c.extend_from_slice.new.self.items c.args.bytes.now c.in_ok-extend_from_slice.ensures.items rest
    ∙ c.in_ok-put_number.ensures (c.args.bytes.now ++ rest)
