use Rattle.std.proofs.Common.{◌++◌}
use Rattle.std.specs.Prelude.{codes}
use Rattle.dr_ledger_text.specs.Members.{number}
use Rattle.dr_ledger_text.specs.Lines.{kind_part, row_part}
use Rattle.dr_ledger_text.proofs.Chained.{chained}
use Rattle.dr_ledger_text.proofs.line.put_dropping.Goals as goal

pub returns : goal.returns
returns c =
    let old = c.args.out.now.items in
    let p0 = kind_part (codes "dropping") in
    let p1 = row_part c.args.uid.now c.args.dest.now in
    let e1 = chained old p0 p1 c.put_kind.new.out.items c.put_row_name.new.out.items c.in_ok-put_kind.ensures c.in_ok-put_row_name.ensures in
    chained old (p0 ++ p1) (number (codes "moment") c.args.now) c.put_row_name.new.out.items c.put_number.new.out.items e1 c.in_ok-put_number.ensures
