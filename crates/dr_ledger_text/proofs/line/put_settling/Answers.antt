use Rattle.std.proofs.Common.{◌++◌}
use Rattle.std.specs.Prelude.{codes}
use Rattle.dr_ledger_text.specs.Members.{number, word}
use Rattle.dr_ledger_text.specs.Lines.{kind_part, outcome_text, row_part}
use Rattle.dr_ledger_text.proofs.Chained.{chained}
use Rattle.dr_ledger_text.proofs.line.put_settling.Goals as goal

pub returns : goal.returns
returns c =
    let old = c.args.out.now.items in
    let p0 = kind_part (codes "settling") in
    let p1 = row_part c.args.uid.now c.args.dest.now in
    let p2 = word (codes "outcome") (outcome_text c.args.outcome) in
    let e1 = chained old p0 p1 c.put_kind.new.out.items c.put_row_name.new.out.items c.in_ok-put_kind.ensures c.in_ok-put_row_name.ensures in
    let e2 = chained old (p0 ++ p1) p2 c.put_row_name.new.out.items c.put_outcome.new.out.items e1 c.in_ok-put_outcome.ensures in
    chained old (p0 ++ p1 ++ p2) (number (codes "moment") c.args.now) c.put_outcome.new.out.items c.put_number.new.out.items e2 c.in_ok-put_number.ensures
