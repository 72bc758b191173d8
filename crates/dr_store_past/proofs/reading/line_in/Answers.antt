use Rattle.std.proofs.Common.{rules}
use Rattle.dr_store_past.proofs.Told.{one_line}
use Rattle.dr_store_past.proofs.reading.line_in.Goals as goal

pub returns-in-Some-clause-is : goal.returns-in-Some-clause-is
returns-in-Some-clause-is c = (c.in-Some.sealed.number, c.in-Some.sealed.moment, search rules)

pub returns-in-Some-clause-read : goal.returns-in-Some-clause-read
returns-in-Some-clause-read c n it is =
    let read = c.in-Some.sealed in
    one_line c.a_text_is_read_in_one_way.ensures c.args.text.now read.number read.line read.moment (search rules) n it is
