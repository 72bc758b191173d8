use Rattle.dr_ledger_read.proofs.Reread.{read_there, some_line}
use Rattle.dr_ledger_read.proofs.reading.read_sealed.Goals as goal

pub returns-in_default : goal.returns-in_default
returns-in_default c = c.in_default.ensures

pub returns-in-Ok : goal.returns-in-Ok
returns-in-Ok c = read_there c.args.text.now c.in-Some.places c.in-Ok.line c.in-Some.ensures c.in-Ok.ensures

pub returns-in-Err : goal.returns-in-Err
returns-in-Err c = some_line c.args.text.now c.in-Some.places c.in-Some.ensures
