use Rattle.dr_ledger_history.specs.Contents.{content}
use Rattle.dr_ledger_history.specs.Lines.{line_of}
use Rattle.dr_ledger_history.proofs.Telling.{refused_past, told_on}
use Rattle.dr_ledger_history.proofs.history.History.tell_past.Goals as goal

pub returns-in-Ok : goal.returns-in-Ok
returns-in-Ok c = λ lines told. told_on lines (line_of c.args.line) (content c.args.self.parts) (record { alloc = c.args.self.alloc; parts = c.take.new.self }) c.in-Ok.ensures told

pub returns-in-Err : goal.returns-in-Err
returns-in-Err c = λ lines told. refused_past lines (line_of c.args.line) (content c.args.self.parts) (content c.take.new.self) c.in-Err.fault c.in-Err.ensures told
