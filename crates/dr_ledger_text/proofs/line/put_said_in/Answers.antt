use Rattle.std.proofs.Common.{◌≡◌, ◌++◌, sym, subst, OnOk}
use Rattle.dr_ledger_history.specs.declared.line.JournalLine.{JournalLine}
use Rattle.dr_ledger_text.specs.Lines.{line_part}
use Rattle.dr_ledger_text.proofs.line.put_said_in.Goals as goal

pub returns-in-Arrival : goal.returns-in-Arrival
returns-in-Arrival c =
    let P : JournalLine → Type 0 = λ line. OnOk c.put_arrival.result (c.put_arrival.new.out.items ≡ c.args.out.now.items ++ line_part line) in
    subst P (sym c.in-Arrival.is) c.put_arrival.ensures

pub returns-in-Repeat : goal.returns-in-Repeat
returns-in-Repeat c =
    let P : JournalLine → Type 0 = λ line. OnOk c.put_arrived.result (c.put_arrived.new.out.items ≡ c.args.out.now.items ++ line_part line) in
    subst P (sym c.in-Repeat.is) c.put_arrived.ensures
