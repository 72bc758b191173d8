use Rattle.std.proofs.Common.{List, subst}
use Rattle.dr_base.specs.Texts.{Text}
use Rattle.dr_ledger_memory.specs.Bringings.{AreCopies}
use Rattle.dr_ledger_memory.proofs.Steps.{is_for}
use Rattle.dr_ledger_memory.proofs.bringing.bringing.Goals as goal

pub returns-in-Ok : goal.returns-in-Ok
returns-in-Ok c =
    let copies = c.in-Ok.copies in
    let P : List Text → Type 0 = λ to. AreCopies c.args.caller.now c.args.item to c.args.rows.now copies in
    is_for c.args.caller.now c.args.item c.args.targets c.args.rows.now copies c.joined.result (subst P c.as_slice.ensures c.in-Ok.ensures) c.joined.ensures
