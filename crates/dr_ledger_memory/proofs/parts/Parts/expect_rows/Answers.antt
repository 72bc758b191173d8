use Rattle.std.proofs.Common.{Contains, List, subst, sym}
use Rattle.dr_ledger.specs.declared.item.Progress.TheVariants.{Waiting}
use Rattle.dr_ledger_memory.specs.Entries.{OwnRow}
use Rattle.dr_ledger_memory.proofs.parts.Parts.expect_rows.Goals as goal

pub returns-clause-there : goal.returns-clause-there
returns-clause-there c = λ dest tries due m.
    let P : List OwnRow → Type 0 = λ es. Contains es (dest, Waiting tries due) in
    c.in_ok-expect.ensures.there dest tries due (subst P (sym c.as_slice.ensures.value) m)
