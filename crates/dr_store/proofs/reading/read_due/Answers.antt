use Rattle.std.proofs.Common.{Option, subst}
use Rattle.dr_store.specs.declared.due.DueRow.{DueRow}
use Rattle.dr_store.specs.Reading.{NextsStored}
use Rattle.dr_store.proofs.reading.read_due.Goals as goal

pub returns-in-Some-clause-read : goal.returns-in-Some-clause-read
returns-in-Some-clause-read g c db dest now found =
    let P : Option DueRow → Type 0 = λ due. NextsStored db dest now due in
    c.read_some.ensures.read db dest now (subst P c.in-Some.is found)

pub returns-in-None-clause-read : goal.returns-in-None-clause-read
returns-in-None-clause-read g c db dest now found clean =
    let P : Option DueRow → Type 0 = λ due. NextsStored db dest now due in
    subst P c.in-None.is found
