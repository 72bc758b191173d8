use Rattle.std.proofs.Common.{Option}
use Rattle.sqlite.specs.Held.{state}
use Rattle.sqlite.specs.Tree.{Trees}
use Rattle.dr_store_reads.specs.Queries.{IsKeyOf, IsPrintOf}
use Rattle.dr_store_reads.specs.declared.finding.Print.{Print}
use Rattle.dr_store_calls.specs.Knowing.{IsWhatIsKnown}
use Rattle.dr_store_calls.specs.declared.knowing.Known.{Known}
use Rattle.dr_store_calls.proofs.Calls.{asked_looked}
use Rattle.dr_store_calls.proofs.Reading.{looked_fault}
use Rattle.dr_store_calls.proofs.knowing.known_by.Goals as goal

pub returns-in-Err-clause-looked : goal.returns-in-Err-clause-looked
returns-in-Err-clause-looked g c n part =
    let item = c.args.item.now in
    let old = state g.S.Store c.args.conn.now in
    let new = state g.S.Store c.find_print.new.conn in
    let Shows : Trees → Option Print → Type 0 = λ base. IsPrintOf item.uid base in
    let Says : Trees → Known → Type 0 =
    λ base known. IsKeyOf item.uid base c.args.key → IsWhatIsKnown base item known in
    looked_fault n part Shows Says old new c.in-Err.fault
    (asked_looked n part _ old new Shows c.in-Err.ensures.asked)
