use Rattle.std.proofs.Common.{◌≡◌, ◌≢◌, subst, sym, refl}
use Rattle.dr_ledger.specs.declared.content.NextRow.{NextRow}
use Rattle.dr_store_reads.proofs.Outcomes.{reads_map}
use Rattle.dr_store.specs.Reading.{IsReadAgain}
use Rattle.dr_store.proofs.Again.{no_item}
use Rattle.dr_store.proofs.due.read_again.Goals as goal

pub returns-in-Ok : goal.returns-in-Ok
returns-in-Ok c = subst (λ bytes. IsReadAgain c.args.instance bytes c.row_with.result) c.in-Ok.ensures.2 c.row_with.ensures

pub returns-in-Err : goal.returns-in-Err
returns-in-Err c =
    reads_map c.not_read.result (λ found says. subst (IsReadAgain c.args.instance c.args.bytes) (sym says.0) (refl, no_item c.args.instance c.args.bytes c.in-Err.fault c.in-Err.ensures says.1)) c.not_read.ensures
