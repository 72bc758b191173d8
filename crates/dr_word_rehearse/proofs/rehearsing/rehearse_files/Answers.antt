use Rattle.std.proofs.Common.{List, subst}
use Rattle.std.specs.Prelude.{IfOk, map as mapped}
use Rattle.dr_run_open.specs.declared.status.Status.{Status}
use Rattle.dr_word_adopt.specs.Names.{text_of}
use Rattle.dr_word_rehearse.specs.Endings.{EndsRehearsal, Rehearses}
use Rattle.dr_word_rehearse.specs.Rehearsals.{halt_of}
use Rattle.dr_word_rehearse.specs.declared.looking.Looked.{Looked}
use Rattle.dr_word_rehearse.proofs.Printed.{ok_as}
use Rattle.dr_word_rehearse.proofs.rehearsing.rehearse_files.Goals as goal

pub returns : goal.returns
returns g c =
    let old = g.W.Write.contents c.args.output.now in
    let new = g.W.Write.contents c.tell_rehearsal-told.new.output in
    let all = c.rehearse_given-came.new.all.items in
    let came = halt_of c.rehearse_given-came.result in
    let E : List Looked → Type 0 = λ ls. IfOk c.tell_rehearsal-told.result (EndsRehearsal came ls old new) in
    let Q : Status → Type 0 = Rehearses (g.F.Files.holds c.args.files.now) (g.O.Ledgers.opens c.args.ledgers.now) (g.O.ShowsFiles.shows c.args.ledgers.now) g.O.Ledger.Ledger.site g.O.Ledger.Ledger.book g.O.Ledger.Ledger.stands c.args.given (mapped text_of c.args.others.now) old new in
    ok_as c.tell_rehearsal-told.result (EndsRehearsal came all old new) Q
    (λ status h. (came, all, c.rehearse_given-came.ensures, h)) (subst E c.as_slice.ensures.value c.tell_rehearsal-told.ensures)
