use Rattle.std.proofs.Common.{Ok, Err}
use Rattle.std.specs.Prelude.{Result, IfOk, map as mapped}
use Rattle.dr_run_open.specs.declared.status.Status.{Status}
use Rattle.dr_word_adopt.specs.Endings.{AdoptsFiles, EndsChange}
use Rattle.dr_word_adopt.specs.Names.{text_of}
use Rattle.dr_word_adopt.proofs.adopting.adopt_files.Goals as goal

-- what is so of a status that is answered, another says of it too
ok_as :
    {X E : Type 0} (r : Result X E) (P Q : X → Type 0)
    → ((x : X) → P x → Q x) → IfOk r P → IfOk r Q
ok_as (Ok x) P Q f h = f x h
ok_as (Err e) P Q f h = tt

pub returns-in-Ok : goal.returns-in-Ok
returns-in-Ok g c =
    let old = g.W.Write.contents c.args.output.now in
    let new = g.W.Write.contents c.tell_change.new.output in
    let P : Status → Type 0 = EndsChange (Ok c.in-Ok.change) old new in
    let Q : Status → Type 0 =
    AdoptsFiles (g.F.Files.holds c.args.files.now) (g.O.Ledgers.opens c.args.ledgers.now)
    (g.O.ShowsFiles.shows c.args.ledgers.now) g.O.Ledger.Ledger.site g.O.Ledger.Ledger.book
    g.O.Ledger.Ledger.stands c.args.given (mapped text_of c.args.others.now)
    old new in
    ok_as c.tell_change.result P Q
    (λ status h. (Ok c.in-Ok.change, c.in-Ok.ensures, h)) c.tell_change.ensures

pub returns-in-Err : goal.returns-in-Err
returns-in-Err g c =
    let old = g.W.Write.contents c.args.output.now in
    let new = g.W.Write.contents c.tell_stop.new.output in
    let P : Status → Type 0 = EndsChange (Err c.in-Err.stop.halt) old new in
    let Q : Status → Type 0 =
    AdoptsFiles (g.F.Files.holds c.args.files.now) (g.O.Ledgers.opens c.args.ledgers.now)
    (g.O.ShowsFiles.shows c.args.ledgers.now) g.O.Ledger.Ledger.site g.O.Ledger.Ledger.book
    g.O.Ledger.Ledger.stands c.args.given (mapped text_of c.args.others.now)
    old new in
    ok_as c.tell_stop.result P Q
    (λ status h. (Err c.in-Err.stop.halt, c.in-Err.ensures, h)) c.tell_stop.ensures
