use Rattle.std.proofs.Common.{Result, subst, sym}
use Rattle.std.specs.Prelude.{IfOk}
use Rattle.dr_word_adopt.specs.declared.change.Halted.{Halted}
use Rattle.dr_word_rehearse.specs.Endings.{EndsRehearsal}
use Rattle.dr_word_rehearse.specs.Rehearsals.{halt_of}
use Rattle.dr_word_rehearse.proofs.telling.tell_rehearsal.Goals as goal

pub returns-in-Ok : goal.returns-in-Ok
returns-in-Ok g c =
    let P : Result (Unit {0}) Halted → Type 0 = λ came. IfOk c.tell_all.result (EndsRehearsal (halt_of came) c.args.all.now (g.W.Write.contents c.args.output.now) (g.W.Write.contents c.tell_all.new.output)) in
    subst P (sym c.in-Ok.is) c.tell_all.ensures

pub returns-in-Err : goal.returns-in-Err
returns-in-Err g c =
    let P : Result (Unit {0}) Halted → Type 0 = λ came. IfOk c.tell_some.result (EndsRehearsal (halt_of came) c.args.all.now (g.W.Write.contents c.args.output.now) (g.W.Write.contents c.tell_some.new.output)) in
    subst P (sym c.in-Err.is) c.tell_some.ensures
