use Rattle.std.proofs.Common.{◌∙◌, arith, Err, List, Result, subst, sym}
use Rattle.std.proofs.lemmas.List.{take_all}
use Rattle.dr_run_open.specs.declared.halt.Halt.{Halt}
use Rattle.dr_run_open.specs.declared.halt.Halt.TheVariants.{Memory}
use Rattle.dr_word_rehearse.specs.Rehearsals.{AreLooked, LooksAt}
use Rattle.dr_word_rehearse.specs.declared.looking.Looked.{Looked}
use Rattle.dr_word_rehearse.proofs.Printed.{halt_as}
use Rattle.dr_word_rehearse.proofs.Visits.{none_shown, one_shown, stops_here}
use Rattle.dr_word_rehearse.proofs.looking.look_at_all.Goals as goal

pub loop-name-init : goal.loop-name-init
loop-name-init g c = none_shown (g.O.Ledgers.opens c.args.ledgers.now) g.O.Ledger.Ledger.site g.O.Ledger.Ledger.book g.O.Ledger.Ledger.stands c.args.folder.now c.args.old.now c.args.next.now c.args.names.now c.args.all.now.items c.requires

pub loop-name-preserved : goal.loop-name-preserved
loop-name-preserved g c = one_shown (g.O.Ledgers.opens c.args.ledgers.now) g.O.Ledger.Ledger.site g.O.Ledger.Ledger.book g.O.Ledger.Ledger.stands c.args.folder.now c.args.old.now c.args.next.now c.args.names.now c.loop-name.name-index c.name-item.result c.loop-name-test.true c.name-item.is c.loop-name.all.items c.loop-name.invariant
    c.add.new.all.items c.in-Ok.look c.in_ok-add-in-Ok.ensures.ok c.in-Ok.ensures

pub returns : goal.returns
returns g c = (c.loop-name.invariant.0 ∙ take_all c.loop-name.name-index c.args.names.now (omega (arith, c.loop-name-test.false)), c.loop-name.invariant.1)

pub returns-in-Err : goal.returns-in-Err
returns-in-Err g c =
    subst (λ (halt : Halt). LooksAt (g.O.Ledgers.opens c.args.ledgers.now) g.O.Ledger.Ledger.site g.O.Ledger.Ledger.book g.O.Ledger.Ledger.stands c.args.folder.now c.args.old.now c.args.next.now c.args.names.now (Err halt) c.loop-name.all.items) (sym c.at.ensures)
    (stops_here (g.O.Ledgers.opens c.args.ledgers.now) g.O.Ledger.Ledger.site g.O.Ledger.Ledger.book g.O.Ledger.Ledger.stands c.args.folder.now c.args.old.now c.args.next.now c.args.names.now c.loop-name.name-index c.name-item.result c.loop-name-test.true c.name-item.is c.loop-name.all.items c.loop-name.invariant
    c.in-Err.halt c.in-Err.ensures)

pub returns-in_err-add-in-Ok : goal.returns-in_err-add-in-Ok
returns-in_err-add-in-Ok g c =
    halt_as (λ (came : Result (Unit {0}) Halt). LooksAt (g.O.Ledgers.opens c.args.ledgers.now) g.O.Ledger.Ledger.site g.O.Ledger.Ledger.book g.O.Ledger.Ledger.stands c.args.folder.now c.args.old.now c.args.next.now c.args.names.now came c.add.new.all.items) Memory c.from_residual.result c.from_residual.ensures.0 c.from_residual.ensures.1
    (subst (λ (ls : List Looked). AreLooked (g.O.Ledgers.opens c.args.ledgers.now) g.O.Ledger.Ledger.site g.O.Ledger.Ledger.book g.O.Ledger.Ledger.stands c.args.folder.now c.args.old.now c.args.next.now ls) (sym c.in_err-add-in-Ok.ensures.err) c.loop-name.invariant.1)
