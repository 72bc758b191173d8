use Rattle.std.proofs.Common.{◌∙◌, Option, subst, sym}
use Rattle.std.proofs.lemmas.List.{take_all}
use Rattle.dr_ledger.specs.Pairs.{Pair}
use Rattle.dr_run_open.specs.declared.halt.Halt.{Halt}
use Rattle.dr_run_open.specs.declared.halt.Halt.TheVariants.{Memory}
use Rattle.dr_word_adopt.specs.Beginnings.{OpensThere}
use Rattle.dr_word_adopt.specs.Changes.{StopsAt}
use Rattle.dr_word_adopt.specs.Lookings.{AllLookAs, LooksAs}
use Rattle.dr_word_adopt.specs.declared.change.UnfitRow.{UnfitRow}
use Rattle.dr_word_adopt.proofs.Changed.{stop_as}
use Rattle.dr_word_adopt.proofs.Nodes.{found_unfit, one_more, stops_here, unnamed}
use Rattle.dr_word_adopt.proofs.looking.look_at_all.Goals as goal

pub loop-name-preserved : goal.loop-name-preserved
loop-name-preserved g c = one_more (OpensThere (g.O.Ledgers.opens c.args.ledgers.now) (g.O.ShowsFiles.shows c.args.ledgers.now)) g.O.Ledger.Ledger.site g.O.Ledger.Ledger.book g.O.Ledger.Ledger.stands c.args.folder.now c.args.old.now c.args.next.now c.args.names.now c.loop-name.name-index c.name-item.result c.loop-name-test.true c.name-item.is c.loop-name.all.items c.look_at.new.all.items c.loop-name.invariant.0 c.loop-name.invariant.1
    (subst (λ (u : Option Pair). LooksAs (OpensThere (g.O.Ledgers.opens c.args.ledgers.now) (g.O.ShowsFiles.shows c.args.ledgers.now)) g.O.Ledger.Ledger.site g.O.Ledger.Ledger.book g.O.Ledger.Ledger.stands c.args.folder.now c.args.old.now c.args.next.now c.name-item.result u c.loop-name.all.items c.look_at.new.all.items) c.in-Ok-None.field-0-is c.in-Ok-None.ensures)

pub returns : goal.returns
returns g c = (c.loop-name.invariant.0 ∙ take_all c.loop-name.name-index c.args.names.now c.loop-name-test.false, c.loop-name.invariant.1)

pub returns-in-Ok-Some : goal.returns-in-Ok-Some
returns-in-Ok-Some g c =
    let made = c.in_ok-unfit_at-in-Ok-Some.ensures in
    found_unfit (OpensThere (g.O.Ledgers.opens c.args.ledgers.now) (g.O.ShowsFiles.shows c.args.ledgers.now)) g.O.Ledger.Ledger.site g.O.Ledger.Ledger.book g.O.Ledger.Ledger.stands c.args.folder.now c.args.old.now c.args.next.now c.args.names.now c.loop-name.name-index c.name-item.result c.loop-name-test.true c.name-item.is c.loop-name.all.items c.look_at.new.all.items c.loop-name.invariant.0 c.loop-name.invariant.1
    c.in-Ok-Some.row c.in_ok-unfit_at-in-Ok-Some.field-0 made.0 made.1 made.2
    (subst (λ (u : Option Pair). LooksAs (OpensThere (g.O.Ledgers.opens c.args.ledgers.now) (g.O.ShowsFiles.shows c.args.ledgers.now)) g.O.Ledger.Ledger.site g.O.Ledger.Ledger.book g.O.Ledger.Ledger.stands c.args.folder.now c.args.old.now c.args.next.now c.name-item.result u c.loop-name.all.items c.look_at.new.all.items) c.in-Ok-Some.field-0-is c.in-Ok-Some.ensures)

pub returns-in_err-unfit_at-in-Ok-Some : goal.returns-in_err-unfit_at-in-Ok-Some
returns-in_err-unfit_at-in-Ok-Some g c =
    stop_as (λ (unfit : Option UnfitRow). AllLookAs (OpensThere (g.O.Ledgers.opens c.args.ledgers.now) (g.O.ShowsFiles.shows c.args.ledgers.now)) g.O.Ledger.Ledger.site g.O.Ledger.Ledger.book g.O.Ledger.Ledger.stands c.args.folder.now c.args.old.now c.args.next.now c.args.names.now unfit c.look_at.new.all.items)
    (λ (halt : Halt). StopsAt (OpensThere (g.O.Ledgers.opens c.args.ledgers.now) (g.O.ShowsFiles.shows c.args.ledgers.now)) g.O.Ledger.Ledger.site g.O.Ledger.Ledger.book g.O.Ledger.Ledger.stands c.args.folder.now c.args.old.now c.args.next.now c.args.names.now halt c.look_at.new.all.items)
    Memory c.from_residual.result c.from_residual.ensures.0 c.from_residual.ensures.1
    (unnamed (OpensThere (g.O.Ledgers.opens c.args.ledgers.now) (g.O.ShowsFiles.shows c.args.ledgers.now)) g.O.Ledger.Ledger.site g.O.Ledger.Ledger.book g.O.Ledger.Ledger.stands c.args.folder.now c.args.old.now c.args.next.now c.args.names.now c.loop-name.name-index c.name-item.result c.loop-name-test.true c.name-item.is c.loop-name.all.items c.look_at.new.all.items c.loop-name.invariant.0 c.loop-name.invariant.1
    c.in-Ok-Some.row (subst (λ (u : Option Pair). LooksAs (OpensThere (g.O.Ledgers.opens c.args.ledgers.now) (g.O.ShowsFiles.shows c.args.ledgers.now)) g.O.Ledger.Ledger.site g.O.Ledger.Ledger.book g.O.Ledger.Ledger.stands c.args.folder.now c.args.old.now c.args.next.now c.name-item.result u c.loop-name.all.items c.look_at.new.all.items) c.in-Ok-Some.field-0-is c.in-Ok-Some.ensures))

pub returns-in-Err : goal.returns-in-Err
returns-in-Err g c =
    subst (λ (halt : Halt). StopsAt (OpensThere (g.O.Ledgers.opens c.args.ledgers.now) (g.O.ShowsFiles.shows c.args.ledgers.now)) g.O.Ledger.Ledger.site g.O.Ledger.Ledger.book g.O.Ledger.Ledger.stands c.args.folder.now c.args.old.now c.args.next.now c.args.names.now halt c.look_at.new.all.items) (sym c.at.ensures)
    (stops_here (OpensThere (g.O.Ledgers.opens c.args.ledgers.now) (g.O.ShowsFiles.shows c.args.ledgers.now)) g.O.Ledger.Ledger.site g.O.Ledger.Ledger.book g.O.Ledger.Ledger.stands c.args.folder.now c.args.old.now c.args.next.now c.args.names.now c.loop-name.name-index c.name-item.result c.loop-name-test.true c.name-item.is c.loop-name.all.items c.look_at.new.all.items c.loop-name.invariant.0 c.loop-name.invariant.1
    c.in-Err.halt c.in-Err.ensures.0 c.in-Err.ensures.1)
