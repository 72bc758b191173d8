use Rattle.std.proofs.Common.{Option, subst}
use Rattle.dr_word_adopt.specs.Beginnings.{OpensThere}
use Rattle.dr_word_adopt.specs.Lookings.{AllLookAs}
use Rattle.dr_word_adopt.specs.declared.change.UnfitRow.{UnfitRow}
use Rattle.dr_word_adopt.proofs.Nodes.{ends_between, unfit_between}
use Rattle.dr_word_adopt.proofs.Standings.{all_may}
use Rattle.dr_word_adopt.proofs.adopting.change_named.Goals as goal

pub make_change-requires : goal.make_change-requires
make_change-requires g c =
    let looked = subst (λ (u : Option UnfitRow). AllLookAs (OpensThere (g.O.Ledgers.opens c.args.ledgers.now) (g.O.ShowsFiles.shows c.args.ledgers.now)) g.O.Ledger.Ledger.site g.O.Ledger.Ledger.book g.O.Ledger.Ledger.stands c.args.folder.now c.args.old.now c.args.next.now c.args.names.now u c.look_at_all.new.all.items) c.in-Ok-None.field-0-is c.in-Ok-None.ensures in
    all_may (OpensThere (g.O.Ledgers.opens c.args.ledgers.now) (g.O.ShowsFiles.shows c.args.ledgers.now)) g.O.Ledger.Ledger.site g.O.Ledger.Ledger.book g.O.Ledger.Ledger.stands c.args.folder.now c.args.old.now c.args.next.now c.look_at_all.new.all.items looked.1

pub returns-in-Ok-None : goal.returns-in-Ok-None
returns-in-Ok-None g c =
    let looked = subst (λ (u : Option UnfitRow). AllLookAs (OpensThere (g.O.Ledgers.opens c.args.ledgers.now) (g.O.ShowsFiles.shows c.args.ledgers.now)) g.O.Ledger.Ledger.site g.O.Ledger.Ledger.book g.O.Ledger.Ledger.stands c.args.folder.now c.args.old.now c.args.next.now c.args.names.now u c.look_at_all.new.all.items) c.in-Ok-None.field-0-is c.in-Ok-None.ensures in
    ends_between (OpensThere (g.O.Ledgers.opens c.args.ledgers.now) (g.O.ShowsFiles.shows c.args.ledgers.now)) g.O.Ledger.Ledger.site g.O.Ledger.Ledger.book g.O.Ledger.Ledger.stands c.args.folder.now c.args.old.now c.args.next.now c.args.names.now c.look_at_all.new.all.items c.make_change.new.all.items looked.0 looked.1 c.make_change.result c.make_change.ensures

pub returns-in-Ok-Some : goal.returns-in-Ok-Some
returns-in-Ok-Some g c =
    unfit_between (OpensThere (g.O.Ledgers.opens c.args.ledgers.now) (g.O.ShowsFiles.shows c.args.ledgers.now)) g.O.Ledger.Ledger.site g.O.Ledger.Ledger.book g.O.Ledger.Ledger.stands c.args.folder.now c.args.old.now c.args.next.now c.args.names.now c.look_at_all.new.all.items c.in-Ok-Some.unfit
    (subst (λ (u : Option UnfitRow). AllLookAs (OpensThere (g.O.Ledgers.opens c.args.ledgers.now) (g.O.ShowsFiles.shows c.args.ledgers.now)) g.O.Ledger.Ledger.site g.O.Ledger.Ledger.book g.O.Ledger.Ledger.stands c.args.folder.now c.args.old.now c.args.next.now c.args.names.now u c.look_at_all.new.all.items) c.in-Ok-Some.field-0-is c.in-Ok-Some.ensures)

pub returns-in-Err : goal.returns-in-Err
returns-in-Err g c = c.in-Err.ensures
