use Rattle.std.proofs.Common.{inr, subst, sym}
use Rattle.std.specs.Prelude.{List}
use Rattle.dr_base.specs.Texts.{Text}
use Rattle.dr_word_adopt.proofs.Begun.{goes_over}
use Rattle.dr_word_adopt.specs.Beginnings.{AreToGo}
use Rattle.dr_word_adopt.proofs.adopting.change_between.Goals as goal

pub returns-in-Ok : goal.returns-in-Ok
returns-in-Ok g c =
    let ours = subst (λ (names : List Text). AreToGo (g.O.ShowsFiles.shows c.args.ledgers.now) c.args.folder.now c.args.old.now.plan c.args.next.now.plan c.args.others.now names) (sym c.as_slice.ensures.value) c.in-Ok.ensures in
    goes_over (g.O.Ledgers.opens c.args.ledgers.now) (g.O.ShowsFiles.shows c.args.ledgers.now) g.O.Ledger.Ledger.site g.O.Ledger.Ledger.book g.O.Ledger.Ledger.stands c.args.folder.now c.args.old.now c.args.next.now c.args.others.now c.as_slice.result.now ours
    c.change_named.result c.change_named.new.all.items c.change_named.ensures

pub returns-in-Err : goal.returns-in-Err
returns-in-Err g c = inr (c.requires, c.in-Err.ensures)

pub change_named-requires : goal.change_named-requires
change_named-requires g c = c.requires
