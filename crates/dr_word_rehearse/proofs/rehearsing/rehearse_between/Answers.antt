use Rattle.std.proofs.Common.{inl, inr, List, refl, subst, sym}
use Rattle.dr_base.specs.Texts.{Text}
use Rattle.dr_word_adopt.specs.Beginnings.{AreToGo}
use Rattle.dr_word_rehearse.proofs.rehearsing.rehearse_between.Goals as goal

pub returns-in-Ok : goal.returns-in-Ok
returns-in-Ok g c =
    let P : List Text → Type 0 = λ names. AreToGo (g.O.ShowsFiles.shows c.args.ledgers.now) c.args.folder.now c.args.old.now.plan c.args.next.now.plan c.args.others.now names in
    inl (c.as_slice.result.now, subst P (sym c.as_slice.ensures.value) c.in-Ok.ensures, c.look_at_all.ensures)

pub returns-in-Err : goal.returns-in-Err
returns-in-Err g c = inr (c.in-Err.stop.halt, refl, c.requires, c.in-Err.ensures)

pub look_at_all-requires : goal.look_at_all-requires
look_at_all-requires g c = c.requires
