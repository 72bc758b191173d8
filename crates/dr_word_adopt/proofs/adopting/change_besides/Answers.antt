use Rattle.std.proofs.Common.{◌∙◌, inl, inr, List, [], Result, refl, subst}
use Rattle.std.specs.Prelude.{map as mapped}
use Rattle.dr_base.specs.Texts.{Text}
use Rattle.dr_run_open.specs.declared.halt.Halt.{Halt}
use Rattle.dr_run_open.specs.declared.halt.Halt.TheVariants.{Memory}
use Rattle.dr_word_adopt.specs.Changes.{ChangesBetween, ComesOf, came_of}
use Rattle.dr_word_adopt.specs.Names.{text_of}
use Rattle.dr_word_adopt.specs.declared.change.Changeover.{Changeover}
use Rattle.dr_word_adopt.proofs.Changed.{came_as}
use Rattle.dr_word_adopt.proofs.adopting.change_besides.Goals as goal

pub returns : goal.returns
returns g c =
    let P : List Text → Type 0 = λ others. ChangesBetween (g.O.Ledgers.opens c.args.ledgers.now) (g.O.ShowsFiles.shows c.args.ledgers.now) g.O.Ledger.Ledger.site g.O.Ledger.Ledger.book g.O.Ledger.Ledger.stands c.args.folder.now c.args.old.now c.args.next.now others (came_of c.change_between-came.result) c.change_between-came.new.all.items in
    (c.change_between-came.new.all.items, subst P (c.as_slice.ensures.value ∙ c.in_ok-others.ensures) c.change_between-came.ensures)

pub returns-in_err-others : goal.returns-in_err-others
returns-in_err-others g c =
    let P : Result Changeover Halt → Type 0 = λ came. ComesOf (g.O.Ledgers.opens c.args.ledgers.now) (g.O.ShowsFiles.shows c.args.ledgers.now) g.O.Ledger.Ledger.site g.O.Ledger.Ledger.book g.O.Ledger.Ledger.stands c.args.folder.now c.args.old.now c.args.next.now (mapped text_of c.args.others.now) came in
    came_as P Memory c.from_residual.result c.from_residual.ensures.0 c.from_residual.ensures.1 ([], inr (refl, inr (inl tt)))
