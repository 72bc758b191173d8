use Rattle.std.proofs.Common.{◌∙◌, inl, inr, List, Result, refl, subst}
use Rattle.std.specs.Prelude.{map as mapped}
use Rattle.dr_base.specs.Texts.{Text}
use Rattle.dr_run_open.specs.declared.halt.Halt.{Halt}
use Rattle.dr_run_open.specs.declared.halt.Halt.TheVariants.{Memory}
use Rattle.dr_word_adopt.specs.Names.{text_of}
use Rattle.dr_word_rehearse.specs.Rehearsals.{RehearsesBetween, halt_of}
use Rattle.dr_word_rehearse.proofs.Printed.{halt_as}
use Rattle.dr_word_rehearse.proofs.rehearsing.rehearse_besides.Goals as goal

pub returns : goal.returns
returns g c =
    let P : List Text → Type 0 = λ others. RehearsesBetween (g.O.Ledgers.opens c.args.ledgers.now) g.O.Ledger.Ledger.site g.O.Ledger.Ledger.book g.O.Ledger.Ledger.stands c.args.folder.now c.args.old.now c.args.next.now (g.O.ShowsFiles.shows c.args.ledgers.now) others (halt_of c.rehearse_between.result) c.rehearse_between.new.all.items in
    subst P (c.as_slice.ensures.value ∙ c.in_ok-others.ensures) c.rehearse_between.ensures

pub returns-in_err-others : goal.returns-in_err-others
returns-in_err-others g c =
    let P : Result (Unit {0}) Halt → Type 0 = λ came. RehearsesBetween (g.O.Ledgers.opens c.args.ledgers.now) g.O.Ledger.Ledger.site g.O.Ledger.Ledger.book g.O.Ledger.Ledger.stands c.args.folder.now c.args.old.now c.args.next.now (g.O.ShowsFiles.shows c.args.ledgers.now) (mapped text_of c.args.others.now) came c.args.all.now.items in
    halt_as P Memory c.from_residual.result c.from_residual.ensures.0 c.from_residual.ensures.1 (inr (Memory, refl, c.requires, inr (inl tt)))

pub rehearse_between-requires : goal.rehearse_between-requires
rehearse_between-requires g c = c.requires
