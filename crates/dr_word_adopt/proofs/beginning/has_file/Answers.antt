use Rattle.std.proofs.Common.{◌∙◌, subst}
use Rattle.dr_base.specs.Texts.{Text}
use Rattle.dr_word_adopt.proofs.beginning.has_file.Goals as goal

pub returns-in-Ok : goal.returns-in-Ok
returns-in-Ok g c =
    let P : Text → Type 0 = λ path. g.O.ShowsFiles.shows c.args.ledgers.now path c.is_there.result in
    subst P (c.as_str.ensures.value ∙ c.in-Ok.ensures) c.is_there.ensures
