use Rattle.std.proofs.Common.{◌≡◌, ◌∙◌, List, subst, ap}
use Rattle.dr_base.specs.Texts.{Text}
use Rattle.dr_ledger.specs.Books.{Line}
use Rattle.dr_word_audit.specs.Places.{IsLast, lines_named, says}
use Rattle.dr_word_audit.proofs.placing.place_of.Goals as goal

pub returns : goal.returns
returns c =
    let P : List Line → Type 0 = λ lines. IsLast (says c.args.mismatch.now) lines c.last_of.result in
    subst P (c.lines_of.ensures ∙ ap (λ (name : Text). lines_named name c.args.nodes.now) c.node_in.ensures) c.last_of.ensures
