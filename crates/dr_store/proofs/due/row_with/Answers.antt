use Rattle.std.proofs.Common.{◌≡◌, IsTrue, false, true, true≢false, refl, rules, subst, sym, ◌∙◌}
use Rattle.dr_store.specs.Reading.{IsReadAgain}
use Rattle.dr_store.proofs.Again.{is_again, its_own_item}
use Rattle.dr_store.proofs.due.row_with.Goals as goal

pub returns-then-is_of : goal.returns-then-is_of
returns-then-is_of c =
    let yes : IsTrue c.is_of.result = search rules in
    is_again c.args.item c.into_job.result c.args.instance c.requires.item c.into_job.ensures.same (c.is_of.ensures.0 yes)

pub returns : goal.returns
returns c =
    let no : c.is_of.result ≡ false = search rules in
    subst (IsReadAgain c.args.instance c.args.item.body) (sym c.unread.ensures)
    (refl, λ own. true≢false (sym (c.is_of.ensures.1 (its_own_item c.args.item c.args.instance c.requires.item c.requires.syntax own)) ∙ no))
