use Rattle.std.proofs.Common.{◌∙◌, subst}
use Rattle.std.specs.Prelude.{MatchResult}
use Rattle.dr_base.specs.Texts.{Text}
use Rattle.dr_word_rehearse.specs.Looks.{IsLookAt, IsUnread}
use Rattle.dr_word_rehearse.proofs.Visits.{unopened_unread}
use Rattle.dr_word_rehearse.proofs.looking.look_in.Goals as goal

pub returns-in-Ok : goal.returns-in-Ok
returns-in-Ok g c =
    let P : Text → Type 0 = λ path. MatchResult c.look_by.result (IsLookAt g.O.Ledger.Ledger.site g.O.Ledger.Ledger.book g.O.Ledger.Ledger.stands c.args.next.now.plan c.args.name.now (g.O.Ledgers.opens c.args.ledgers.now path) c.args.site.now c.args.own.now) IsUnread in
    subst P (c.as_str.ensures.value ∙ c.in-Ok.ensures) c.look_by.ensures

pub returns-in-Err : goal.returns-in-Err
returns-in-Err g c = unopened_unread c.in-Err.halt c.in-Err.ensures
