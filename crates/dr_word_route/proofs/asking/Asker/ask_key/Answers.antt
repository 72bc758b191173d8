use Rattle.std.proofs.Common.{subst, Ok, Err}
use Rattle.dr_plan_model.specs.Networks.{Network}
use Rattle.dr_word_route.specs.Keys.{ReadsSite, ReadsWords}
use Rattle.dr_word_route.specs.declared.reply.Response.TheVariants.{Refused}
use Rattle.dr_word_route.proofs.Told.{route_reply, stranger_reply}
use Rattle.dr_word_route.proofs.asking.Asker.ask_key.Goals as goal

pub returns-in-Err : goal.returns-in-Err
returns-in-Err g c =
    let plan = c.args.sealed.now.plan in
    let at = c.args.at.now in
    let reads : ReadsSite plan at (Err c.in-Err.refusal) = subst (λ (p : Network). ReadsSite p at (Err c.in-Err.refusal)) c.plan.ensures.same c.in-Err.ensures in
    (Refused c.in-Err.refusal, stranger_reply plan at (ReadsWords c.args.words.now) c.in-Err.refusal reads, c.in_ok-status-in-Err.ensures)

pub returns : goal.returns
returns g c =
    let plan = c.args.sealed.now.plan in
    let at = c.args.at.now in
    let site : ReadsSite plan at (Ok c.in-Ok.site) = subst (λ (p : Network). ReadsSite p at (Ok c.in-Ok.site)) c.plan.ensures.same c.in-Ok.ensures in (
      c.reply_for-reply.result,
      route_reply plan at (ReadsWords c.args.words.now) (λ h. h) c.in-Ok.site site c.key_of_words-key.result c.key_of_words-key.ensures c.reply_for-reply.result c.reply_for-reply.ensures,
      c.in_ok-status.ensures,
    )
