use Rattle.std.proofs.Common.{ℕ, List, inr, subst, Ok}
use Rattle.dr_plan_model.specs.Networks.{Network}
use Rattle.dr_word_route.specs.Keys.{ReadsFileKey, ReadsSite}
use Rattle.dr_word_route.proofs.Told.{route_reply}
use Rattle.dr_word_route.proofs.asking.Asker.ask_file.Goals as goal

pub returns : goal.returns
returns g c =
    let plan = c.args.sealed.now.plan in
    let at = c.args.at.now in
    let bytes = c.in_ok-bytes.bytes.items in
    let site : ReadsSite plan at (Ok c.in-Ok.site) = subst (λ (p : Network). ReadsSite p at (Ok c.in-Ok.site)) c.plan.ensures.same c.in-Ok.ensures in
    let key : ReadsFileKey bytes c.key_of_file-key.result = subst (λ (b : List ℕ). ReadsFileKey b c.key_of_file-key.result) c.as_slice.ensures.value c.key_of_file-key.ensures in
    inr (
      bytes,
      c.in_ok-bytes.ensures,
      (
        c.reply_for-reply.result,
        route_reply plan at (ReadsFileKey bytes) (λ h. h) c.in-Ok.site site c.key_of_file-key.result key c.reply_for-reply.result c.reply_for-reply.ensures,
        c.in_ok-status.ensures,
      ),
    )
