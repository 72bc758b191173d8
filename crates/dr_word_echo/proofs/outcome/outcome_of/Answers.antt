use Rattle.std.proofs.Common.{◌≡◌, ◌∙◌, subst}
use Rattle.dr_base.specs.Texts.{Text}
use Rattle.dr_word_echo.specs.Outcomes.{IsOutcomeOf}
use Rattle.dr_word_echo.proofs.outcome.outcome_of.Goals as goal

pub returns : goal.returns
returns g c =
    let caller : c.in-Ok.caller ≡ c.args.caller.now = c.in-Ok.ensures ∙ c.as_bytes.ensures.value in
    let called : c.in-Ok-copy_of.called ≡ c.args.called.now = c.in-Ok-copy_of.ensures ∙ c.as_bytes-2.ensures.value in
    let P : Text → Text → Type 0 = λ from to.
    IsOutcomeOf (g.N.Network.connects c.args.network.now) g.N.Socket.Link.hears g.N.Socket.Link.sends g.N.Socket.Link.closes (g.C.Clock.tells c.args.clock.now) c.args.plan.now from to c.outcome_between.result in
    subst (λ from. P from c.args.called.now) caller (subst (λ to. P c.in-Ok.caller to) called c.outcome_between.ensures)
