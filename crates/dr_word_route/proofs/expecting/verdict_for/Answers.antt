use Rattle.std.proofs.Common.{subst, List}
use Rattle.dr_plan_expect.specs.declared.words.Expectation.{Expectation}
use Rattle.dr_word_route.specs.Expecting.{IsVerdictOn}
use Rattle.dr_word_route.proofs.Told.{verdict_told}
use Rattle.dr_word_route.proofs.expecting.verdict_for.Goals as goal

pub returns-in-Ok : goal.returns-in-Ok
returns-in-Ok c =
    let plan = c.args.sealed.now.plan in
    let verdict = c.verdict_on.result in
    verdict_told plan c.args.text.now c.in-Ok.rows c.in-Ok.ensures verdict (subst (λ (rows : List Expectation). IsVerdictOn plan rows verdict) c.as_slice.ensures c.verdict_on.ensures)
