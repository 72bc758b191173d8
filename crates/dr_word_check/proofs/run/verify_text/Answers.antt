use Rattle.std.proofs.Common.{subst, inr}
use Rattle.dr_base.specs.Texts.{Text}
use Rattle.dr_word_check.specs.Verdicts.{IsVerdictOn}
use Rattle.dr_word_check.proofs.run.verify_text.Goals as goal

pub returns : goal.returns
returns g c =
    let P : Text → Type 0 = λ text. IsVerdictOn c.in-Ok.plan text c.verdict_on-verdict.result in
    inr (record {
      plan = c.in-Ok.plan;
      reads = c.in-Ok.ensures;
      second = c.in_ok-second.second.items;
      held = c.in_ok-second.ensures;
      verdict = c.verdict_on-verdict.result;
      right = subst P c.as_slice.ensures.value c.verdict_on-verdict.ensures;
      printed = c.in_ok-tell_verdict.ensures;
      ends = c.status-2.ensures.told;
    })
