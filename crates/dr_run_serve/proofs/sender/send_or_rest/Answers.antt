use Rattle.std.proofs.Common.{◌∙◌, ◌*◌, ap, inl, inr, max, min, refl}
use Rattle.dr_run_serve.proofs.sender.send_or_rest.Goals as goal

pub returns-then-is_some-clause-sends : goal.returns-then-is_some-clause-sends
returns-then-is_some-clause-sends g c = inl c.in-Ok.ensures.sends

pub returns-else-is_some-clause-sends : goal.returns-else-is_some-clause-sends
returns-else-is_some-clause-sends g c = inl c.in-Ok.ensures.sends

pub returns-in-Err-clause-sends : goal.returns-in-Err-clause-sends
returns-in-Err-clause-sends g c =
    let longer = c.lengthened-sender.ensures in
    let first = longer.1 ∙ ap (λ n. max 1000 (min 300000 (2 * n))) c.none.ensures.1 in
    inr (c.in-Err._fault, c.now.result, c.in-Err.ensures.sends, c.now.ensures.tells, refl, (longer.0, first, longer.2), refl)
