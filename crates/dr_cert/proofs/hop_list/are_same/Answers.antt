use Rattle.std.proofs.Common.{sym, ◌∙◌}
use Rattle.std.proofs.lemmas.Bool.{false≢true}
use Rattle.dr_cert.proofs.hop_list.are_same.Goals as goal

pub returns-then-not-branch : goal.returns-then-not-branch
returns-then-not-branch c = (
  (λ h. absurd (false≢true h)),
  (λ same. absurd (false≢true (sym c.if-not-branch.true ∙ c.in_ok-are_among.ensures.1 (λ hop. (same hop).0)))),
)

pub returns : goal.returns
returns c = (
  (λ h hop. (c.in_ok-are_among.ensures.0 c.if-not-branch.false hop, c.in_ok-back.ensures.0 h hop)),
  (λ same. c.in_ok-back.ensures.1 (λ hop. (same hop).1)),
)
