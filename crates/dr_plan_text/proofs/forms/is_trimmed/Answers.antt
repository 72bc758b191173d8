use Rattle.std.proofs.lemmas.Bool.{false≢true}
use Rattle.dr_plan_text.proofs.Trimmed.{first_not_space, some_bytes}
use Rattle.dr_plan_text.proofs.forms.is_trimmed.Goals as goal

pub returns-then-text-eq32 : goal.returns-then-text-eq32
returns-then-text-eq32 c = (λ h. absurd (false≢true h), λ is. absurd (first_not_space c.args.text.now (some_bytes c.args.text.now c.if-is_empty.ensures) is c.if-text-eq32.true))
