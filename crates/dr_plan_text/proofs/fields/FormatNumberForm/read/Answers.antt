use Rattle.std.proofs.lemmas.Bool.{false≢true}
use Rattle.toml.specs.View.{view}
use Rattle.dr_plan_text.proofs.OfValues.{no_format}
use Rattle.dr_plan_text.proofs.fields.FormatNumberForm.read.Goals as goal

pub returns-clause-field : goal.returns-clause-field
returns-clause-field c = λ e. no_format (view c.args.value.now) (λ is. false≢true (c.if-is_number.ensures.1 is)) (λ is. false≢true (c.if-is_number-2.ensures.1 is)) (λ is. false≢true (c.if-is_number-3.ensures.1 is))
