use Rattle.std.proofs.lemmas.Bool.{false≢true}
use Rattle.dr_plan_text.proofs.OfValues.{no_text_named}
use Rattle.dr_plan_text.proofs.values.named_in.Goals as goal

pub returns-in_default-clause-field : goal.returns-in_default-clause-field
returns-in_default-clause-field c = λ e. no_text_named c.args.text.now (λ is. false≢true (c.if-is_literal.ensures.1 is)) c.in_default.ensures
