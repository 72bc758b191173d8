use Rattle.std.proofs.lemmas.List.Elements.{Contains-push}
use Rattle.dr_check_reasons.proofs.laws.what_is_added_is_taken.Goals as goal

pub returns-clause-syntax : goal.returns-clause-syntax
returns-clause-syntax c = λ row caller class syntax takes. (takes.0, takes.1, Contains-push row.syntaxes syntax)

pub returns-clause-caller : goal.returns-clause-caller
returns-clause-caller c = λ row names caller class syntax listed takes. (Contains-push names caller, takes.0, takes.1)
