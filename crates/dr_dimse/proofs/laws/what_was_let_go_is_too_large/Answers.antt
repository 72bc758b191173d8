use Rattle.std.proofs.Common.{refl, ap, ◌∙◌}
use Rattle.dr_dimse.specs.declared.message.Message.{Message}
use Rattle.dr_dimse.proofs.laws.what_was_let_go_is_too_large.Goals as goal

pub returns-clause-told : goal.returns-clause-told
returns-clause-told g = λ id c body p m new h. (ap (λ (x : Message). x.command) h.1, ap (λ (x : Message). x.body) h.1)

pub returns-clause-stays : goal.returns-clause-stays
returns-clause-stays g = λ id c body p new h. h.1

pub returns-clause-idle : goal.returns-clause-idle
returns-clause-idle g = refl

pub returns-clause-command : goal.returns-clause-command
returns-clause-command g = λ id text. refl
