use Rattle.std.proofs.Common.{ap, ◌∙◌, [], ◌∷◌}
use Rattle.dr_session.specs.declared.ends.LinkAction.{LinkAction}
use Rattle.dr_session.proofs.react.leaving.ready_abort.Goals as goal

pub returns : goal.returns
returns c = c.in_ok-acts.ensures ∙ ap (λ (a : LinkAction). a ∷ []) c.in_ok-action.ensures
