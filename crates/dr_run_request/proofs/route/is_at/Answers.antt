use Rattle.std.proofs.Common.{◌≡◌, ◌↔◌, IsTrue, sym, ◌∙◌, subst}
use Rattle.dr_run_request.proofs.Going.{only_instance}
use Rattle.dr_run_request.specs.Asking.{IsAt}
use Rattle.dr_run_request.specs.declared.route.Route.{Route}
use Rattle.dr_run_request.proofs.route.is_at.Goals as goal

pub returns-then-goes_on : goal.returns-then-goes_on
returns-then-goes_on c =
    subst (λ (route : Route). IsTrue c.is_instance.result ↔ IsAt route c.args.path.now)
    (sym (only_instance c.args.route (sym c.goes_on.ensures ∙ c.if-goes_on.true))) c.is_instance.ensures
