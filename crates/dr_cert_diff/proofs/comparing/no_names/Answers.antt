use Rattle.std.proofs.Common.{◌≡◌, rules, subst, List, [], Contains}
use Rattle.dr_base.specs.Texts.{Text}
use Rattle.dr_plan_model.proofs.Gathered.{nothing_in_nil}
use Rattle.dr_cert_diff.proofs.comparing.no_names.Goals as goal

pub returns-clause-none : goal.returns-clause-none
returns-clause-none c = λ name among.
    let empty : c.new.result.keys ≡ [] = search rules in
    nothing_in_nil name (subst (λ (keys : List Text). Contains keys name) empty ((c.in_ok-names.ensures.same name).0 among))
