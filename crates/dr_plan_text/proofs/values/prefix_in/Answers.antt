use Rattle.std.proofs.Common.{refl, sym, ◌∙◌, subst, [], ◌∷◌}
use Rattle.std.proofs.lemmas.Bool.{false≢true}
use Rattle.std.proofs.lemmas.List.{append_cancel_right}
use Rattle.dr_plan_model.specs.Formed.{IsPrefix}
use Rattle.dr_plan_text.proofs.values.prefix_in.Goals as goal

pub returns-then-is_prefix : goal.returns-then-is_prefix
returns-then-is_prefix c = (c.in-Some.ensures, c.if-is_prefix.ensures.0 refl)

pub returns : goal.returns
returns c = λ prefix same is.
    let one = append_cancel_right prefix c.in-Some.prefix.now (42 ∷ []) (sym same ∙ c.in-Some.ensures) in
    false≢true (c.if-is_prefix.ensures.1 (subst IsPrefix one is))
