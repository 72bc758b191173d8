use Rattle.std.proofs.Common.{◌<◌, inl, inr, subst, List, [], Contains, arith}
use Rattle.dr_base.specs.Texts.{Text}
use Rattle.dr_route.proofs.names.set_of.Goals as goal

pub returns-clause-same : goal.returns-clause-same
returns-clause-same c = λ name.
    let N : List Text → Type 0 = λ keys. Contains keys name in
    let same = c.in_ok-listed.ensures.same name in
    let all = c.in_ok-add_names.ensures name in (
      λ h. elim (all.0 (same.0 h)) [
        | inl before ↦
            let none : Contains [] name = subst N c.new-set.ensures.empty before in
            let lt : none.0 < 0 = none.1 in
            absurd (omega arith)
        | inr given ↦ given
      ],
      λ h. same.1 (all.1 (inr h)),
    )
