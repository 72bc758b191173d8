use Rattle.std.proofs.Common.{◌≡◌, inl, inr, rules, sym, subst, List, [], ◌∷◌, Contains, IsTrue}
use Rattle.dr_base.specs.Texts.{Text}
use Rattle.dr_plan_model.proofs.Gathered.{only_one, Contains-here}
use Rattle.dr_cert_trace.proofs.walking.add_if.Goals as goal

pub returns : goal.returns
returns c other =
    let one : c.from_ref.result.now ≡ c.args.name.now ∷ [] = c.from_ref.ensures.value in
    let is_added : IsTrue c.args.is_added = search rules in
    let added = c.in_ok-add_names.ensures other in (
      λ h. elim (added.0 h) [ inl earlier ↦ inl earlier | inr new ↦ inr (sym (only_one c.args.name.now other (subst (λ (xs : List Text). Contains xs other) one new)), is_added) ],
      λ h. elim h [
        | inl earlier ↦ added.1 (inl earlier)
        | inr same ↦ added.1 (inr (subst (λ (xs : List Text). Contains xs other) (sym one) (subst (λ (x : Text). Contains (c.args.name.now ∷ []) x) (sym same.0) (Contains-here c.args.name.now []))))
      ],
    )
