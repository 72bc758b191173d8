use Rattle.std.proofs.Common.{◌≡◌, inl, inr, rules, subst, List, [], Contains}
use Rattle.dr_base.specs.Texts.{Text}
use Rattle.dr_plan_model.proofs.Gathered.{nothing_in_nil}
use Rattle.dr_cert_diff.proofs.parts.merged.Goals as goal

pub returns : goal.returns
returns c = λ t.
    let empty : c.new-names.result.keys ≡ [] = search rules in
    let same = c.in_ok-all.ensures.same t in
    let first = c.in_ok-add_names.ensures t in
    let second = c.in_ok-add_names-2.ensures t in (
      λ h. elim (second.0 (same.0 h)) [
        | inl before ↦ elim (first.0 before) [
          | inl none ↦ absurd (nothing_in_nil t (subst (λ (keys : List Text). Contains keys t) empty none))
          | inr one ↦ inl one
        ]
        | inr other ↦ inr other
      ],
      λ h. same.1 (second.1 (elim h [ inl one ↦ inl (first.1 (inr one)) | inr other ↦ inr other ])),
    )
