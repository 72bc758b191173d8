use Rattle.std.proofs.Common.{◌≡◌, inl, inr, sym, ◌∙◌, ap, subst, List}
use Rattle.std.proofs.lemmas.Bool.{false≢true}
use Rattle.dr_base.specs.Texts.{Text}
use Rattle.dr_plan_model.specs.declared.plan.Values.{Values}
use Rattle.dr_plan_model.specs.Naming.{listed_prefixes}
use Rattle.dr_plan_model.specs.Walks.{BeginsOne}
use Rattle.dr_plan_model.proofs.SetLemmas.{listed_is}
use Rattle.dr_plan_model.proofs.entering.is_listed_in.Goals as goal

pub returns-then-is_in_set : goal.returns-then-is_in_set
returns-then-is_in_set c =
    let by = listed_is c.args.values.now _ c.args.value.now c.in-Listed.is in
    (λ yes. by.1 (inl ((c.requires.same c.args.value.now).0 (c.is_in_set.ensures.0 yes))), λ h. c.if-is_in_set.true)

pub returns-else-is_in_set : goal.returns-else-is_in_set
returns-else-is_in_set c =
    let by = listed_is c.args.values.now _ c.args.value.now c.in-Listed.is in
    let prefixes : c.as_slice.result.now ≡ listed_prefixes c.args.values.now = c.as_slice.ensures ∙ ap (λ (s : Values). listed_prefixes s) (sym c.in-Listed.is) in
    let B : List Text → Type 0 = λ ps. BeginsOne ps c.args.value.now in (
      λ yes. by.1 (inr (subst B prefixes (c.begins_one.ensures.0 yes))),
      λ h. elim (by.0 h) [
        | inl one ↦ absurd (false≢true (sym c.if-is_in_set.false ∙ c.is_in_set.ensures.1 ((c.requires.same c.args.value.now).1 one)))
        | inr begun ↦ c.begins_one.ensures.1 (subst B (sym prefixes) begun)
      ],
    )
