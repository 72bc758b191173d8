use Rattle.std.proofs.Common.{◌≡◌, inl, inr, sym, ◌∙◌, ap, subst, List}
use Rattle.std.proofs.lemmas.Bool.{false≢true}
use Rattle.dr_base.specs.Texts.{Text}
use Rattle.dr_plan_model.specs.declared.plan.Values.{Values}
use Rattle.dr_plan_model.specs.Naming.{listed_prefixes}
use Rattle.dr_plan_model.specs.Walks.{BeginsOne}
use Rattle.dr_plan_entries.proofs.Narrowing.{admits_literal}
use Rattle.dr_plan_entries.proofs.narrow.admits.Goals as goal

pub returns-then-is_in_set : goal.returns-then-is_in_set
returns-then-is_in_set c =
    let by = admits_literal c.args.values.now _ c.args.part.now c.in-Literal.literal c.in-Listed.is c.in-Literal.is in
    (λ yes. by.1 (inl ((c.requires.same c.in-Literal.literal).0 (c.is_in_set.ensures.0 yes))), λ h. c.if-is_in_set.true)

pub returns-else-is_in_set : goal.returns-else-is_in_set
returns-else-is_in_set c =
    let by = admits_literal c.args.values.now _ c.args.part.now c.in-Literal.literal c.in-Listed.is c.in-Literal.is in
    let prefixes : c.as_slice.result.now ≡ listed_prefixes c.args.values.now = c.as_slice.ensures ∙ ap (λ (s : Values). listed_prefixes s) (sym c.in-Listed.is) in
    let B : List Text → Type 0 = λ ps. BeginsOne ps c.in-Literal.literal in (
      λ yes. by.1 (inr (subst B prefixes (c.begins_one.ensures.0 yes))),
      λ h. elim (by.0 h) [
        | inl one ↦ absurd (false≢true (sym c.if-is_in_set.false ∙ c.is_in_set.ensures.1 ((c.requires.same c.in-Literal.literal).1 one)))
        | inr begun ↦ c.begins_one.ensures.1 (subst B (sym prefixes) begun)
      ],
    )
