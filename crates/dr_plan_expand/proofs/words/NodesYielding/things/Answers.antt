use Rattle.std.proofs.Common.{sym, ◌∙◌, ap, subst, inl, inr, List, [], ◌∷◌}
use Rattle.dr_base.specs.Texts.{Text}
use Rattle.dr_plan_expand.specs.Words.{Defines}
use Rattle.dr_plan_expand.proofs.Marked.{same_mark}
use Rattle.dr_plan_expand.proofs.words.NodesYielding.things.Goals as goal

pub returns-in_default-clause-ok : goal.returns-in_default-clause-ok
returns-in_default-clause-ok c = inr (rw c.as_bytes.ensures at c.in_default.ensures, c.in_ok-one.ensures ∙ ap (λ t. t ∷ []) c.as_bytes-in_default.ensures)

pub returns-in_ok-copy_of-in-Some-defined-clause-ok : goal.returns-in_ok-copy_of-in-Some-defined-clause-ok
returns-in_ok-copy_of-in-Some-defined-clause-ok c =
    let D : List Text → Type 0 = λ names. Defines c.args.self.now.0.now c.in-Some.name.now names in
    inl (c.in-Some.name.now, rw c.as_bytes.ensures at c.in-Some.ensures, subst D (sym c.in_ok-copy_of-in-Some-defined.ensures) c.in-Some-defined.ensures)

pub returns-in-None-clause-unknown : goal.returns-in-None-clause-unknown
returns-in-None-clause-unknown c = λ e things y. elim y [
  | inl group ↦ (let D : Text → Type 0 = λ name. Defines c.args.self.now.0.now name things in c.in-None.ensures things (subst D (same_mark c.args.word.now group.0 c.in-Some.name.now group.1 (rw c.as_bytes.ensures at c.in-Some.ensures)) group.2))
  | inr plain ↦ plain.0 c.in-Some.name.now (rw c.as_bytes.ensures at c.in-Some.ensures)
]
