use Rattle.std.proofs.Common.{inl, inr, sym, subst, List, Contains}
use Rattle.dr_base.specs.Texts.{Text}
use Rattle.dr_cert_diff.proofs.entries.add_classes_of.Goals as goal

pub returns-clause-kept : goal.returns-clause-kept
returns-clause-kept c = λ name h. (c.in_ok-add_names.ensures name).1 (inl h)

pub returns-clause-all : goal.returns-clause-all
returns-clause-all c = λ at t among. (c.in_ok-add_names.ensures t).1 (inr (subst (λ (xs : List Text). Contains xs t) (sym c.as_slice.ensures) among))
