use Rattle.std.proofs.Common.{inl, inr, refl}
use Rattle.std.specs.Prelude.{codes}
use Rattle.dr_base.specs.declared.syntax.Syntax.TheVariants.{Implicit}
use Rattle.dr_route.specs.declared.cell.OwnedField.TheVariants.{Literal, Rest}
use Rattle.dr_plan_entries.proofs.Orders.{by_modality}
use Rattle.dr_plan_entries.proofs.laws.entries_by_example.Goals as goal

pub returns-clause-syntax : goal.returns-clause-syntax
returns-clause-syntax c = λ site class m n p q. inr (refl, inr (refl, inl refl))

pub returns-clause-modality : goal.returns-clause-modality
returns-clause-modality c = λ site class p q. (
  inr (refl, inr (refl, inr (refl, inl refl))),
  λ before. elim (by_modality site site
      (record { class = class; syntax = Implicit; modality = Rest; station = p }) (record { class = class; syntax = Implicit; modality = Literal (codes "!"); station = q }) refl refl refl before) [
        | inl less ↦ cc less
        | inr same ↦ cc same
      ],
)

pub returns-clause-station : goal.returns-clause-station
returns-clause-station c = λ site class m. (
  inr (refl, inr (refl, inr (refl, inr (refl, refl)))),
  inr (refl, inr (refl, inr (refl, inr (refl, refl)))),
)
