-- The order of entries is one, and these are good and bad examples of it.
use Rattle.std.specs.Prelude.{◌≡◌, ◌⊎◌, codes}
use Rattle.dr_base.specs.Texts.{Text}
use Rattle.dr_base.specs.declared.syntax.Syntax.TheVariants.{Implicit, Explicit}
use Rattle.dr_route.specs.declared.cell.OwnedCell.{OwnedCell}
use Rattle.dr_route.specs.declared.cell.OwnedField.{OwnedField}
use Rattle.dr_route.specs.declared.cell.OwnedField.TheVariants.{Literal, Prefix, Rest}
use Rattle.dr_plan_model.specs.Networks.{Network}
use Rattle.dr_plan_model.specs.Plans.{IsWellFormed}
use Rattle.dr_plan_entries.specs.InOrder.{ComesBefore}
use Rattle.dr_plan_entries.specs.Visiting.{IsEntryCell}

-- no entry comes before itself
abbrev pub NoneIsBeforeItself : Type 0
NoneIsBeforeItself = (site : Text) (cell : OwnedCell) → ComesBefore site cell site cell → ⊥

-- what comes before an entry comes before all behind it
abbrev pub BeforeGoesOn : Type 0
BeforeGoesOn =
    (s t u : Text) (c d e : OwnedCell)
    → ComesBefore s c t d → ComesBefore t d u e → ComesBefore s c u e

-- of two entries of a plan one comes before the other, or they are the same
abbrev pub OneIsBefore : Type 0
OneIsBefore =
    (plan : Network) → IsWellFormed plan
    → (s t : Text) (c d : OwnedCell)
    → IsEntryCell plan s c → IsEntryCell plan t d
    → ComesBefore s c t d ⊎ (((s ≡ t) × (c ≡ d)) ⊎ ComesBefore t d s c)

-- Implicit comes before Explicit, whatever the modalities and stations are
abbrev pub ImplicitIsFirst : Type 0
ImplicitIsFirst =
    (site class : Text) (m n : OwnedField) (p q : OwnedField)
    → ComesBefore site (record { class = class; syntax = Implicit; modality = m; station = p }) site
    (record { class = class; syntax = Explicit; modality = n; station = q })

-- the rest of the modalities, which is printed `*`, comes before the literal CT, and not before the
-- literal !
abbrev pub RestIsAmongLiterals : Type 0
RestIsAmongLiterals =
    (site class : Text) (p q : OwnedField)
    → ComesBefore site (record { class = class; syntax = Implicit; modality = Rest; station = p })
    site (record { class = class; syntax = Implicit; modality = Literal (codes "CT"); station = q })
    × (ComesBefore site (record { class = class; syntax = Implicit; modality = Rest; station = p })
    site (record { class = class; syntax = Implicit; modality = Literal (codes "!"); station = q })
    → ⊥)

-- the prefix CT, which is printed `CT*`, comes behind the station CT and before the station CT1
abbrev pub PrefixIsAmongLiterals : Type 0
PrefixIsAmongLiterals =
    (site class : Text) (m : OwnedField)
    → ComesBefore site
    (record {
      class = class;
      syntax = Implicit;
      modality = m;
      station = Literal (codes "CT");
    }) site
    (record {
      class = class;
      syntax = Implicit;
      modality = m;
      station = Prefix (codes "CT");
    })
    × ComesBefore site
    (record {
      class = class;
      syntax = Implicit;
      modality = m;
      station = Prefix (codes "CT");
    }) site
    (record {
      class = class;
      syntax = Implicit;
      modality = m;
      station = Literal (codes "CT1");
    })
