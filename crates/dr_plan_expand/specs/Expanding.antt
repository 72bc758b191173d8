-- The text that a text of format 3 expands to.
use Rattle.std.specs.Prelude.{◌≡◌, ◌⊎◌}
use Rattle.toml.specs.Data.{Members}
use Rattle.dr_base.specs.Texts.{Text}
use Rattle.dr_plan_text.specs.declared.words.PlanText.{PlanText}
use Rattle.dr_plan_text.specs.Tables.{IsTree}
use Rattle.dr_plan_expand.specs.Tables.{IsShortPlan}
use Rattle.dr_plan_expand.specs.Meanings.{Means}
use Rattle.dr_plan_expand.specs.Amounts.{IsWithin}
use Rattle.dr_plan_expand.specs.Spelling.{plan_text}
use Rattle.dr_plan_expand.specs.declared.short.ShortPlan.{ShortPlan}
use Rattle.dr_plan_expand.specs.declared.fault.ExpandFault.{ExpandFault}
use Rattle.dr_plan_expand.specs.declared.fault.ExpandFault.TheVariants as fault

-- the text's root table stands for this text: the spelling of what its plan means, which stands
-- for no more than a plan may
pub record StandsFor (root : Members) (core : Text) : Type 0 where
  pub short : ShortPlan
  pub plan : PlanText
  pub says : IsShortPlan root short
  pub within : IsWithin short
  pub means : Means short plan
  pub is : core ≡ plan_text plan

-- the text is its own expansion
pub record IsOwn (core : Text) : Type 0 where
  pub root : Members
  pub tree : IsTree core root
  pub stands : StandsFor root core

-- the text's root table expands to this text, which is its own expansion
abbrev pub ExpandsTo : Members → Text → Type 0
ExpandsTo root core = StandsFor root core × IsOwn core

-- a text of format 3 expands to this text
abbrev pub Expands : Text → Text → Type 0
Expands text core = (root : Members) × IsTree text root × ExpandsTo root core

-- the root table of a text of format 3 expands to nothing, for this reason: its tables say no plan,
-- or what this stands for isn't its own expansion; it stands for more than a plan may; or it
-- doesn't, and some word stands for nothing
abbrev pub Fails : Members → ExpandFault → Type 0
Fails root fault.Field =
    ((short : ShortPlan) → IsShortPlan root short → ⊥)
    ⊎ ((core : Text) × StandsFor root core × (IsOwn core → ⊥))
Fails root fault.Limit =
    (short : ShortPlan) × IsShortPlan root short × (IsWithin short → ⊥)
Fails root fault.Unknown =
    (short : ShortPlan)
    × IsShortPlan root short
    × IsWithin short
    × ((plan : PlanText) → Means short plan → ⊥)
Fails root fault.Memory = Unit {0}
