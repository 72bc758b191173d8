-- A text before and behind its last mark, and the digits of a port.
use Rattle.std.specs.Prelude.{◌≡◌, ◌≢◌, ℕ, ◌≤◌, [], ◌∷◌, ◌++◌, length, All, Contains}
use Rattle.dr_base.specs.Texts.{Text}
use Rattle.dr_plan_model.specs.Formed.{IsDigit}

-- the mark stands between the two parts, and not in the second one
abbrev pub SplitsAtLast : ℕ → Text → Text → Text → Type 0
SplitsAtLast mark text before behind = (text ≡ before ++ mark ∷ behind) × (Contains behind mark → ⊥)

-- the text is one to five digits
pub record IsPort (digits : Text) : Type 0 where
  pub each : All IsDigit digits
  pub some : digits ≢ []
  pub few : length digits ≤ 5
