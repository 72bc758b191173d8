-- What is wrong with a name.
use Rattle.std.specs.Prelude.{◌≡◌, ◌≢◌, ◌<◌, ◌≤◌, ◌⊎◌, [], length, codes, ℕ, All}
use Rattle.dr_base.specs.Texts.{Text}
use Rattle.dr_plan_model.specs.Formed.{IsTrimmed}
use Rattle.dr_plan_places.specs.Firsts.{IsFirstAt}
use Rattle.dr_plan_places.specs.declared.flaws.NameFlaw.{NameFlaw}
use Rattle.dr_plan_places.specs.declared.flaws.NameFlaw.TheVariants.{Empty, Long, Reserved}
use Rattle.dr_plan_places.specs.declared.flaws.NameFlaw.TheVariants.{Unprintable, Blank}

-- the byte isn't printable, or is the backslash
abbrev pub IsNoNameByte : ℕ → Type 0
IsNoNameByte byte = (byte < 32) ⊎ ((127 ≤ byte) ⊎ (byte ≡ 92))

-- the byte is printable, and not the backslash
abbrev pub IsNameByte : ℕ → Type 0
IsNameByte byte = (32 ≤ byte) × (byte < 127) × (byte ≢ 92)

-- the text isn't a name, for this reason, which is the first of these that it shows; a byte is
-- told by the first index of such a one
abbrev pub HasNameFlaw : Text → NameFlaw → Type 0
HasNameFlaw text Empty = text ≡ []
HasNameFlaw text Long = 16 < length text
HasNameFlaw text Reserved = (text ≡ codes "*") ⊎ (text ≡ codes "-")
HasNameFlaw text (Unprintable index) =
    (length text ≤ 16)
    × IsFirstAt IsNameByte (λ byte (_ : Unit {0}). IsNoNameByte byte) text index tt
HasNameFlaw text Blank = (length text ≤ 16) × All IsNameByte text × (IsTrimmed text → ⊥)
