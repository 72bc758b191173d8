-- Sets of names.
use Rattle.std.specs.Prelude.{◌≡◌, ◌⊎◌, Contains}
use Rattle.std.specs.BTreeSet.{BTreeSet}
use Rattle.dr_base.specs.Texts.{Text}

-- the set has this name
abbrev pub HasName : BTreeSet Text → Text → Type 0
HasName names name = Contains names.keys name

-- the set has one more name, or had it before
pub record AddsName (old new : BTreeSet Text) (name : Text) : Type 0 where
  pub kept : (other : Text) → HasName old other → HasName new other
  pub added : HasName new name
  pub only : (other : Text) → HasName new other → HasName old other ⊎ (name ≡ other)
