-- Copies of values.
use Rattle.std.specs.Prelude.{◌≡◌}

-- a clone is equal to its source
abbrev pub ClonesAreEqual : {T : Type 0} → (T → T → Type 0) → Type 0
ClonesAreEqual {T} is_clone = (x y : T) → is_clone x y → y ≡ x
