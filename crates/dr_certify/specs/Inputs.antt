-- What has been read of an input whose bytes are known.
use Rattle.std.specs.Prelude.{◌≡◌, ℕ, List, ◌++◌}
use Rattle.std.specs.declared.option.Option.{Option}
use Rattle.std.specs.Io.KnownBytes.{Consumes}

-- the bytes that the input has lost are those that the text has grown by
abbrev pub TakesBytes : Option (List ℕ) → Option (List ℕ) → List ℕ → List ℕ → Type 0
TakesBytes left_before left_now before now =
    (more : List ℕ) × Consumes left_before left_now more × (now ≡ before ++ more)
