-- The earlier of two moments.
use Rattle.std.specs.Prelude.{ℕ, min, Option, None, Some}

-- where there is one alone, that
abbrev pub earlier : Option ℕ → Option ℕ → Option ℕ
earlier None second = second
earlier (Some a) None = Some a
earlier (Some a) (Some b) = Some (min a b)
