-- A journal that grows while its desk is shared.
use Rattle.std.specs.Prelude.{◌≡◌, ℕ, List, length, take}
use Rattle.dr_ledger.specs.Books.{Line}

-- the lines begin with the first ones
abbrev pub BeginWith : List Line → List Line → Type 0
BeginWith first lines = take (length first) lines ≡ first

-- The journal of a desk that is shared: it begins with the lines that it had, which were so many,
-- and the last one has that number.
abbrev pub Grows : List Line → ℕ → List Line → ℕ → Type 0
Grows first before lines number =
    BeginWith first lines × (before ≡ length first) × (length lines ≡ number)
