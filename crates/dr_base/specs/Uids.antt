-- UIDs (PS3.5 section 9.1).
use Rattle.std.specs.Prelude.{ℕ, ◌≤◌, List, length}
use Rattle.std.specs.List.{AllByRecursion}

-- a UID as it is taken here: 1 to 64 bytes, each from 21H to 7EH; PS3.5 9.1 has digits and dots
-- alone
abbrev pub IsUid : List ℕ → Type 0
IsUid uid = (1 ≤ length uid) × (length uid ≤ 64) × AllByRecursion (λ b. (0x21 ≤ b) × (b ≤ 0x7E)) uid
