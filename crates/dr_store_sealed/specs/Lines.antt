-- Lines of text in a file, each with its chain.
use Rattle.std.specs.Prelude.{◌≢◌, ℕ, ◌≤◌, List, [], ◌∷◌, ◌++◌, length, All}
use Rattle.sha2.specs.Sha256.{sha256}
use Rattle.hex.specs.Hex.{encode_lower}

-- the bytes of the longest line
abbrev pub longest : ℕ
longest = 65536

-- what may be a line: no byte of it ends a line, and it is not too long
pub record IsOneLine (line : List ℕ) : Type 0 where
  pub one : All (λ byte. byte ≢ 10) line
  pub short : length line ≤ longest

-- the chain of a line: SHA-256 of the chain of the line before it and of the line
abbrev pub next_chain : List ℕ → List ℕ → List ℕ
next_chain chain line = sha256 (chain ++ line)

-- what is behind a line in its file: a space, its chain in hex, and the end of the line
abbrev pub mark_of : List ℕ → List ℕ
mark_of chain = 32 ∷ encode_lower chain ++ 10 ∷ []

-- a line in its file, behind a line with that chain
abbrev pub entry_of : List ℕ → List ℕ → List ℕ
entry_of chain line = line ++ mark_of (next_chain chain line)

-- lines in their file, behind a line with that chain
abbrev pub bytes_of : List ℕ → List (List ℕ) → List ℕ
bytes_of chain [] = []
bytes_of chain (line ∷ lines) = entry_of chain line ++ bytes_of (next_chain chain line) lines
