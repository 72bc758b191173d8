-- Laws of the definitions.
use Rattle.std.specs.Prelude.{◌≡◌, ℕ, ◌≤◌, List, [], ◌∷◌, ◌++◌, All}
use Rattle.dr_store_sealed.specs.declared.seal.Seal.{Seal}
use Rattle.dr_store_sealed.specs.Files.{EndsAs, HasLines}
use Rattle.dr_store_sealed.specs.InTables.{IsOfCode, IsSealText, bytes_of_seal, seal_said}
use Rattle.dr_store_sealed.specs.Lines.{IsOneLine, bytes_of, next_chain}
use Rattle.dr_store_sealed.specs.Seals.{IsSealedBy, first_seal, full, next_seal, seal_after, turned}

-- lines have one seal
abbrev pub SealsAreOne : Type 0
SealsAreOne =
    (lines : List (List ℕ)) (a b : Seal) → IsSealedBy lines a → IsSealedBy lines b → a ≡ b

-- the seal of more lines goes on from that of the first ones, and so do their bytes
pub record GoOn : Type 0 where
  pub seals : (lines more : List (List ℕ)) (seal : Seal)
      → IsSealedBy lines seal → IsSealedBy (lines ++ more) (seal_after seal more)
  pub bytes : (seal : Seal) (lines more : List (List ℕ))
      → bytes_of seal.chain (lines ++ more)
      ≡ bytes_of seal.chain lines ++ bytes_of (seal_after seal lines).chain more

-- what a file has from one seal to the next, and from there to a third, it has from the first
abbrev pub SpansGoOn : Type 0
SpansGoOn =
    (seen : List ℕ) (first second third : Seal) (lines more : List (List ℕ))
    → HasLines seen first lines second → HasLines seen second more third
    → HasLines seen first (lines ++ more) third

-- a line behind a full file is the first of the next file
abbrev pub NextFileTakes : Type 0
NextFileTakes =
    (seal : Seal) (line : List ℕ)
    → full ≤ seal.offset → next_seal seal line ≡ next_seal (turned seal) line

-- bytes are those of one list of lines
abbrev pub LinesAreReadBack : Type 0
LinesAreReadBack =
    (chain : List ℕ) (lines others : List (List ℕ))
    → All IsOneLine lines → All IsOneLine others
    → bytes_of chain lines ≡ bytes_of chain others → lines ≡ others

-- a file that begins with a line ends as its seal says
abbrev pub EndsInItsSeal : Type 0
EndsInItsSeal =
    (seen : List ℕ) (start last : Seal) (lines : List (List ℕ))
    → start.offset ≡ 0 → HasLines seen start lines last → EndsAs seen last

-- each text whose SHA-256 is a chain of these lines is the one that `content` gives for it
abbrev pub AreOfOneText : (List ℕ → List ℕ) → List ℕ → List (List ℕ) → Type 0
AreOfOneText content chain [] = Unit {0}
AreOfOneText content chain (line ∷ lines) =
    (content (next_chain chain line) ≡ chain ++ line)
    × AreOfOneText content (next_chain chain line) lines

-- Where no two of the texts have one SHA-256, a seal is that of one list of lines.
abbrev pub HaveOnePast : Type 0
HaveOnePast =
    (content : List ℕ → List ℕ) (lines others : List (List ℕ)) (seal : Seal)
    → AreOfOneText content first_seal.chain lines → AreOfOneText content first_seal.chain others
    → IsSealedBy lines seal → IsSealedBy others seal → lines ≡ others

-- What the tables have for a seal is a text of one, and says just that seal.
abbrev pub SealsAreReadBack : Type 0
SealsAreReadBack =
    (seal : Seal) → IsOfCode seal
    → IsSealText (bytes_of_seal seal) × (seal_said (bytes_of_seal seal) ≡ seal)
