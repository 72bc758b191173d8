-- A text cut at each mark, as a row at its tabs.
use Rattle.std.specs.Prelude.{◌≡◌, ◌≢◌, ℕ, ◌==◌, if◌then◌else◌, List, [], ◌∷◌, ◌++◌, All}
use Rattle.dr_cert_text.specs.Printable.{IsPlain}

-- the parts of a cut text with one more byte in front of the first part
unfoldable pub grown : ℕ → List (List ℕ) → List (List ℕ)
grown byte [] = (byte ∷ []) ∷ []
grown byte (part ∷ parts) = (byte ∷ part) ∷ parts

-- the parts of a text between its marks: a text without a mark is one part
unfoldable pub cuts : ℕ → List ℕ → List (List ℕ)
cuts mark [] = [] ∷ []
cuts mark (byte ∷ text) = if byte == mark then [] ∷ cuts mark text else grown byte (cuts mark text)

-- no byte of the text is the mark
abbrev pub Lacks : ℕ → List ℕ → Type 0
Lacks mark text = All (λ byte. byte ≢ mark) text

-- the part before the first mark, the mark, and what follows it
abbrev pub SplitsAt : ℕ → List ℕ → List ℕ → List ℕ → Type 0
SplitsAt mark text part rest = (text ≡ part ++ mark ∷ rest) × Lacks mark part

-- the text's first field, and what follows the tab behind it; neither has an LF in it
pub record CutsField (text field rest : List ℕ) : Type 0 where
  pub whole : text ≡ field ++ 9 ∷ rest
  pub plain : IsPlain field
  pub one_row : Lacks 10 rest
  pub parts : cuts 9 text ≡ field ∷ cuts 9 rest
