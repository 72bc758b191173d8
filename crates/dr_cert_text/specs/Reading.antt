-- What is read of a text: the value that has it, and where none has it, a fault.
use Rattle.std.specs.Prelude.{◌≡◌, ℕ, List, [], ◌∷◌, ◌++◌, Result, Ok, Err, All, flat_map}
use Rattle.std.specs.Borrow.{Bor}
use Rattle.dr_cert_text.specs.CertificateText.{row}
use Rattle.dr_cert_text.specs.declared.fault.CertificateFault.{CertificateFault}
use Rattle.dr_cert_text.specs.declared.fault.CertificateFault.TheVariants.{Text, Memory}

-- `written` gives the text of a value, and `Can` says which values can be read back: this one can,
-- and has this text
abbrev pub IsReadBack : {X : Type 0} → (X → List ℕ) → (X → Type 0) → List ℕ → X → Type 0
IsReadBack written Can text x = (written x ≡ text) × Can x

-- no value that can be read back has this text
abbrev pub HasNone : {X : Type 0} → (X → List ℕ) → (X → Type 0) → List ℕ → Type 0
HasNone {X} written Can text = (x : X) → Can x → written x ≡ text → ⊥

-- what reading a text answers: the value that has it, or that none has; or memory ran out
abbrev pub Reads : {X : Type 0} → (X → List ℕ) → (X → Type 0) → List ℕ
    → Result X CertificateFault
    → Type 0
Reads written Can text (Ok x) = IsReadBack written Can text x
Reads written Can text (Err Text) = HasNone written Can text
Reads written Can text (Err Memory) = Unit {0}

-- the text begins with the word as a field
abbrev pub BeginsWithField : List ℕ → List ℕ → Type 0
BeginsWithField word text = (rest : List ℕ) × (text ≡ word ++ (9 ∷ []) ++ rest)

-- the text is the rows of these values, and behind them is what begins with no such row
abbrev pub AreRowsOf : {X : Type 0} → List ℕ → (X → List ℕ) → (X → Type 0) → List ℕ → List X
    → List ℕ → Type 0
AreRowsOf word written Can text items rest =
    (text ≡ flat_map (λ item. row word (written item)) items ++ rest)
    × All Can items
    × (BeginsWithField word rest → ⊥)

-- what reading rows answers: their values and the text behind them, that it has no such rows, or
-- want of memory
abbrev pub ReadsRows : {X : Type 0} → List ℕ → (X → List ℕ) → (X → Type 0) → List ℕ
    → Result (List X × Bor (List ℕ)) CertificateFault
    → Type 0
ReadsRows word written Can text (Ok found) = AreRowsOf word written Can text found.0 found.1.now
ReadsRows {X} word written Can text (Err Text) =
    (items : List X) (rest : List ℕ) → AreRowsOf word written Can text items rest → ⊥
ReadsRows word written Can text (Err Memory) = Unit {0}
