-- Laws of contents, and of rows as bytes.
use Rattle.std.specs.Prelude.{◌≡◌, ℕ, ◌+◌, ◌%◌, ◌^◌, ◌<◌, List, ◌++◌, All, length, FitsSigned}
use Rattle.std.specs.Prelude.{IsPermutation}
use Rattle.std.specs.Int.{w64}
use Rattle.sqlite_value.specs.declared.value.Value.{Value}
use Rattle.sqlite_value.specs.declared.value.Value.TheVariants.{Null, Int, Real, Text, Blob}
use Rattle.dr_store_content.specs.Contents.{content_of, number_of}
use Rattle.dr_store_content.specs.Rows.{row_text}

-- the content of rows and of others is the sum of both
abbrev pub ContentsAreAdded : Type 0
ContentsAreAdded =
    (rows others : List (List ℕ))
    → content_of (rows ++ others) ≡ (content_of rows + content_of others) % 2 ^ 256

-- the order of rows doesn't count
abbrev pub OrderDoesNotCount : Type 0
OrderDoesNotCount =
    (rows others : List (List ℕ)) → IsPermutation rows others → content_of rows ≡ content_of others

-- What is left of a content without those of some rows is that of the others.
abbrev pub RestsAreOne : Type 0
RestsAreOne =
    (gone rest : List (List ℕ)) (left : ℕ)
    → left < 2 ^ 256
    → (left + content_of gone) % 2 ^ 256 ≡ content_of (gone ++ rest)
    → left ≡ content_of rest

-- 32 bytes are those of one number
abbrev pub BytesAreOne : Type 0
BytesAreOne =
    (bytes others : List ℕ)
    → length bytes ≡ 32 → length others ≡ 32
    → All (λ byte. byte < 256) bytes → All (λ byte. byte < 256) others
    → number_of bytes ≡ number_of others
    → bytes ≡ others

-- a cell of a ledger's tables
abbrev pub IsCell : Value → Type 0
IsCell Null = Unit {0}
IsCell (Int n) = FitsSigned w64 n
IsCell (Real x) = ⊥
IsCell (Text t) = length t < 2 ^ 64
IsCell (Blob b) = length b < 2 ^ 64

-- bytes are those of one row of one table
abbrev pub RowsAreReadBack : Type 0
RowsAreReadBack =
    (table other : List ℕ) (cells more : List Value)
    → length table < 2 ^ 64 → length other < 2 ^ 64
    → All IsCell cells → All IsCell more
    → row_text table cells ≡ row_text other more
    → (table ≡ other) × (cells ≡ more)
