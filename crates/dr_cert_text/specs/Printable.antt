-- Which lines, hops and certificates can be read back from their text.
use Rattle.std.specs.Prelude.{◌≡◌, ◌≢◌, [], ◌++◌, ℕ, ◌<◌, ◌≤◌, List, length, codes, All}
use Rattle.dr_base.specs.Texts.{Text}
use Rattle.dr_route.specs.declared.cell.OwnedField.{OwnedField}
use Rattle.dr_route.specs.declared.cell.OwnedField.TheVariants.{Literal, Prefix, Rest}
use Rattle.dr_plan_sound.specs.declared.certificate.Line.{Line}
use Rattle.dr_plan_sound.specs.declared.certificate.Hop.{Hop}
use Rattle.dr_plan_sound.specs.declared.certificate.Certificate.{Certificate}

-- the text has neither a tab nor an LF, which part fields and rows
abbrev pub IsPlain : Text → Type 0
IsPlain text = All (λ byte. (byte ≢ 9) × (byte ≢ 10)) text

-- the part of the modalities, or of the stations, can be told from its text: a literal doesn't end
-- with `*`, which stands behind a prefix, and a prefix isn't empty, as `*` alone stands for the
-- rest
abbrev pub IsPlainField : OwnedField → Type 0
IsPlainField (Literal literal) =
    IsPlain literal × ((front : Text) → literal ≡ front ++ codes "*" → ⊥)
IsPlainField (Prefix prefix) = IsPlain prefix × (prefix ≢ [])
IsPlainField Rest = Unit {0}

-- a line that can be read back from its row: texts without tab and LF, and a rank of 32 bits
pub record IsPrintableLine (line : Line) : Type 0 where
  pub caller : IsPlain line.stop.caller
  pub node : IsPlain line.stop.node
  pub class : IsPlain line.stop.cell.class
  pub modality : IsPlainField line.stop.cell.modality
  pub station : IsPlainField line.stop.cell.station
  pub rank : line.rank ≤ 4294967295

-- a hop that can be read back from its row: texts without tab and LF, and an id of one byte
pub record IsPrintableHop (hop : Hop) : Type 0 where
  pub «from» : IsPlain hop.from
  pub «to» : IsPlain hop.to
  pub id : hop.id ≤ 255
  pub class : IsPlain hop.class

-- the bytes are those of a SHA-256: 32 of them
abbrev pub IsDigest : List ℕ → Type 0
IsDigest digest = (length digest ≡ 32) × All (λ byte. byte < 256) digest

-- a certificate that can be read back from its text: digest, hops and lines can, and it has at most
-- 65,536 lines
pub record IsPrintable (certificate : Certificate) : Type 0 where
  pub digest : IsDigest certificate.digest
  pub hops : All IsPrintableHop certificate.hops
  pub lines : All IsPrintableLine certificate.lines
  pub few : length certificate.lines ≤ 65536
