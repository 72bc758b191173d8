-- Why a call on a file of lines came to nothing.
use Rattle.std.specs.Prelude.{◌≡◌, ◌+◌, ◌^◌, ◌≤◌, ◌<◌, ◌++◌, ◌⊎◌, ℕ, List, length, All, IsTrue}
use Rattle.std.specs.Prelude.{false}
use Rattle.dr_store_sealed.specs.declared.seal.Seal.{Seal}
use Rattle.dr_store_sealed.specs.declared.fault.SealFault.{SealFault}
use Rattle.dr_store_sealed.specs.declared.fault.SealFault.TheVariants as fault
use Rattle.sqlite_disk.specs.declared.Disk.{Ghosts}
use Rattle.sqlite_disk.specs.Disk.{MoreFaults}
use Rattle.dr_store_sealed.specs.Files.{EndsAs, HasRightLines, HasRightLinesTo, Spans}
use Rattle.dr_store_sealed.specs.Lines.{IsOneLine, bytes_of, entry_of, longest}
use Rattle.dr_store_sealed.specs.Seals.{full}

-- why a line got no bytes: it is none, or no number is left; or memory is wanting
abbrev pub IsWhyNoEntry : Seal → List ℕ → SealFault → Type 0
IsWhyNoEntry seal line fault.Unfit = IsOneLine line → ⊥
IsWhyNoEntry seal line fault.Uncounted = 2 ^ 64 ≤ seal.count + 1
IsWhyNoEntry seal line fault.Memory = Unit {0}
IsWhyNoEntry seal line other = ⊥

-- why lines got no bytes
abbrev pub IsWhyNoEntries : Seal → List (List ℕ) → SealFault → Type 0
IsWhyNoEntries seal lines fault.Unfit = All IsOneLine lines → ⊥
IsWhyNoEntries seal lines fault.Uncounted = 2 ^ 64 ≤ seal.count + length lines
IsWhyNoEntries seal lines fault.Memory = Unit {0}
IsWhyNoEntries seal lines other = ⊥

-- the bytes are no line behind the seal, if its file takes any
abbrev pub IsNoLineIn : Seal → List ℕ → Type 0
IsNoLineIn seal entry =
    seal.offset < full → (line : List ℕ) → IsOneLine line → entry ≡ entry_of seal.chain line → ⊥

-- The piece is all of the lines' bytes, or long enough for any line.
abbrev pub IsEnough : List ℕ → List ℕ → Type 0
IsEnough piece more = (0 < length piece) × ((longest + 66 ≤ length piece) ⊎ (length more ≡ 0))

-- no lines behind the seal, in its file, begin with such a piece
abbrev pub BeginsNoLines : Seal → List ℕ → Type 0
BeginsNoLines from piece =
    (lines : List (List ℕ)) (last : Seal) (more : List ℕ)
    → All IsOneLine lines → Spans from lines last → last.count < 2 ^ 64
    → bytes_of from.chain lines ≡ piece ++ more → IsEnough piece more → ⊥

-- why bytes are no line of a file behind the seal
abbrev pub IsWhyNoLineIn : Seal → List ℕ → SealFault → Type 0
IsWhyNoLineIn seal entry fault.Memory = Unit {0}
IsWhyNoLineIn seal entry fault.Broken = IsNoLineIn seal entry
IsWhyNoLineIn seal entry fault.Unfit = IsNoLineIn seal entry
IsWhyNoLineIn seal entry fault.Uncounted = 2 ^ 64 ≤ seal.count + 1
IsWhyNoLineIn seal entry other = ⊥

-- why no lines were read of a piece
abbrev pub IsWhyNoLines : Seal → List ℕ → SealFault → Type 0
IsWhyNoLines from piece fault.Memory = Unit {0}
IsWhyNoLines from piece fault.Broken = BeginsNoLines from piece
IsWhyNoLines from piece fault.Unfit = BeginsNoLines from piece
IsWhyNoLines from piece fault.Uncounted = BeginsNoLines from piece
IsWhyNoLines from piece other = ⊥

module _ {D : Type 0} (g : Ghosts D) where
  -- why bytes were not put at the end of a file
  abbrev pub IsWhyNotPut : D → D → SealFault → Type 0
  IsWhyNotPut old new (fault.Io error) = MoreFaults (g.faults old) (g.faults new)
  IsWhyNotPut old new other = ⊥

  -- why so many bytes at that place were not read
  abbrev pub IsWhyNoPiece : ℕ → ℕ → D → D → SealFault → Type 0
  IsWhyNoPiece at size old new (fault.Io error) =
      IsTrue (g.is_clean old) → at + size ≤ length (g.seen old)
      → MoreFaults (g.faults old) (g.faults new)
  IsWhyNoPiece at size old new fault.Memory = new ≡ old
  IsWhyNoPiece at size old new other = ⊥

  -- Why the lines up to that place were not read: a disk that told no lie has failed, or has other
  -- bytes there; or memory is wanting.
  abbrev pub IsWhyNotRead : Seal → ℕ → D → D → SealFault → Type 0
  IsWhyNotRead from end old new (fault.Io error) =
      IsTrue (g.is_clean new) → end ≤ length (g.seen old) → MoreFaults (g.faults old) (g.faults new)
  IsWhyNotRead from end old new fault.Memory = Unit {0}
  IsWhyNotRead from end old new fault.Unusable = g.is_usable old ≡ false
  IsWhyNotRead from end old new fault.Broken =
      IsTrue (g.is_clean new) → HasRightLinesTo (g.seen old) from end → ⊥
  IsWhyNotRead from end old new fault.Unfit =
      IsTrue (g.is_clean new) → HasRightLinesTo (g.seen old) from end → ⊥
  IsWhyNotRead from end old new fault.Uncounted =
      IsTrue (g.is_clean new) → HasRightLinesTo (g.seen old) from end → ⊥
  IsWhyNotRead from end old new other = ⊥

  -- why the lines up to the seal were not found right
  abbrev pub IsWhyNotWhole : Seal → Seal → D → D → SealFault → Type 0
  IsWhyNotWhole start last old new fault.OtherChain =
      IsTrue (g.is_clean new) → HasRightLines (g.seen old) start last → ⊥
  IsWhyNotWhole start last old new other = IsWhyNotRead start last.offset old new other

  -- why the last line's chain was not found to be the seal's
  abbrev pub IsWhyNoEnd : Seal → D → D → SealFault → Type 0
  IsWhyNoEnd seal old new (fault.Io error) =
      IsTrue (g.is_clean old) → seal.offset ≤ length (g.seen old)
      → MoreFaults (g.faults old) (g.faults new)
  IsWhyNoEnd seal old new fault.OtherChain =
      IsTrue (g.is_clean new) → EndsAs (g.seen old) seal → ⊥
  IsWhyNoEnd seal old new fault.Memory = Unit {0}
  IsWhyNoEnd seal old new other = ⊥

  -- why a file was not found to be the seal's
  abbrev pub IsWhyNotFit : Seal → D → D → SealFault → Type 0
  IsWhyNotFit seal old new (fault.Io error) =
      IsTrue (g.is_clean new) → MoreFaults (g.faults old) (g.faults new)
  IsWhyNotFit seal old new fault.Memory = Unit {0}
  IsWhyNotFit seal old new fault.Unusable = (g.is_usable old ≡ false) × (new ≡ old)
  IsWhyNotFit seal old new fault.Short =
      IsTrue (g.is_clean new) → length (g.seen old) < seal.offset
  IsWhyNotFit seal old new fault.OtherChain =
      IsTrue (g.is_clean new) → EndsAs (g.seen old) seal → ⊥
  IsWhyNotFit seal old new other = ⊥
