-- What files show of a past, and what they have of it whatever a crash does.
use Rattle.std.specs.Prelude.{◌≡◌, ◌^◌, ◌<◌, ◌≤◌, ◌++◌, ℕ, List, length, drop, take, All}
use Rattle.std.specs.Prelude.{Contains}
use Rattle.dr_ledger.specs.Books.{Line}
use Rattle.sqlite_disk.specs.declared.Disk.{Ghosts}
use Rattle.dr_store_sealed.specs.declared.seal.Seal.{Seal}
use Rattle.dr_store_line_files.specs.Filed.{HaveLines, KeepLines}
use Rattle.dr_store_sealed.specs.Lines.{IsOneLine}
use Rattle.dr_store_sealed.specs.Seals.{first_seal, seal_after}
use Rattle.dr_store_line_files.specs.Several.{AreUsable, all_faults}
use Rattle.dr_store_past.specs.declared.lines.PastLine.{PastLine}
use Rattle.dr_store_past.specs.Lines.{FitsPast, IsHeldPast, all_said, past_in, texts_behind}

-- it is the seal of the first of these texts, as many as it counts
abbrev pub IsPlaceIn : List (List ℕ) → Seal → Type 0
IsPlaceIn texts place = place ≡ seal_after first_seal (take place.count texts)

-- Up to the seal the files show the first of these lines, as many as the seal counts: the text of
-- each, with its number, from 1 on, and with some moment.
pub record ShowsPast (all : List Line) (files : List (List ℕ)) (seal : Seal) : Type 0 where
  pub lines : List PastLine
  pub held : All IsHeldPast lines
  pub one : All IsOneLine (texts_behind 0 lines)
  pub has : HaveLines files first_seal (texts_behind 0 lines) seal
  pub said : all_said lines ≡ past_in all seal
  pub counted : seal.count < 2 ^ 64

-- so it is, and these are places in its lines
abbrev pub IsPastAt : List Line → List (List ℕ) → Seal → List Seal → Type 0
IsPastAt all files seal places =
    (it : ShowsPast all files seal) × All (IsPlaceIn (texts_behind 0 it.lines)) places

-- these are the lines that come next behind the seal
abbrev pub AreNextIn : List Line → Seal → List PastLine → Type 0
AreNextIn all seal lines = all_said lines ≡ take (length lines) (drop seal.count all)

module _ {D : Type 0} (g : Ghosts D) where
  -- The files have lines behind a seal, with the numbers behind its count, up to another one: in
  -- what is seen, and in each content that a crash may leave now.
  abbrev pub HaveWritten : List D → Seal → List PastLine → Seal → Type 0
  HaveWritten disks from lines last = KeepLines g disks from (texts_behind from.count lines) last

  -- These are written behind the seal, and its place is known.
  pub record HaveWrittenLines (disks : List D) (places : List Seal) (from : Seal)
      (lines : List PastLine) (last : Seal) : Type 0 where
    pub written : HaveWritten disks from lines last
    pub one : All IsOneLine (texts_behind from.count lines)
    pub fit : All FitsPast lines
    pub counted : last.count < 2 ^ 64
    pub there : last.number < length disks
    pub known : Contains places from

  -- Further files were made behind these, or none was. Each can be used.
  abbrev pub HasMade : List D → List D → Type 0
  HasMade old made = (more : List D) × (made ≡ old ++ more) × AreUsable g more

  -- These texts were put behind the seal, up to another one.
  pub record ArePut (old new : List D) (from : Seal) (texts : List (List ℕ)) (last : Seal) : Type 0
    where
      pub kept : KeepLines g new from texts last
      pub one : All IsOneLine texts
      pub there : last.number < length new
      pub usable : AreUsable g old → AreUsable g new
      pub faults : all_faults g old ≤ all_faults g new

-- no wrong answer was taken as true, the files show the past up to its seal, and lines begin at the
-- places
pub record IsCleanPast (all : List Line) (Honest : Type 0) (files : List (List ℕ)) (seal : Seal)
    (noted : List Seal) : Type 0 where
  pub honest : Honest
  pub shows : ShowsPast all files seal
  pub places : All (IsPlaceIn (texts_behind 0 shows.lines)) noted
