-- Laws of lines in several files.
use Rattle.std.specs.Prelude.{◌≡◌, ℕ, List, [], ◌++◌, All, length, slice_index_or}
use Rattle.sqlite_disk.specs.declared.Disk.{Ghosts}
use Rattle.dr_store_sealed.specs.declared.seal.Seal.{Seal}
use Rattle.dr_store_sealed.specs.Files.{HasLines}
use Rattle.dr_store_sealed.specs.Lines.{IsOneLine}
use Rattle.dr_store_line_files.specs.Filed.{HaveLines, KeepLines, MayLeave}

-- what files have from one seal to the next, and from there to a third, they have from the first
abbrev pub FilesGoOn : Type 0
FilesGoOn =
    (files : List (List ℕ)) (first second third : Seal) (lines more : List (List ℕ))
    → HaveLines files first lines second → HaveLines files second more third
    → HaveLines files first (lines ++ more) third

-- files have one list of lines from one seal to another
abbrev pub FilesHaveOneList : Type 0
FilesHaveOneList =
    (files : List (List ℕ)) (start a b : Seal) (lines others : List (List ℕ))
    → All IsOneLine lines → All IsOneLine others
    → HaveLines files start lines a → HaveLines files start others b
    → a.count ≡ b.count → lines ≡ others

-- What one file has, which ends behind it, the files have in it.
abbrev pub FileIsOneOfThem : Type 0
FileIsOneOfThem =
    (files : List (List ℕ)) (start last : Seal) (lines : List (List ℕ))
    → HasLines (slice_index_or files start.number []) start lines last
    → length (slice_index_or files start.number []) ≡ last.offset
    → HaveLines files start lines last

module _ {D : Type 0} (g : Ghosts D) where
  -- whatever a crash leaves of disks has the lines that they keep
  abbrev pub CrashLeavesLines : Type 0
  CrashLeavesLines =
      (disks : List D) (left : List (List ℕ)) (start last : Seal) (lines : List (List ℕ))
      → KeepLines g disks start lines last → MayLeave g disks left
      → HaveLines left start lines last
