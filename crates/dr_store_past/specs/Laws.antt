-- Laws of pasts in files.
use Rattle.std.specs.Prelude.{◌≡◌, ℕ, List, [], ◌∷◌, ◌++◌, None, Some, codes, replicate}
use Rattle.dr_ledger.specs.Books.{Adoption, Forgetting, Line}
use Rattle.dr_ledger_history.specs.declared.line.JournalLine.TheVariants as told
use Rattle.sqlite_disk.specs.declared.Disk.{Ghosts}
use Rattle.dr_store_sealed.specs.declared.seal.Seal.{Seal}
use Rattle.dr_store_line_files.specs.Filed.{HaveLines, MayLeave}
use Rattle.dr_store_sealed.specs.Seals.{first_seal}
use Rattle.dr_store_past.specs.declared.lines.PastLine.{PastLine}
use Rattle.dr_store_past.specs.Lines.{all_said, past_in, texts_behind}
use Rattle.dr_store_past.specs.Shown.{HaveWritten, ShowsPast}

-- files show one past up to a seal
abbrev pub ShowsOnePast : Type 0
ShowsOnePast =
    (all other : List Line) (files : List (List ℕ)) (seal : Seal)
    → ShowsPast all files seal → ShowsPast other files seal
    → past_in all seal ≡ past_in other seal

-- the files have the lines up to the one seal, and up to the other
pub record HasEither
    (left : List (List ℕ)) (seal last : Seal) (before lines : List PastLine) : Type 0 where
  pub old : HaveLines left first_seal (texts_behind 0 before) seal
  pub new : HaveLines left first_seal (texts_behind 0 (before ++ lines)) last

module _ {D : Type 0} (g : Ghosts D) where
  -- what is written behind a past goes on it
  abbrev pub WrittenGoesOn : Type 0
  WrittenGoesOn =
      (disks : List D) (seal last : Seal) (before lines : List PastLine)
      → HaveWritten g disks first_seal before seal
      → HaveWritten g disks seal lines last
      → HaveWritten g disks first_seal (before ++ lines) last

  -- whatever a crash leaves then has the lines of either seal
  abbrev pub CrashLeavesEither : Type 0
  CrashLeavesEither =
      (disks : List D) (left : List (List ℕ)) (seal last : Seal) (before lines : List PastLine)
      → HaveWritten g disks first_seal before seal
      → HaveWritten g disks seal lines last
      → MayLeave g disks left
      → HasEither left seal last before lines

-- figures: two lines behind the fourth, and a past of the first of them
abbrev pub some_lines : List PastLine
some_lines =
    record { line = told.Adoption; moment = None }
    ∷ record { line = told.Forgetting (codes "1.2"); moment = Some 2000 } ∷ []

pub record PastFiguresStand : Type 0 where
  pub texts : texts_behind 4 some_lines
      ≡ codes "{\"line\":5,\"kind\":\"adoption\"}"
      ∷ codes "{\"line\":6,\"kind\":\"forgetting\",\"uid\":\"1.2\",\"at\":2000}" ∷ []
  pub said : all_said some_lines ≡ Adoption ∷ Forgetting (codes "1.2") ∷ []
  pub first : past_in (all_said some_lines)
      (record { count = 1; chain = replicate 32 0; number = 0; offset = 93 }) ≡ Adoption ∷ []
  pub none : past_in (all_said some_lines) first_seal ≡ []
