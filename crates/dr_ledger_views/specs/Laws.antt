-- Laws of what is asked of a book, and figures.
use Rattle.std.specs.Prelude.{◌≡◌, ◌≤◌, ◌<◌, ◌+◌, ℕ, suc, List, [], ◌∷◌, ◌++◌, codes, Option, None}
use Rattle.std.specs.Prelude.{Some}
use Rattle.std.specs.FinMap as map
use Rattle.std.specs.FinSet as set
use Rattle.std.specs.FinSet.{FinSet}
use Rattle.dr_base.specs.Texts.{Text}
use Rattle.dr_ledger.specs.Books.{Book, Row}
use Rattle.dr_ledger.specs.Pairs.{Pair, pair_cmp}
use Rattle.dr_ledger.specs.Replies.{Dues}
use Rattle.dr_ledger.specs.declared.item.Cause.TheVariants as cause
use Rattle.dr_ledger.specs.declared.item.Progress.TheVariants as progress
use Rattle.dr_ledger_views.specs.declared.stage.Stage.{Stage}
use Rattle.dr_ledger_views.specs.declared.stage.Stage.TheVariants as stage
use Rattle.dr_ledger_views.specs.Views.{AreCallers, IsLeast, all_behind, dues, how_many}
use Rattle.dr_ledger_views.specs.Views.{page_of}

-- Each row to a destination is at one stage: the four counts add up to all of them.
abbrev pub CountsAddUp : Type 0
CountsAddUp =
    (rows : List Row) (dest : Text)
    → how_many rows dest None
    ≡ how_many rows dest (Some stage.Waiting) + how_many rows dest (Some stage.Held)
    + how_many rows dest (Some stage.Done) + how_many rows dest (Some stage.Dropped)

-- the uid of the last row; where there is none, this one
abbrev pub last_uid : Text → List Row → Text
last_uid after [] = after
last_uid after (row ∷ rows) = last_uid row.0.0 rows

-- Pages in a row are the whole list: a page, and what comes behind its last row, are all that came
-- behind `after`, each once and in order.
abbrev pub PagesAreTheWhole : Type 0
PagesAreTheWhole =
    (b : Book) (dest : Text) (named : Option Stage) (after : Text) (limit : ℕ)
    → all_behind (map.entries b.rows) dest named after
    ≡ page_of (map.entries b.rows) dest named after limit
    ++ all_behind (map.entries b.rows) dest named
    (last_uid after (page_of (map.entries b.rows) dest named after limit))

-- and a page that has room for a row is empty only where nothing came behind `after`
abbrev pub EmptyPagesAreTheEnd : Type 0
EmptyPagesAreTheEnd =
    (rows : List Row) (dest : Text) (named : Option Stage) (after : Text) (limit : ℕ)
    → page_of rows dest named after (suc limit) ≡ []
    → all_behind rows dest named after ≡ []

-- the least of some moments is one
abbrev pub LeastIsOne : Type 0
LeastIsOne =
    (moments : List ℕ) (one other : Option ℕ)
    → IsLeast moments one → IsLeast moments other → one ≡ other

-- Where a row waits, one is due from the first moment on, and none is before it.
pub record FirstIsDue (b : Book) (dest : Text) (first : ℕ) : Type 0 where
  pub from : (now : ℕ) → first ≤ now → Dues b dest now None → ⊥
  pub before : (now : ℕ) (uid : Text) → now < first → Dues b dest now (Some uid) → ⊥

abbrev pub FirstsAreDue : Type 0
FirstsAreDue =
    (b : Book) (dest : Text) (first : ℕ)
    → IsLeast (dues (map.entries b.rows) dest) (Some first)
    → FirstIsDue b dest first

-- and where none waits, none is ever due
abbrev pub NoneIsNeverDue : Type 0
NoneIsNeverDue =
    (b : Book) (dest : Text)
    → IsLeast (dues (map.entries b.rows) dest) None → (now : ℕ) (uid : Text)
    → Dues b dest now (Some uid) → ⊥

-- the callers of an instance are one list
abbrev pub CallersAreOne : Type 0
CallersAreOne =
    (arrivals : FinSet pair_cmp) (uid : Text) (one other : List Text)
    → AreCallers arrivals uid one → AreCallers arrivals uid other → one ≡ other

-- and nobody brought what isn't noted
abbrev pub NobodyBringsNothing : Type 0
NobodyBringsNothing = (uid : Text) → AreCallers set.empty uid []

-- ---- figures

-- two callers, of whom one brought two instances, and the other one of them
abbrev pub some_arrivals : List Pair
some_arrivals =
    (codes "CT1", codes "1.1") ∷ (codes "CT1", codes "1.2") ∷ (codes "MR2", codes "1.2") ∷ []

pub record CallersAreRight : Type 0 where
  pub both : AreCallers (set.from_list some_arrivals) (codes "1.2") (codes "CT1" ∷ codes "MR2" ∷ [])
  pub one : AreCallers (set.from_list some_arrivals) (codes "1.1") (codes "CT1" ∷ [])
  pub none : AreCallers (set.from_list some_arrivals) (codes "1.3") []
  pub not_the_other : AreCallers (set.from_list some_arrivals) (codes "1.1")
      (codes "CT1" ∷ codes "MR2" ∷ []) → ⊥
  pub not_in_any_order : AreCallers (set.from_list some_arrivals) (codes "1.2")
      (codes "MR2" ∷ codes "CT1" ∷ []) → ⊥

-- three instances: the first waits for ARCH and is held for PACS, the second waits for ARCH and was
-- tried once, the third is done at ARCH
abbrev pub some_rows : List Row
some_rows =
    ((codes "1.1", codes "ARCH"), progress.Waiting 0 7)
    ∷ ((codes "1.1", codes "PACS"), progress.Held (cause.Status 0xC0F1))
    ∷ ((codes "1.2", codes "ARCH"), progress.Waiting 1 5)
    ∷ ((codes "1.3", codes "ARCH"), progress.Done) ∷ []

pub record ViewFiguresAreRight : Type 0 where
  pub waiting : how_many some_rows (codes "ARCH") (Some stage.Waiting) ≡ 2
  pub held : how_many some_rows (codes "ARCH") (Some stage.Held) ≡ 0
  pub held_elsewhere : how_many some_rows (codes "PACS") (Some stage.Held) ≡ 1
  pub all : how_many some_rows (codes "ARCH") None ≡ 3
  pub moments : dues some_rows (codes "ARCH") ≡ 7 ∷ 5 ∷ []
  pub first : IsLeast (dues some_rows (codes "ARCH")) (Some 5)
  pub not_the_last : IsLeast (dues some_rows (codes "ARCH")) (Some 7) → ⊥
  pub none : IsLeast (dues some_rows (codes "PACS")) None
  pub page : page_of some_rows (codes "ARCH") (Some stage.Waiting) [] 1
      ≡ ((codes "1.1", codes "ARCH"), progress.Waiting 0 7) ∷ []
  pub next : page_of some_rows (codes "ARCH") (Some stage.Waiting) (codes "1.1") 1
      ≡ ((codes "1.2", codes "ARCH"), progress.Waiting 1 5) ∷ []
  pub last : page_of some_rows (codes "ARCH") (Some stage.Waiting) (codes "1.2") 1 ≡ []
