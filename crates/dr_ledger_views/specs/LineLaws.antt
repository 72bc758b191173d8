-- Laws of lines by their numbers, and an example.
use Rattle.std.specs.Prelude.{◌≡◌, ◌<◌, ◌+◌, ◌^◌, ℕ, suc, List, [], ◌∷◌, ◌++◌, T, codes, drop}
use Rattle.std.specs.Prelude.{length}
use Rattle.std.specs.Prelude.{map as mapped}
use Rattle.std.specs.FinMap.{is_sorted}
use Rattle.std.specs.Ordering.{nat_cmp}
use Rattle.dr_ledger.specs.Books.{Adoption, Forgetting, Line, Requeuing}
use Rattle.dr_ledger_views.specs.Numbers.{AreBehind, HaveNumbers, counted}

-- numbers that count up rise, and those that have them are the lines
pub record LinesRise : Type 0 where
  pub told : (lines : List Line) (all : List (ℕ × Line))
      → HaveNumbers lines all → mapped (λ (e : ℕ × Line). e.1) all ≡ lines
  pub rise : (lines : List Line) (all : List (ℕ × Line))
      → HaveNumbers lines all → T (is_sorted nat_cmp all)

-- Pages in a row are the whole journal: what comes behind a number is the page, and then what comes
-- behind its last line.
abbrev pub LinePagesAreTheWhole : Type 0
LinePagesAreTheWhole =
    (lines : List Line) (all : List (ℕ × Line)) (after limit : ℕ) (page : List Line)
    → HaveNumbers lines all → AreBehind after limit all page
    → drop after lines ≡ page ++ drop (after + length page) lines

-- and a page that has room for a line is empty only where none came behind the number
abbrev pub EmptyLinePagesAreTheEnd : Type 0
EmptyLinePagesAreTheEnd =
    (lines : List Line) (all : List (ℕ × Line)) (after limit : ℕ)
    → length lines < 2 ^ 63
    → HaveNumbers lines all → AreBehind after (suc limit) all []
    → drop after lines ≡ []

-- ---- figures

-- a row is tried again, an instance is let go, and a plan is adopted
abbrev pub some_journal : List Line
some_journal = Requeuing (codes "1.1") (codes "ARCH") ∷ Forgetting (codes "1.2") ∷ Adoption ∷ []

pub record LineFiguresAreRight : Type 0 where
  pub page : AreBehind 1 1 (counted 0 some_journal) (Forgetting (codes "1.2") ∷ [])
  pub last : AreBehind 1 9 (counted 0 some_journal) (Forgetting (codes "1.2") ∷ Adoption ∷ [])
  pub not_one_further : AreBehind 1 1 (counted 0 some_journal) (Adoption ∷ []) → ⊥
  pub not_a_part : AreBehind 1 9 (counted 0 some_journal) (Forgetting (codes "1.2") ∷ []) → ⊥
  pub numbers : HaveNumbers (Forgetting (codes "1.2") ∷ Adoption ∷ [])
      ((1, Forgetting (codes "1.2")) ∷ (2, Adoption) ∷ [])
  pub none_is_missing : HaveNumbers (Forgetting (codes "1.2") ∷ Adoption ∷ [])
      ((1, Forgetting (codes "1.2")) ∷ (3, Adoption) ∷ []) → ⊥
