-- The end of a sharing, with or without agreement of its receipts with the journal.
use Rattle.std.specs.Prelude.{◌≡◌, ◌≤◌, ◌+◌, ℕ, List, All, length, map as mapped, sum_by}
use Rattle.std.specs.List.{AllByRecursion, flat_map}
use Rattle.dr_ledger.specs.Books.{Book, Line}
use Rattle.dr_ledger.specs.Histories.{IsJournalled}
use Rattle.dr_ledger.specs.Replies.{entry_of}
use Rattle.dr_ledger.specs.SiteRoutes.{site_routing}
use Rattle.dr_site.specs.Parts.{Part}
use Rattle.dr_desk.specs.declared.closing.CloseFault.{CloseFault}
use Rattle.dr_desk.specs.declared.receipt.Receipt.{Receipt}
use Rattle.dr_desk.specs.Agreeing.{AreApart, Fails, IsOfLine, Rises, numbers}
use Rattle.dr_desk.specs.Growing.{BeginWith}

-- The passes that came back to a sharing of which so many were made, with the sum of the lines that
-- they count. Where the ledger's premise stands, each receipt is of its line, and the journal has
-- no fewer lines than by that sum; with no pass missing it has just so many.
pub record AreTallied {P : Type 0} (passes : List P) (receipts : P → List Receipt) (count : P → ℕ)
    (stands : Type 0) (lines : List Line) (made total least : ℕ) : Type 0 where
  pub of_lines : stands
      → AllByRecursion (λ p. All (IsOfLine (mapped entry_of lines)) (receipts p)) passes
  pub rise : AllByRecursion (λ p. Rises (receipts p)) passes
  pub apart : AreApart (flat_map (λ p. numbers (receipts p)) passes)
  pub sum : total ≡ sum_by count passes
  pub some : stands → least ≤ length lines
  pub all : stands → length passes ≡ made → least ≡ length lines
  pub few : length passes ≤ made

module _ {L P : Type 0} (site_of : L → Part) (book : L → Book) (stands : L → Type 0)
    (own : Part) (first : List Line) (passes : List P) (receipts : P → List Receipt) where
  -- The sharing has ended: the ledger is of its site, its journal begins with the lines that it had
  -- and its book is what came of it, and the passes agree with it.
  pub record EndsAgreed (count : P → ℕ) (made total : ℕ) (ledger : L) : Type 0 where
    pub of : site_of ledger ≡ own
    pub begins : stands ledger → BeginWith first (book ledger).lines
    pub history : stands ledger → ∥ IsJournalled (site_routing own) (book ledger) ∥₁
    pub tally : AreTallied passes receipts count (stands ledger) (book ledger).lines made total
        (length first + total)

  -- it has ended without agreement: why, of the ledger that is handed back
  abbrev pub EndsUnagreed : CloseFault → L → Type 0
  EndsUnagreed why ledger =
      (site_of ledger ≡ own)
      × (stands ledger
      → Fails why (BeginWith first (book ledger).lines)
      (AllByRecursion
      (λ p. All (IsOfLine (mapped entry_of (book ledger).lines)) (receipts p)) passes)
      (AllByRecursion (λ p. Rises (receipts p)) passes)
      (AreApart (flat_map (λ p. numbers (receipts p)) passes)))
