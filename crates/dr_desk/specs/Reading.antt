-- What a call that only reads answers on a desk that threads share. Another thread may call before
-- it and after it: so its answer is said of the ledger at one moment while it was asked.
use Rattle.std.specs.Prelude.{◌≡◌, ◌≤◌, ◌+◌, ◌-◌, ◌^◌, ℕ, List, length, min, Result}
use Rattle.std.specs.FinMap as map
use Rattle.std.specs.FinSet as set
use Rattle.dr_ledger.specs.declared.fault.LedgerFault.{LedgerFault}
use Rattle.dr_ledger.specs.Bodies.{Bodies}
use Rattle.dr_ledger.specs.Books.{Book, Line, most_lines}
use Rattle.dr_ledger.specs.Pairs.{pair_cmp}
use Rattle.dr_ledger.specs.Replies.{AreKept, Counts, Lists}
use Rattle.dr_site.specs.Parts.{Part}
use Rattle.dr_desk.specs.declared.holdings.Holdings.{Holdings}
use Rattle.dr_desk.specs.declared.holdings.Totals.{Totals}
use Rattle.dr_desk.specs.Answering.{IsShared}

-- the lists are those of the book, and so many lines has its journal
pub record AreHoldings (b : Book) (held : Holdings) : Type 0 where
  pub arrivals : Lists pair_cmp b.arrivals held.arrivals
  pub kept : AreKept b held.kept
  pub rows : held.rows ≡ map.entries b.rows
  pub lines : held.lines ≡ length b.lines

-- the counts are those of the book; of the failures another clause speaks
pub record AreBookTotals (b : Book) (totals : Totals) : Type 0 where
  pub arrivals : totals.arrivals ≡ set.len b.arrivals
  pub kept : totals.kept ≡ set.len b.kept
  pub lines : totals.lines ≡ length b.lines

module _ {L : Type 0} (site_of : L → Part) (book : L → Book) (bodies : L → Bodies)
    (stands : L → Type 0) (failed : L → ℕ) (own : Part) (first : List Line) where
  -- The ledger of that desk answered what is said of it as it was before the call, which left its
  -- book and its data sets.
  abbrev pub Answered : {A : Type 0} (Says : L → Result A LedgerFault → Type 0)
      → Result A LedgerFault → L → L → Type 0
  Answered Says answer old new =
      IsShared site_of book stands failed own first old
      × (stands new → Says old answer)
      × (stands new → (book new ≡ book old) × (bodies new ≡ bodies old))
      × Counts answer (failed old) (failed new)

  -- the same, at some moment
  abbrev pub Reading : {A : Type 0} (Says : L → Result A LedgerFault → Type 0)
      → Result A LedgerFault → Type 0
  Reading Says answer = (old new : L) × Answered Says answer old new

  -- so often its store has failed as the ledger says, and once more for each call that found the
  -- journal full; the count stays at its greatest value
  abbrev pub HasFailed : ℕ → ℕ → L → Type 0
  HasFailed full count ledger =
      (count ≡ min (2 ^ 64 - 1) (failed ledger + full))
      × (1 ≤ full → stands ledger → most_lines ≤ length (book ledger).lines)

  -- the same, at some moment
  abbrev pub Failing : ℕ → Type 0
  Failing count =
      (ledger : L) × (full : ℕ)
      × IsShared site_of book stands failed own first ledger
      × HasFailed full count ledger

  -- so many lines its journal had at some moment
  abbrev pub HasLines : ℕ → Type 0
  HasLines count =
      (ledger : L)
      × IsShared site_of book stands failed own first ledger
      × (stands ledger → count ≡ length (book ledger).lines)
