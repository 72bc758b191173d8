-- Tables of a ledger whose first lines may stand elsewhere. `all` are all lines that are ever
-- sealed: the past of tables is as many of them as their seal counts. So each content of tables has
-- one past, and one whole book.
use Rattle.std.specs.Prelude.{◌≡◌, ◌+◌, ◌-◌, ◌++◌, ℕ, List, [], drop, length, max, take}
use Rattle.sqlite.specs.Tree.{Trees}
use Rattle.dr_ledger.specs.declared.fault.LedgerFault.{LedgerFault}
use Rattle.dr_ledger.specs.declared.fault.LedgerFault.TheVariants as fault
use Rattle.dr_ledger.specs.Books.{Book, Line}
use Rattle.dr_ledger.specs.Histories.{IsJournalled}
use Rattle.dr_ledger.specs.SiteRoutes.{site_routing}
use Rattle.dr_ledger_past.specs.Pasts.{with_past}
use Rattle.dr_ledger_views.specs.Numbers.{counted, lines_within}
use Rattle.dr_site.specs.Parts.{Part}
use Rattle.dr_store_sealed.specs.declared.fault.SealFault.{SealFault}
use Rattle.dr_store_sealed.specs.declared.fault.SealFault.TheVariants as sealing
use Rattle.dr_store_sealed.specs.declared.seal.Seal.{Seal}
use Rattle.dr_store_past.specs.declared.fault.PastFault.{PastFault}
use Rattle.dr_store_past.specs.declared.fault.PastFault.TheVariants as why
use Rattle.dr_store_past.specs.declared.fault.PastFileFault.TheVariants as file
use Rattle.dr_store_past.specs.Lines.{past_in}
use Rattle.dr_store_schema.specs.Books.{book_of}
use Rattle.dr_store_calls.specs.Calling.{IsLedgerOf}
use Rattle.dr_store_calls.specs.Owners.{seal_in}
use Rattle.dr_store_views.specs.Spans.{numbered_of}

-- the lines that have left these tables
abbrev pub past_of : List Line → Trees → List Line
past_of all db = past_in all (seal_in db)

-- the book of these tables, with the lines of their past before its own
abbrev pub whole_book : List Line → Trees → Book
whole_book all db = with_past (past_of all db) (book_of db)

-- ---- lines that are told

-- what a ledger answers where lines of its past weren't read
abbrev pub fault_of_seal : SealFault → LedgerFault
fault_of_seal sealing.Memory = fault.Memory
fault_of_seal other = fault.Store

-- what it answers where its past didn't
abbrev pub fault_of_past : PastFault → LedgerFault
fault_of_past (why.Sealed it) = fault_of_seal it
fault_of_past (why.File file.Memory) = fault.Memory
fault_of_past other = fault.Store

-- The lines whose numbers lie behind the one and up to the other: those of the past, which has as
-- many, and then the tables' own, by their numbers there.
pub record AreBothWithin (past : List Line) (many after last : ℕ) (db : Trees)
    (lines : List Line) : Type 0 where
  pub own : List Line
  pub are : lines ≡ take (last - after) (drop after past) ++ own
  pub told : counted (max after many) own
      ≡ lines_within (max after many) last (numbered_of db)

-- ---- laws

-- Where the tables' seal counts no line, their own book is the whole one. So it is where no line is
-- ever sealed, whatever they count.
pub record NoneSealedIsNoPast : Type 0 where
  pub uncounted : (all : List Line) (db : Trees)
      → (seal_in db).count ≡ 0 → whole_book all db ≡ book_of db
  pub none : (db : Trees) → whole_book [] db ≡ book_of db

-- The whole book of a ledger's tables has the lines of its past before its own, and their journal
-- makes it. The next line's number is one above the count of all its lines.
pub record IsWhole (past : List Line) (n : ℕ) (part : Part) (db : Trees) (book : Book) : Type 0
  where
    pub is : book ≡ with_past past (book_of db)
    pub journalled : IsJournalled (site_routing part) book
    pub next : n ≡ length book.lines + 1

abbrev pub BooksAreWhole : Type 0
BooksAreWhole =
    (all : List Line) (seal : Seal) (n : ℕ) (part : Part) (db : Trees)
    → IsLedgerOf (past_in all seal) n part db
    → IsWhole (past_in all seal) n part db (whole_book all db)
