-- What is found to be a ledger's.
use Rattle.std.specs.Prelude.{◌≡◌, ◌↔◌, ◌+◌, ℕ, List, Some, Result, Ok, Err, is_some, length}
use Rattle.std.specs.FinMap as map
use Rattle.sqlite.specs.Tree.{Trees}
use Rattle.dr_base.specs.Texts.{Text, text_cmp}
use Rattle.dr_route.specs.declared.key.Key.{Key}
use Rattle.dr_site.specs.Parts.{Part}
use Rattle.dr_ledger.specs.declared.item.Progress.{Progress}
use Rattle.dr_ledger.specs.Bodies.{IsNeeded}
use Rattle.dr_ledger.specs.Books.{Line}
use Rattle.dr_ledger.specs.Histories.{IsJournalled}
use Rattle.dr_ledger.specs.Pairs.{Pair, pair_cmp}
use Rattle.dr_ledger.specs.Replies.{Lists}
use Rattle.dr_ledger.specs.SiteRoutes.{site_routing}
use Rattle.dr_ledger_past.specs.Pasts.{with_past}
use Rattle.dr_store_schema.specs.Books.{all_kept_in, arrivals_in, bodies_of, book_of, rows_of}
use Rattle.dr_store_reads.specs.declared.finding.Print.{Print}
use Rattle.dr_store_lists.specs.declared.listing.JournalRow.{JournalRow}
use Rattle.dr_store_lists.specs.Lists.{Goal, IsJournal, goal_cmp, goals_of, keys_of}
use Rattle.dr_store_lists.specs.Lists.{whole_prints_of}
use Rattle.dr_store_changes.specs.Bringing.{GoNowhere}
use Rattle.dr_store_audit.specs.Journal.{CountUp}
use Rattle.dr_store_audit.specs.declared.fault.FindingFault.{FindingFault}
use Rattle.dr_store_audit.specs.declared.fault.FindingFault.TheVariants as finding

-- the lists of all tables but site
pub record AreListsOf (db : Trees) (keys : List (Text × Key)) (prints : List (Text × Print))
    (arrivals : List Pair) (kept : List Text) (rows : List (Pair × Progress))
    (notes : List (ℕ × JournalRow)) (goals : List Goal) : Type 0 where
  pub keys_are : keys ≡ map.entries (keys_of db)
  pub prints_are : prints ≡ map.entries (whole_prints_of db)
  pub arrivals_are : Lists pair_cmp (arrivals_in (db 5)) arrivals
  pub kept_are : Lists text_cmp (all_kept_in (db 7)) kept
  pub rows_are : rows ≡ map.entries (rows_of db)
  pub notes_are : IsJournal db notes
  pub goals_are : Lists goal_cmp (goals_of db) goals

-- The tables are those of a ledger of that site that has this past, and whose next line has number
-- n, but for what their data sets are.
pub record IsFound (past : List Line) (n : ℕ) (part : Part) (db : Trees) : Type 0 where
  pub ahead : GoNowhere n db
  pub journalled : IsJournalled (site_routing part) (with_past past (book_of db))
  pub there : (uid : Text)
      → ((body : List ℕ) × (map.get (bodies_of db) uid ≡ Some body)) ↔ IsNeeded (book_of db) uid

-- The tables hold together: they are a ledger's that has this past, each instance has its key and
-- its print, and the numbers of the lines, which these notes say, go on from those of the past.
pub record HoldTogether (past : List Line) (n : ℕ) (part : Part) (db : Trees)
    (notes : List (ℕ × JournalRow)) : Type 0 where
  pub found : IsFound past n part db
  pub together : (uid : Text)
      → is_some (map.get (keys_of db) uid) ≡ is_some (map.get (whole_prints_of db) uid)
  pub numbered : CountUp (length past + 1) notes

-- whether tables agree: it is said so where they do, and the site is another one's only where they
-- don't
abbrev pub AgreesAs : Result (Unit {0}) FindingFault → Type 0 → Type 0
AgreesAs (Ok done) Agreed = Agreed
AgreesAs (Err finding.OtherSite) Agreed = Agreed → ⊥
AgreesAs (Err finding.Memory) Agreed = Unit {0}
