-- The lists of all tables but site.
use Rattle.std.specs.Prelude.{◌≡◌}
use Rattle.std.specs.FinMap as map
use Rattle.sqlite.specs.Tree.{Trees}
use Rattle.dr_base.specs.Texts.{text_cmp}
use Rattle.dr_ledger.specs.Pairs.{pair_cmp}
use Rattle.dr_ledger.specs.Replies.{Lists}
use Rattle.dr_store_schema.specs.Books.{all_kept_in, arrivals_in, rows_of}
use Rattle.dr_store_lists.specs.Lists.{IsJournal, goal_cmp, goals_of, keys_of, whole_prints_of}
use Rattle.dr_store_open.specs.declared.listed.Journal.{Journal}
use Rattle.dr_store_open.specs.declared.listed.Moves.{Moves}
use Rattle.dr_store_open.specs.declared.listed.Stock.{Stock}
use Rattle.dr_store_open.specs.declared.listed.WholeLists.{WholeLists}
use Rattle.dr_store_open.specs.Opening.{HasNumbers}

-- what is known of the instances, and who brought them
pub record IsStockOf (db : Trees) (stock : Stock) : Type 0 where
  pub keys : stock.keys.items ≡ map.entries (keys_of db)
  pub prints : stock.prints.items ≡ map.entries (whole_prints_of db)
  pub arrivals : Lists pair_cmp (arrivals_in (db 5)) stock.arrivals.items

-- which instances are kept, and how far the others are on their way
pub record IsMovesOf (db : Trees) (moves : Moves) : Type 0 where
  pub kept : Lists text_cmp (all_kept_in (db 7)) moves.kept.items
  pub rows : moves.rows.items ≡ map.entries (rows_of db)

-- the journal's lines, and where they go on to
pub record IsJournalOf (db : Trees) (journal : Journal) : Type 0 where
  pub notes : IsJournal db journal.notes.items
  pub goals : Lists goal_cmp (goals_of db) journal.goals.items

-- all of them, and each line has a number
pub record AreWholeListsOf (db : Trees) (lists : WholeLists) : Type 0 where
  pub stock : IsStockOf db lists.stock
  pub moves : IsMovesOf db lists.moves
  pub journal : IsJournalOf db lists.journal
  pub numbers : HasNumbers db
