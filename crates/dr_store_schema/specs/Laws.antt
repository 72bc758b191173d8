-- Laws of the tables: what their texts make, and what stands in them.
use Rattle.std.specs.Prelude.{◌≡◌, ◌≤◌, ◌^◌, ℕ, Ok, pos, [], None, Some}
use Rattle.std.specs.FinMap as map
use Rattle.sqlite.specs.Compile.{table_defined_by}
use Rattle.sqlite.specs.Given.{IsPlain}
use Rattle.sqlite.specs.Listing.{understood}
use Rattle.sqlite.specs.declared.types.Value.TheVariants.{Int}
use Rattle.sqlite.specs.Tree.{Trees}
use Rattle.dr_base.specs.declared.syntax.Syntax.{Syntax}
use Rattle.dr_ledger.specs.declared.item.Outcome.{Outcome}
use Rattle.dr_ledger.specs.declared.item.Progress.{Progress}
use Rattle.dr_ledger.specs.Books.{empty_book}
use Rattle.dr_store_schema.specs.Books.{bodies_of, book_of, lines_of}
use Rattle.dr_store_schema.specs.Cells.{due_of, mark_of, moment_in, moment_value, outcome_in}
use Rattle.dr_store_schema.specs.Cells.{outcome_value, progress_in}
use Rattle.dr_store_schema.specs.Cells.{state_of, syntax_marked, tries_of, why_of}
use Rattle.dr_store_schema.specs.Statements as text
use Rattle.dr_store_schema.specs.Tables as table
use Rattle.dr_store_schema.specs.Tables.{tables}

-- each text of CREATE TABLE makes its table
pub record TextsMakeTables : Type 0 where
  pub site : table_defined_by text.create_site ≡ Ok table.site
  pub item : table_defined_by text.create_item ≡ Ok table.item
  pub print : table_defined_by text.create_print ≡ Ok table.print
  pub arrival : table_defined_by text.create_arrival ≡ Ok table.arrival
  pub kept : table_defined_by text.create_kept ≡ Ok table.kept
  pub queue : table_defined_by text.create_queue ≡ Ok table.queue
  pub journal : table_defined_by text.create_journal ≡ Ok table.journal
  pub target : table_defined_by text.create_target ≡ Ok table.target

-- Over these tables each statement is one of SQL that is understood; none has a RETURNING, and none
-- reads the clock.
pub record StatementsAreUnderstood : Type 0 where
  pub insert_item : IsPlain (understood tables text.insert_item)
  pub insert_print : IsPlain (understood tables text.insert_print)
  pub insert_arrival : IsPlain (understood tables text.insert_arrival)
  pub insert_kept : IsPlain (understood tables text.insert_kept)
  pub insert_row : IsPlain (understood tables text.insert_row)
  pub insert_arrived : IsPlain (understood tables text.insert_arrived)
  pub insert_target : IsPlain (understood tables text.insert_target)
  pub set_row : IsPlain (understood tables text.set_row)
  pub insert_settled : IsPlain (understood tables text.insert_settled)
  pub insert_requeued : IsPlain (understood tables text.insert_requeued)
  pub insert_dropped : IsPlain (understood tables text.insert_dropped)
  pub set_body : IsPlain (understood tables text.set_body)
  pub set_whole : IsPlain (understood tables text.set_whole)
  pub drop_arrivals : IsPlain (understood tables text.drop_arrivals)
  pub drop_over : IsPlain (understood tables text.drop_over)
  pub insert_adopted : IsPlain (understood tables text.insert_adopted)
  pub drop_arrivals_of : IsPlain (understood tables text.drop_arrivals_of)
  pub drop_rows_of : IsPlain (understood tables text.drop_rows_of)
  pub drop_print : IsPlain (understood tables text.drop_print)
  pub drop_item : IsPlain (understood tables text.drop_item)
  pub insert_forgotten : IsPlain (understood tables text.insert_forgotten)
  pub insert_site : IsPlain (understood tables text.insert_site)
  pub set_plan : IsPlain (understood tables text.set_plan)
  pub drop_targets : IsPlain (understood tables text.drop_targets)
  pub drop_lines : IsPlain (understood tables text.drop_lines)
  pub the_site : IsPlain (understood tables text.the_site)
  pub find_key : IsPlain (understood tables text.find_key)
  pub find_item : IsPlain (understood tables text.find_item)
  pub find_print : IsPlain (understood tables text.find_print)
  pub find_arrival : IsPlain (understood tables text.find_arrival)
  pub find_kept : IsPlain (understood tables text.find_kept)
  pub find_row : IsPlain (understood tables text.find_row)
  pub find_open : IsPlain (understood tables text.find_open)
  pub find_any_open : IsPlain (understood tables text.find_any_open)
  pub find_next : IsPlain (understood tables text.find_next)
  pub all_items : IsPlain (understood tables text.all_items)
  pub all_prints : IsPlain (understood tables text.all_prints)
  pub all_arrivals : IsPlain (understood tables text.all_arrivals)
  pub all_kept : IsPlain (understood tables text.all_kept)
  pub all_rows : IsPlain (understood tables text.all_rows)
  pub all_lines : IsPlain (understood tables text.all_lines)
  pub all_targets : IsPlain (understood tables text.all_targets)
  pub item_rowids : IsPlain (understood tables text.item_rowids)
  pub print_rowids : IsPlain (understood tables text.print_rowids)
  pub arrival_rowids : IsPlain (understood tables text.arrival_rowids)
  pub journal_rowids : IsPlain (understood tables text.journal_rowids)
  pub queue_counts : IsPlain (understood tables text.queue_counts)
  pub queue_rowids : IsPlain (understood tables text.queue_rowids)

-- The cells of a row and of an outcome say what was written into them.
pub record CellsSayWhatWasWritten : Type 0 where
  pub progress : (p : Progress)
      → progress_in (Int (pos (state_of p))) (Int (pos (tries_of p))) (Int (pos (due_of p)))
      (why_of p)
      ≡ p
  pub outcome : (what : Outcome) → outcome_in (outcome_value what) ≡ what
  pub syntax : (syntax : Syntax) → syntax_marked (mark_of syntax) ≡ syntax
  pub moment : (now : ℕ) → now ≤ 2 ^ 62 → moment_in (moment_value (Some now)) ≡ Some now
  pub no_moment : moment_in (moment_value None) ≡ None

-- empty tables are the book of a node to which nothing came
pub record EmptyTablesAreEmpty : Type 0 where
  pub book : book_of (λ tree. []) ≡ empty_book
  pub bodies : bodies_of (λ tree. []) ≡ map.empty

-- the lines stand in journal and target alone: an item that leaves, or that comes under the uid of
-- one that left, changes none
abbrev pub LinesStandAlone : Type 0
LinesStandAlone =
    (old new : Trees) → new 11 ≡ old 11 → new 12 ≡ old 12 → lines_of new ≡ lines_of old
