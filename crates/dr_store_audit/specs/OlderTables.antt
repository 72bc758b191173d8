-- The tables of a file from before, written out.
use Rattle.std.specs.Prelude.{ℕ, Bool, true, false, List, [], ◌∷◌, codes}
use Rattle.sqlite.specs.Schema.{Schema}
use Rattle.sqlite.specs.Table.{Table}
use Rattle.sqlite_schema.specs.declared.schema.Index.{Index}
use Rattle.dr_store_schema.specs.Tables.{arrival, item_table, kept, print_table, queue}
use Rattle.dr_store_schema.specs.Tables.{site_table, target}
use Rattle.dr_store_audit.specs.declared.older.Lacks.{Lacks}
use Rattle.dr_store_audit.specs.Older.{behind, journal_before}
use Rattle.dr_store_audit.specs.Tables.{index_of}

-- the first, unless it is lacking, and the rest
abbrev pub listed : {A : Type 0} → Bool → A → List A → List A
listed true x rest = rest
listed false x rest = x ∷ rest

-- without print, without target
abbrev pub older_list : Bool → Bool → List Table
older_list p t =
    site_table ∷ item_table
    ∷ listed p print_table
    (record arrival { tree = behind p 5 } ∷ record kept { tree = behind p 7 }
    ∷ record queue { tree = behind p 9 } ∷ record journal_before { tree = behind p 11 }
    ∷ listed t (record target { tree = behind p 12 }) [])

abbrev pub stock_indexes : Bool → List Index → List Index
stock_indexes p rest =
    index_of (codes "sqlite_autoindex_item_1") 2 1 (1 ∷ []) true
    ∷ listed p (index_of (codes "sqlite_autoindex_print_1") 4 3 (1 ∷ []) true)
    (index_of (codes "sqlite_autoindex_arrival_1") (behind p 6) (behind p 5) (1 ∷ 2 ∷ []) true
    ∷ rest)

abbrev pub moves_indexes : Bool → Bool → List Index → List Index
moves_indexes p t rest =
    index_of (codes "sqlite_autoindex_kept_1") (behind p 8) (behind p 7) (1 ∷ []) true
    ∷ index_of (codes "sqlite_autoindex_queue_1") (behind p 10) (behind p 9) (1 ∷ 2 ∷ []) true
    ∷ listed t
    (index_of (codes "sqlite_autoindex_target_1") (behind p 13) (behind p 12) (1 ∷ 2 ∷ []) true)
    rest

abbrev pub due_indexes : Bool → ℕ → ℕ → List Index
due_indexes lacks tree table =
    listed lacks (index_of (codes "queue_due") tree table (2 ∷ 3 ∷ 5 ∷ 1 ∷ []) false) []

abbrev pub older_indexes : Bool → Bool → Bool → List Index
older_indexes p t d =
    stock_indexes p (moves_indexes p t (due_indexes d (behind t (behind p 14)) (behind p 9)))

-- all of it
abbrev pub older_schema : Lacks → Schema
older_schema lacks = record {
  tables = older_list lacks.print lacks.target;
  indexes = older_indexes lacks.print lacks.target lacks.due;
  views = [];
}
