-- The forms of a ledger's tables and indexes.
use Rattle.std.specs.Prelude.{◌≡◌, ℕ, Bool, true, false, None, Some, List, [], ◌∷◌, codes}
use Rattle.sqlite.specs.Schema.{Schema}
use Rattle.sqlite.specs.Table.{Table}
use Rattle.sqlite_schema.specs.declared.schema.Column.{Column}
use Rattle.sqlite_schema.specs.declared.schema.Index.{Index}
use Rattle.sqlite_schema.specs.declared.schema.Reference.{Reference}
use Rattle.sqlite.specs.Kind.TheVariants.{Blob, Integer, Text}
use Rattle.dr_store_schema.specs.Tables.{arrival_table, column_named, item_table, journal_table}
use Rattle.dr_store_schema.specs.Tables.{kept_table, print_table, queue_table, site_table}
use Rattle.dr_store_schema.specs.Tables.{target_table}

-- a table under a key of its own, with nothing that the texts of a ledger's tables don't say
abbrev pub keyed : List ℕ → ℕ → List Column → List ℕ → List Reference → Table
keyed name tree columns key references = record {
  name = name;
  tree = tree;
  columns = columns;
  key = None;
  primary = key;
  uniques = key ∷ [];
  orders = (record { digits = 0 }) ∷ [];
  checks = [];
  references = references;
  computed = [];
  stamps = record { places = []; terms = []; formats = [] };
  is_counted = false;
}

-- a table whose rows go by the number in its first column
abbrev pub numbered : List ℕ → ℕ → List Column → List Reference → Table
numbered name tree columns references = record {
  name = name;
  tree = tree;
  columns = columns;
  key = Some 0;
  primary = 0 ∷ [];
  uniques = [];
  orders = [];
  checks = [];
  references = references;
  computed = [];
  stamps = record { places = []; terms = []; formats = [] };
  is_counted = false;
}

-- the table has no test, no default that is computed, and no counter
pub record HasNothingMore (table : Table) : Type 0 where
  pub checks : table.checks ≡ []
  pub computed : table.computed ≡ []
  pub stamps : table.stamps ≡ record { places = []; terms = []; formats = [] }
  pub uncounted : table.is_counted ≡ false

-- the columns of journal that say of a line which call it was, before others
abbrev pub with_call : List Column → List Column
with_call rest =
    column_named (codes "n") Integer false ∷ column_named (codes "kind") Integer true
    ∷ column_named (codes "caller") Text false ∷ column_named (codes "uid") Text false
    ∷ column_named (codes "dest") Text false ∷ column_named (codes "outcome") Integer false
    ∷ column_named (codes "moment") Integer false ∷ rest

-- those that have a line's instance
abbrev pub instance_columns : List Column
instance_columns =
    column_named (codes "class") Text false ∷ column_named (codes "syntax") Text false
    ∷ column_named (codes "modality") Blob false ∷ column_named (codes "station") Blob false
    ∷ column_named (codes "length") Integer false ∷ column_named (codes "sha256") Blob false ∷ []

-- columns sort as they stand
abbrev pub index_of : List ℕ → ℕ → ℕ → List ℕ → Bool → Index
index_of name tree table columns unique = record {
  name = name;
  tree = tree;
  table = table;
  columns = columns;
  order = record { digits = 0 };
  is_unique = unique;
}

-- the owner, instances, and who brought them
abbrev pub stock_tables : List Table
stock_tables = site_table ∷ item_table ∷ print_table ∷ arrival_table ∷ []

-- what is kept, the queue and the journal
abbrev pub moves_tables : List Table
moves_tables = kept_table ∷ queue_table ∷ journal_table ∷ target_table ∷ []

abbrev pub ledger_tables : List Table
ledger_tables =
    site_table ∷ item_table ∷ print_table ∷ arrival_table ∷ kept_table ∷ queue_table ∷ journal_table
    ∷ target_table ∷ []

abbrev pub key_indexes : List Index
key_indexes =
    index_of (codes "sqlite_autoindex_item_1") 2 1 (1 ∷ []) true
    ∷ index_of (codes "sqlite_autoindex_print_1") 4 3 (1 ∷ []) true
    ∷ index_of (codes "sqlite_autoindex_arrival_1") 6 5 (1 ∷ 2 ∷ []) true
    ∷ index_of (codes "sqlite_autoindex_kept_1") 8 7 (1 ∷ []) true
    ∷ index_of (codes "sqlite_autoindex_queue_1") 10 9 (1 ∷ 2 ∷ []) true
    ∷ index_of (codes "sqlite_autoindex_target_1") 13 12 (1 ∷ 2 ∷ []) true
    ∷ []

abbrev pub row_indexes : List Index
row_indexes =
    index_of (codes "queue_due") 14 9 (2 ∷ 3 ∷ 5 ∷ 1 ∷ []) false
    ∷ index_of (codes "arrival_uid") 15 5 (2 ∷ []) false
    ∷ []

-- those of keys, that of the rows that are due, and that of an instance's arrivals
abbrev pub ledger_indexes : List Index
ledger_indexes =
    index_of (codes "sqlite_autoindex_item_1") 2 1 (1 ∷ []) true
    ∷ index_of (codes "sqlite_autoindex_print_1") 4 3 (1 ∷ []) true
    ∷ index_of (codes "sqlite_autoindex_arrival_1") 6 5 (1 ∷ 2 ∷ []) true
    ∷ index_of (codes "sqlite_autoindex_kept_1") 8 7 (1 ∷ []) true
    ∷ index_of (codes "sqlite_autoindex_queue_1") 10 9 (1 ∷ 2 ∷ []) true
    ∷ index_of (codes "sqlite_autoindex_target_1") 13 12 (1 ∷ 2 ∷ []) true
    ∷ index_of (codes "queue_due") 14 9 (2 ∷ 3 ∷ 5 ∷ 1 ∷ []) false
    ∷ index_of (codes "arrival_uid") 15 5 (2 ∷ []) false
    ∷ []

-- all of it
abbrev pub ledger_schema : Schema
ledger_schema = record { tables = ledger_tables; indexes = ledger_indexes; views = [] }
