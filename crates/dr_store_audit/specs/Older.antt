-- Files from before: the tables of a ledger whose lines had no instance of their own, less those
-- that came later.
use Rattle.std.specs.Prelude.{◌≡◌, ◌≢◌, ◌-◌, ◌++◌, ℕ, Bool, true, false, cond, [], ◌∷◌, codes}
use Rattle.std.specs.Prelude.{map as mapped}
use Rattle.std.specs.Str.{bytes_eq}
use Rattle.sqlite.specs.Change.{created, indexed}
use Rattle.sqlite.specs.Schema.{Schema}
use Rattle.sqlite.specs.Table.{Table}
use Rattle.sqlite_schema.specs.declared.schema.Index.{Index}
use Rattle.dr_store_schema.specs.Tables.{arrival, item, journal, kept, print, queue, queue_due}
use Rattle.dr_store_schema.specs.Tables.{refers, site, tables, target}
use Rattle.dr_store_audit.specs.declared.older.Lacks.{Lacks}
use Rattle.dr_store_audit.specs.Tables.{index_of, numbered, with_call}

-- the journal as it was: what an arrival's line was of stood in item and print alone
abbrev pub journal_before : Table
journal_before =
    numbered (codes "journal") 0 (with_call []) (refers 4 (codes "item") (codes "uid") ∷ [])

abbrev pub created_unless : Bool → Schema → Table → Schema
created_unless true schema table = schema
created_unless false schema table = created schema table

abbrev pub indexed_unless : Bool → Schema → Table → Index → Schema
indexed_unless true schema table index = schema
indexed_unless false schema table index = indexed schema table index

-- the number of a tree behind those of print, which has two
abbrev pub behind : Bool → ℕ → ℕ
behind true tree = tree - 2
behind false tree = tree

-- the same tables with the journal as it was, less those, and without the index of arrivals
abbrev pub older_tables : Lacks → Schema
older_tables lacks =
    let stock = created_unless lacks.print
    (created (created (record { tables = []; indexes = []; views = [] }) site) item) print in
    let moves = created_unless lacks.target
    (created (created (created (created stock arrival) kept) queue) journal_before) target in
    indexed_unless lacks.due moves (record queue { tree = behind lacks.print 9 }) queue_due

-- a file from before has these tables, less some or none of those that came later
abbrev pub IsOlder : Schema → Type 0
IsOlder schema = (lacks : Lacks) × (schema ≡ older_tables lacks)

-- ---- laws

-- the table, or today's journal in the place of a journal
abbrev pub with_journal : Table → Table
with_journal table =
    cond (bytes_eq table.name (codes "journal")) (record journal { tree = table.tree }) table

-- A file from before that lacks no table has a ledger's tables but for the columns of its journal,
-- and all indexes but that of arrivals.
pub record LackingNoTable (last : Schema) : Type 0 where
  pub tables_are : mapped with_journal last.tables ≡ tables.tables
  pub indexes_are : last.indexes ++ index_of (codes "arrival_uid") 15 5 (2 ∷ []) false ∷ []
      ≡ tables.indexes

abbrev pub LastIsOlder : Type 0
LastIsOlder =
    LackingNoTable (older_tables (record { print = false; target = false; due = false }))

-- and no older one has them
abbrev pub NoOlderIsNew : Type 0
NoOlderIsNew = (schema : Schema) → IsOlder schema → schema ≢ tables

-- of the oldest files the trees of site, item, arrival, kept, queue and journal
abbrev pub OldestHasSix : Type 0
OldestHasSix =
    mapped
    (λ (table : Table). table.tree)
    (older_tables (record { print = true; target = true; due = true })).tables
    ≡ 0 ∷ 1 ∷ 3 ∷ 5 ∷ 7 ∷ 9 ∷ []
