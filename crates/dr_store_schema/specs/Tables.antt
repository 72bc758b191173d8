-- The tables of a ledger, as the schema of a database: what `CREATE TABLE` and `CREATE INDEX` make
-- of their texts (`specs/Statements.antt`). A database is a family of trees by number; a table has
-- one, and the index of a key that is no rowid follows its table.
use Rattle.std.specs.Prelude.{Bool, true, false, None, Some, [], ◌∷◌, codes, List, ℕ}
use Rattle.sqlite.specs.Collation.TheVariants.{Binary}
use Rattle.sqlite.specs.declared.types.Value.TheVariants.{Null}
use Rattle.sqlite.specs.Table.{Table}
use Rattle.sqlite.specs.Schema.{Schema}
use Rattle.sqlite.specs.Change.{created, indexed}
use Rattle.sqlite_schema.specs.declared.schema.Action.TheVariants.{NoAction}
use Rattle.sqlite_schema.specs.declared.schema.Column.{Column}
use Rattle.sqlite_schema.specs.declared.schema.Kind.{Kind}
use Rattle.sqlite_schema.specs.declared.schema.Reference.{Reference}
use Rattle.sqlite_schema.specs.declared.schema.Index.{Index}
use Rattle.sqlite.specs.Kind.TheVariants.{Integer, Text, Blob}

-- a column of a strict table, without a default, compared byte by byte
abbrev pub column_named : List ℕ → Kind → Bool → Column
column_named name kind not_null = record {
  name = name;
  kind = kind;
  is_strict = true;
  not_null = not_null;
  default = Null;
  collation = Binary;
}

-- a column whose value stands in that column of another table, of which no such row may leave or
-- change its key
abbrev pub refers : ℕ → List ℕ → List ℕ → Reference
refers place parent name = record {
  columns = place ∷ [];
  parent = parent;
  parent_columns = name ∷ [];
  on_delete = NoAction;
  on_update = NoAction;
  is_deferred = false;
}

-- the node that the ledger is of, and the SHA-256 of the plan in force: one row, whose id is 1
abbrev pub site : Table
site = record {
  name = codes "site";
  tree = 0;
  columns =
      column_named (codes "id") Integer false ∷ column_named (codes "node") Text true
      ∷ column_named (codes "plan") Blob true ∷ [];
  key = Some 0;
  primary = 0 ∷ [];
  uniques = [];
  orders = [];
  checks = [];
  references = [];
  computed = [];
  stamps = record { places = []; terms = []; formats = [] };
  is_counted = false;
}

-- instances by SOP instance UID: what rules read of them, and the data set, empty where it was let
-- go
abbrev pub item : Table
item = record {
  name = codes "item";
  tree = 0;
  columns =
      column_named (codes "uid") Text true ∷ column_named (codes "class") Text true
      ∷ column_named (codes "syntax") Text true ∷ column_named (codes "modality") Blob true
      ∷ column_named (codes "station") Blob true ∷ column_named (codes "body") Blob true ∷ [];
  key = None;
  primary = 1 ∷ [];
  uniques = (1 ∷ []) ∷ [];
  orders = (record { digits = 0 }) ∷ [];
  checks = [];
  references = [];
  computed = [];
  stamps = record { places = []; terms = []; formats = [] };
  is_counted = false;
}

-- of each item its data set's length (bytes) and SHA-256, and whether the data set is there:
-- `whole` is 1, or 0 where it was let go
abbrev pub print : Table
print = record {
  name = codes "print";
  tree = 0;
  columns =
      column_named (codes "uid") Text true ∷ column_named (codes "length") Integer true
      ∷ column_named (codes "sha256") Blob true ∷ column_named (codes "whole") Integer true ∷ [];
  key = None;
  primary = 1 ∷ [];
  uniques = (1 ∷ []) ∷ [];
  orders = (record { digits = 0 }) ∷ [];
  checks = [];
  references = refers 1 (codes "item") (codes "uid") ∷ [];
  computed = [];
  stamps = record { places = []; terms = []; formats = [] };
  is_counted = false;
}

-- who brought which instance since the last adoption
abbrev pub arrival : Table
arrival = record {
  name = codes "arrival";
  tree = 0;
  columns = column_named (codes "caller") Text true ∷ column_named (codes "uid") Text true ∷ [];
  key = None;
  primary = 1 ∷ 2 ∷ [];
  uniques = (1 ∷ 2 ∷ []) ∷ [];
  orders = (record { digits = 0 }) ∷ [];
  checks = [];
  references = refers 2 (codes "item") (codes "uid") ∷ [];
  computed = [];
  stamps = record { places = []; terms = []; formats = [] };
  is_counted = false;
}

-- the instances that the node keeps
abbrev pub kept : Table
kept = record {
  name = codes "kept";
  tree = 0;
  columns = column_named (codes "uid") Text true ∷ [];
  key = None;
  primary = 1 ∷ [];
  uniques = (1 ∷ []) ∷ [];
  orders = (record { digits = 0 }) ∷ [];
  checks = [];
  references = refers 1 (codes "item") (codes "uid") ∷ [];
  computed = [];
  stamps = record { places = []; terms = []; formats = [] };
  is_counted = false;
}

-- how far each instance is on its way to each destination: state 0 waits, 1 is held, 2 is done, 3
-- is dropped
abbrev pub queue : Table
queue = record {
  name = codes "queue";
  tree = 0;
  columns =
      column_named (codes "uid") Text true ∷ column_named (codes "dest") Text true
      ∷ column_named (codes "state") Integer true ∷ column_named (codes "tries") Integer true
      ∷ column_named (codes "due") Integer true ∷ column_named (codes "cause") Integer false ∷ [];
  key = None;
  primary = 1 ∷ 2 ∷ [];
  uniques = (1 ∷ 2 ∷ []) ∷ [];
  orders = (record { digits = 0 }) ∷ [];
  checks = [];
  references = refers 1 (codes "item") (codes "uid") ∷ [];
  computed = [];
  stamps = record { places = []; terms = []; formats = [] };
  is_counted = false;
}

-- the accepted calls, numbered from 1; kind 0 is a first arrival, 1 a repeat, 2 a settling, 3 a
-- requeuing, 4 an adoption, 5 a forgetting, 6 a dropping. The line of an arrival has the instance
-- itself, which may have been forgotten since: what rules read of it, and its data set's length and
-- SHA-256. The moment (milliseconds since 1970) is a settling's and a dropping's own; each other
-- line has that which the ledger was told last before it, or NULL.
abbrev pub journal : Table
journal = record {
  name = codes "journal";
  tree = 0;
  columns =
      column_named (codes "n") Integer false ∷ column_named (codes "kind") Integer true
      ∷ column_named (codes "caller") Text false ∷ column_named (codes "uid") Text false
      ∷ column_named (codes "dest") Text false ∷ column_named (codes "outcome") Integer false
      ∷ column_named (codes "moment") Integer false ∷ column_named (codes "class") Text false
      ∷ column_named (codes "syntax") Text false ∷ column_named (codes "modality") Blob false
      ∷ column_named (codes "station") Blob false ∷ column_named (codes "length") Integer false
      ∷ column_named (codes "sha256") Blob false ∷ [];
  key = Some 0;
  primary = 0 ∷ [];
  uniques = [];
  orders = [];
  checks = [];
  references = [];
  computed = [];
  stamps = record { places = []; terms = []; formats = [] };
  is_counted = false;
}

-- where each first arrival goes on to, one row a destination, and one with `-` where the node keeps
-- it
abbrev pub target : Table
target = record {
  name = codes "target";
  tree = 0;
  columns = column_named (codes "n") Integer true ∷ column_named (codes "dest") Text true ∷ [];
  key = None;
  primary = 1 ∷ 2 ∷ [];
  uniques = (1 ∷ 2 ∷ []) ∷ [];
  orders = (record { digits = 0 }) ∷ [];
  checks = [];
  references = refers 1 (codes "journal") (codes "n") ∷ [];
  computed = [];
  stamps = record { places = []; terms = []; formats = [] };
  is_counted = false;
}

-- the rows of a destination in the order in which they are due
abbrev pub queue_due : Index
queue_due = record {
  name = codes "queue_due";
  tree = 0;
  table = 9;
  columns = 2 ∷ 3 ∷ 5 ∷ 1 ∷ [];
  order = record { digits = 0 };
  is_unique = false;
}

-- the arrivals of an instance, by which they leave with it
abbrev pub arrival_uid : Index
arrival_uid = record {
  name = codes "arrival_uid";
  tree = 0;
  table = 5;
  columns = 2 ∷ [];
  order = record { digits = 0 };
  is_unique = false;
}

-- All of them; each is numbered as it is made.
abbrev pub tables : Schema
tables = indexed
    (indexed
    (created
    (created
    (created
    (created
    (created
    (created (created (created (record { tables = []; indexes = []; views = [] }) site) item) print)
    arrival) kept) queue) journal) target) (record queue { tree = 9 }) queue_due)
    (record arrival { tree = 5 }) arrival_uid

-- ---- the tables with their trees

abbrev pub site_table : Table
site_table = record site { tree = 0 }

abbrev pub item_table : Table
item_table = record item { tree = 1 }

abbrev pub print_table : Table
print_table = record print { tree = 3 }

abbrev pub arrival_table : Table
arrival_table = record arrival { tree = 5 }

abbrev pub kept_table : Table
kept_table = record kept { tree = 7 }

abbrev pub queue_table : Table
queue_table = record queue { tree = 9 }

abbrev pub journal_table : Table
journal_table = record journal { tree = 11 }

abbrev pub target_table : Table
target_table = record target { tree = 12 }
