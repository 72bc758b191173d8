-- The texts of a ledger's statements. Parameters count from ?1.
use Rattle.std.specs.Prelude.{List, ℕ, codes}

-- ---- making the tables

abbrev pub create_site : List ℕ
create_site = codes
    "CREATE TABLE site (id INTEGER PRIMARY KEY, node TEXT NOT NULL, plan BLOB NOT NULL) STRICT"

abbrev pub create_item : List ℕ
create_item = codes
    "CREATE TABLE item (uid TEXT NOT NULL PRIMARY KEY, class TEXT NOT NULL, syntax TEXT NOT NULL, modality BLOB NOT NULL, station BLOB NOT NULL, body BLOB NOT NULL) STRICT"

abbrev pub create_print : List ℕ
create_print = codes
    "CREATE TABLE print (uid TEXT NOT NULL PRIMARY KEY REFERENCES item (uid), length INTEGER NOT NULL, sha256 BLOB NOT NULL, whole INTEGER NOT NULL) STRICT"

abbrev pub create_arrival : List ℕ
create_arrival = codes
    "CREATE TABLE arrival (caller TEXT NOT NULL, uid TEXT NOT NULL REFERENCES item (uid), PRIMARY KEY (caller, uid)) STRICT"

abbrev pub create_kept : List ℕ
create_kept = codes "CREATE TABLE kept (uid TEXT NOT NULL PRIMARY KEY REFERENCES item (uid)) STRICT"

abbrev pub create_queue : List ℕ
create_queue = codes
    "CREATE TABLE queue (uid TEXT NOT NULL REFERENCES item (uid), dest TEXT NOT NULL, state INTEGER NOT NULL, tries INTEGER NOT NULL, due INTEGER NOT NULL, cause INTEGER, PRIMARY KEY (uid, dest)) STRICT"

abbrev pub create_journal : List ℕ
create_journal = codes
    "CREATE TABLE journal (n INTEGER PRIMARY KEY, kind INTEGER NOT NULL, caller TEXT, uid TEXT, dest TEXT, outcome INTEGER, moment INTEGER, class TEXT, syntax TEXT, modality BLOB, station BLOB, length INTEGER, sha256 BLOB) STRICT"

abbrev pub create_target : List ℕ
create_target = codes
    "CREATE TABLE target (n INTEGER NOT NULL REFERENCES journal (n), dest TEXT NOT NULL, PRIMARY KEY (n, dest)) STRICT"

abbrev pub create_queue_due : List ℕ
create_queue_due = codes "CREATE INDEX queue_due ON queue (dest, state, due, uid)"

abbrev pub create_arrival_uid : List ℕ
create_arrival_uid = codes "CREATE INDEX arrival_uid ON arrival (uid)"

-- ---- a first arrival

-- An instance with its data set, under the number of the line by which it comes. Where a statement
-- leaves the rowid to the database, that reads the table's last row whole, with its data set.
abbrev pub insert_item : List ℕ
insert_item = codes
    "INSERT INTO item (rowid, uid, class, syntax, modality, station, body) VALUES (?1, ?2, ?3, ?4, ?5, ?6, ?7)"

-- the length and the SHA-256 of its data set, and whether it is there
abbrev pub insert_print : List ℕ
insert_print = codes "INSERT INTO print (uid, length, sha256, whole) VALUES (?1, ?2, ?3, ?4)"

-- who brought it
abbrev pub insert_arrival : List ℕ
insert_arrival = codes "INSERT INTO arrival (caller, uid) VALUES (?1, ?2)"

-- the node keeps it
abbrev pub insert_kept : List ℕ
insert_kept = codes "INSERT INTO kept (uid) VALUES (?1)"

-- it waits for a destination, untried
abbrev pub insert_row : List ℕ
insert_row =
    codes "INSERT INTO queue (uid, dest, state, tries, due, cause) VALUES (?1, ?2, 0, 0, 0, NULL)"

-- the line of a first arrival (kind 0) or of a repeat (kind 1), whose outcome is what was answered:
-- 0 new, 1 again; with its moment, and what came: what rules read of it, and the length and the
-- SHA-256 of its data set
abbrev pub insert_arrived : List ℕ
insert_arrived = codes
    "INSERT INTO journal (n, kind, caller, uid, dest, outcome, moment, class, syntax, modality, station, length, sha256) VALUES (?1, ?2, ?3, ?4, NULL, ?2, ?5, ?6, ?7, ?8, ?9, ?10, ?11)"

-- where the first arrival of this line goes on to
abbrev pub insert_target : List ℕ
insert_target = codes "INSERT INTO target (n, dest) VALUES (?1, ?2)"

-- ---- what came of a row

-- the row of an instance and a destination moves on
abbrev pub set_row : List ℕ
set_row = codes
    "UPDATE queue SET state = ?3, tries = ?4, due = ?5, cause = ?6 WHERE uid = ?1 AND dest = ?2"

-- the line of a settling
abbrev pub insert_settled : List ℕ
insert_settled = codes
    "INSERT INTO journal (n, kind, caller, uid, dest, outcome, moment) VALUES (?1, 2, NULL, ?2, ?3, ?4, ?5)"

-- the line of a requeuing
abbrev pub insert_requeued : List ℕ
insert_requeued = codes
    "INSERT INTO journal (n, kind, caller, uid, dest, outcome, moment) VALUES (?1, 3, NULL, ?2, ?3, NULL, ?4)"

-- the line of a dropping
abbrev pub insert_dropped : List ℕ
insert_dropped = codes
    "INSERT INTO journal (n, kind, caller, uid, dest, outcome, moment) VALUES (?1, 6, NULL, ?2, ?3, NULL, ?4)"

-- ---- a forgetting, and a dropping

-- its arrivals leave
abbrev pub drop_arrivals_of : List ℕ
drop_arrivals_of = codes "DELETE FROM arrival WHERE uid = ?1"

-- its rows leave
abbrev pub drop_rows_of : List ℕ
drop_rows_of = codes "DELETE FROM queue WHERE uid = ?1"

-- its print leaves
abbrev pub drop_print : List ℕ
drop_print = codes "DELETE FROM print WHERE uid = ?1"

-- the item itself leaves, to which nothing refers by now
abbrev pub drop_item : List ℕ
drop_item = codes "DELETE FROM item WHERE uid = ?1"

-- the line of a forgetting
abbrev pub insert_forgotten : List ℕ
insert_forgotten = codes
    "INSERT INTO journal (n, kind, caller, uid, dest, outcome, moment) VALUES (?1, 5, NULL, ?2, NULL, NULL, ?3)"

-- ---- data sets

-- the data set of an item, or nothing where it is let go
abbrev pub set_body : List ℕ
set_body = codes "UPDATE item SET body = ?2 WHERE uid = ?1"

-- whether the data set of an item is there
abbrev pub set_whole : List ℕ
set_whole = codes "UPDATE print SET whole = ?2 WHERE uid = ?1"

-- ---- an adoption

-- arrivals leave
abbrev pub drop_arrivals : List ℕ
drop_arrivals = codes "DELETE FROM arrival"

-- rows that are over leave: those that are done or dropped
abbrev pub drop_over : List ℕ
drop_over = codes "DELETE FROM queue WHERE state >= 2"

-- the line of an adoption
abbrev pub insert_adopted : List ℕ
insert_adopted = codes
    "INSERT INTO journal (n, kind, caller, uid, dest, outcome, moment) VALUES (?1, 4, NULL, NULL, NULL, NULL, ?2)"

-- whose ledger it is
abbrev pub insert_site : List ℕ
insert_site = codes "INSERT INTO site (id, node, plan) VALUES (1, ?1, ?2)"

-- what stands for the plan in force is another
abbrev pub set_plan : List ℕ
set_plan = codes "UPDATE site SET plan = ?1 WHERE id = 1"

-- ---- a sealing

-- where first arrivals go on to leaves, before the lines to which it refers
abbrev pub drop_targets : List ℕ
drop_targets = codes "DELETE FROM target"

-- lines leave
abbrev pub drop_lines : List ℕ
drop_lines = codes "DELETE FROM journal"

-- ---- looking one up

-- all of site, which has one row
abbrev pub the_site : List ℕ
the_site = codes "SELECT id, node, plan FROM site"

-- what rules read of an instance
abbrev pub find_key : List ℕ
find_key = codes "SELECT class, syntax, modality, station FROM item WHERE uid = ?1"

-- the same, with its data set
abbrev pub find_item : List ℕ
find_item = codes "SELECT class, syntax, modality, station, body FROM item WHERE uid = ?1"

abbrev pub find_print : List ℕ
find_print = codes "SELECT length, sha256, whole FROM print WHERE uid = ?1"

abbrev pub find_arrival : List ℕ
find_arrival = codes "SELECT uid FROM arrival WHERE caller = ?1 AND uid = ?2"

abbrev pub find_kept : List ℕ
find_kept = codes "SELECT uid FROM kept WHERE uid = ?1"

abbrev pub find_row : List ℕ
find_row = codes "SELECT state, tries, due, cause FROM queue WHERE uid = ?1 AND dest = ?2"

-- the open rows of an instance, which wait or are held, but for one destination
abbrev pub find_open : List ℕ
find_open = codes "SELECT dest FROM queue WHERE uid = ?1 AND dest <> ?2 AND state < 2"

-- the open rows of an instance
abbrev pub find_any_open : List ℕ
find_any_open = codes "SELECT dest FROM queue WHERE uid = ?1 AND state < 2"

-- the first row of a destination that waits and is due
abbrev pub find_next : List ℕ
find_next = codes
    "SELECT uid FROM queue WHERE dest = ?1 AND state = 0 AND due <= ?2 ORDER BY due, uid LIMIT 1"

-- ---- listing all

abbrev pub all_items : List ℕ
all_items = codes "SELECT uid, class, syntax, modality, station FROM item ORDER BY uid"

abbrev pub all_prints : List ℕ
all_prints = codes "SELECT uid, length, sha256, whole FROM print ORDER BY uid"

abbrev pub all_arrivals : List ℕ
all_arrivals = codes "SELECT caller, uid FROM arrival ORDER BY caller, uid"

abbrev pub all_kept : List ℕ
all_kept = codes "SELECT uid FROM kept ORDER BY uid"

abbrev pub all_rows : List ℕ
all_rows = codes "SELECT uid, dest, state, tries, due, cause FROM queue ORDER BY uid, dest"

abbrev pub all_lines : List ℕ
all_lines = codes
    "SELECT n, kind, caller, uid, dest, outcome, moment, class, syntax, modality, station, length, sha256 FROM journal ORDER BY n"

abbrev pub all_targets : List ℕ
all_targets = codes "SELECT n, dest FROM target ORDER BY n, dest"

abbrev pub item_rowids : List ℕ
item_rowids = codes "SELECT rowid FROM item ORDER BY rowid"

abbrev pub print_rowids : List ℕ
print_rowids = codes "SELECT rowid FROM print ORDER BY rowid"

abbrev pub arrival_rowids : List ℕ
arrival_rowids = codes "SELECT rowid FROM arrival ORDER BY rowid"

abbrev pub journal_rowids : List ℕ
journal_rowids = codes "SELECT rowid FROM journal ORDER BY rowid"

-- the numbers in queue by which rows are found
abbrev pub queue_counts : List ℕ
queue_counts = codes "SELECT state, due FROM queue"

abbrev pub queue_rowids : List ℕ
queue_rowids = codes "SELECT rowid FROM queue ORDER BY rowid"
