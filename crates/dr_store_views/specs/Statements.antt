-- The texts of the queries of counts, of moments, and of pages.
use Rattle.std.specs.Prelude.{List, ℕ, codes}

abbrev pub count_arrivals : List ℕ
count_arrivals = codes "SELECT COUNT(*) FROM arrival"

-- how many rows of a destination are in a state
abbrev pub count_rows : List ℕ
count_rows = codes "SELECT COUNT(*) FROM queue WHERE dest = ?1 AND state = ?2"

-- the least moment at which a row of a destination is due
abbrev pub first_moment : List ℕ
first_moment = codes "SELECT due FROM queue WHERE dest = ?1 AND state = 0 ORDER BY due LIMIT 1"

-- the rows of an instance
abbrev pub rows_of : List ℕ
rows_of = codes
    "SELECT uid, dest, state, tries, due, cause FROM queue WHERE uid = ?1 ORDER BY dest"

-- the number under which an instance stands, which is that of the line by which it came, and its
-- class
abbrev pub line_of : List ℕ
line_of = codes "SELECT rowid, class FROM item WHERE uid = ?1"

-- the moment of that line, if it is of a first arrival of the instance
abbrev pub moment_of : List ℕ
moment_of = codes "SELECT moment FROM journal WHERE n = ?1 AND kind = 0 AND uid = ?2"

-- who brought an instance
abbrev pub callers_of : List ℕ
callers_of = codes "SELECT caller FROM arrival WHERE uid = ?1 ORDER BY caller"

-- a page of the rows of a destination in states from ?2 to ?3, behind a uid
abbrev pub page : List ℕ
page = codes
    "SELECT uid, dest, state, tries, due, cause FROM queue WHERE dest = ?1 AND state >= ?2 AND state <= ?3 AND uid > ?4 ORDER BY uid LIMIT ?5"

-- the lines of the journal behind one number and up to the other
abbrev pub lines_behind : List ℕ
lines_behind = codes
    "SELECT n, kind, caller, uid, dest, outcome, moment, class, syntax, modality, station, length, sha256 FROM journal WHERE n > ?1 AND n <= ?2 ORDER BY n"

-- where the first arrivals among them go on to
abbrev pub targets_behind : List ℕ
targets_behind = codes
    "SELECT n, dest FROM target WHERE n > ?1 AND n <= ?2 ORDER BY n, dest"
