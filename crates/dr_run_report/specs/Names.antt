-- The names that a ledger takes in the folder of its database.
use Rattle.std.specs.Prelude.{◌≡◌, ◌++◌, ◌⊎◌, [], codes}
use Rattle.dr_base.specs.Texts.{Text}

-- What a file that is opened as a database has behind its name: nothing, or what SQLite puts behind
-- it for the log, its index and a rollback.
abbrev pub IsSide : Text → Type 0
IsSide side =
    (side ≡ [])
    ⊎ ((side ≡ codes "-wal")
    ⊎ ((side ≡ codes "-shm")
    ⊎ (side ≡ codes "-journal")))

-- What the file of the data sets has behind the database's name: it is opened as a database, too.
abbrev pub IsDataTail : Text → Type 0
IsDataTail tail = (side : Text) × IsSide side × (tail ≡ codes ".data" ++ side)

-- What a file of the ledger has behind the database's name: nothing, or what SQLite puts behind it,
-- or what the data sets and the parts of a journal have.
abbrev pub IsTail : Text → Type 0
IsTail tail =
    IsSide tail
    ⊎ (IsDataTail tail
    ⊎ ((rest : Text) × (tail ≡ codes ".journal." ++ rest)))

-- the name of the database, or of a file that belongs to it
abbrev pub IsOwnName : Text → Text → Type 0
IsOwnName database name = (tail : Text) × IsTail tail × (name ≡ database ++ tail)

-- the name ends so
abbrev pub EndsWith : Text → Text → Type 0
EndsWith name end = (front : Text) × (name ≡ front ++ end)

-- the name would be taken for the log, the index of the log, the journal of a rollback or the data
-- sets of the database that has the name before that
abbrev pub IsBesideDatabase : Text → Type 0
IsBesideDatabase name =
    EndsWith name (codes "-wal")
    ⊎ (EndsWith name (codes "-shm")
    ⊎ (EndsWith name (codes "-journal") ⊎ EndsWith name (codes ".data")))

-- such a name, also with `.new` behind it, as a file has it that is to take the other's place
abbrev pub IsLedgerName : Text → Text → Type 0
IsLedgerName database name =
    IsOwnName database name
    ⊎ ((front : Text) × IsOwnName database front × (name ≡ front ++ codes ".new"))
