-- The waiting rows of all destinations, in the order in which they are due.
use Rattle.std.specs.Prelude.{◌≡◌, ℕ, Bool, Contains, true, false, cond, ◌==◌, ◌&&◌, nat_le, List}
use Rattle.std.specs.Prelude.{[], ◌∷◌, Option, None, Some}
use Rattle.std.specs.declared.cmp.Ordering.{Ordering}
use Rattle.std.specs.Ordering.{nat_cmp, ordering_then}
use Rattle.std.specs.Str.{bytes_eq}
use Rattle.std.specs.BTreeMap as tree
use Rattle.std.specs.BTreeSet as sorted
use Rattle.dr_base.specs.Texts.{Text, text_cmp}
use Rattle.dr_ledger.specs.declared.item.Progress.{Progress}
use Rattle.dr_ledger.specs.declared.item.Progress.TheVariants.{Waiting, Held, Done, Dropped}
use Rattle.dr_ledger_memory.specs.declared.held.Held.{Held as Entry}
use Rattle.dr_ledger_memory.specs.Entries.{OwnRow, row_in}

-- a destination, since when a row to it is due, and the row's uid
abbrev pub Due : Type 0
Due = Text × (ℕ × Text)

-- by the destination, the moment and the uid
abbrev pub due_cmp : Due → Due → Ordering
due_cmp a b =
    ordering_then (text_cmp a.0 b.0) (ordering_then (nat_cmp a.1.0 b.1.0) (text_cmp a.1.1 b.1.1))

-- the row waits, and since that moment
abbrev pub waits_since : Option Progress → ℕ → Bool
waits_since (Some (Waiting tries due)) moment = due == moment
waits_since (Some (Held why)) moment = false
waits_since (Some Done) moment = false
waits_since (Some Dropped) moment = false
waits_since None moment = false

-- whether the row of that key waits since that moment
abbrev pub is_waiting : tree.BTreeMap Text Entry → Due → Bool
is_waiting held key = waits_since (row_in (tree.get text_cmp held key.1.1) key.0) key.1.0

-- Each waiting row has its key. There may be other keys, which nobody misses.
abbrev pub Covers : sorted.BTreeSet Due → tree.BTreeMap Text Entry → Type 0
Covers waiting held =
    (uid dest : Text) (tries due : ℕ)
    → row_in (tree.get text_cmp held uid) dest ≡ Some (Waiting tries due)
    → sorted.contains due_cmp waiting (dest, (due, uid)) ≡ true

-- where the row of that uid to that destination waits, its key is there
abbrev pub IsExpected : Text → Text → Progress → sorted.BTreeSet Due → Type 0
IsExpected uid dest row keys =
    (tries due : ℕ) → row ≡ Waiting tries due
    → sorted.contains due_cmp keys (dest, (due, uid)) ≡ true

-- the same of all rows of a uid
abbrev pub AreExpected : Text → List OwnRow → sorted.BTreeSet Due → Type 0
AreExpected uid rows keys =
    (dest : Text) (tries due : ℕ)
    → Contains rows (dest, Waiting tries due)
    → sorted.contains due_cmp keys (dest, (due, uid)) ≡ true

-- no key has gone
abbrev pub Grows : sorted.BTreeSet Due → sorted.BTreeSet Due → Type 0
Grows old new =
    (key : Due) → sorted.contains due_cmp old key ≡ true → sorted.contains due_cmp new key ≡ true

-- the first key that is a waiting row's, of those that are for the destination and due
abbrev pub first_waiting : tree.BTreeMap Text Entry → Text → ℕ → List Due → Option Due
first_waiting held dest now [] = None
first_waiting held dest now (key ∷ keys) = cond (bytes_eq key.0 dest && nat_le key.1.0 now)
    (cond (is_waiting held key) (Some key) (first_waiting held dest now keys)) None
