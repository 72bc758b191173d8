-- What the calls make of the parts, by what is found at each uid.
use Rattle.std.specs.Prelude.{◌≡◌, ℕ, Bool, ◌||◌, ◌&&◌, not, cond, List, [], ◌∷◌, ◌++◌, Option}
use Rattle.std.specs.Prelude.{None, Some}
use Rattle.std.specs.Ordering.{eq_by_cmp}
use Rattle.std.specs.BTreeMap.{is_at}
use Rattle.std.specs.BTreeMap as tree
use Rattle.std.specs.BTreeSet as sorted
use Rattle.dr_base.specs.Texts.{Text, text_cmp}
use Rattle.dr_ledger.specs.declared.item.Progress.{Progress}
use Rattle.dr_ledger.specs.declared.item.Progress.TheVariants.{Dropped}
use Rattle.dr_ledger.specs.Pairs.{Pair, pair_cmp}
use Rattle.dr_ledger_history.specs.declared.line.JournalLine.{JournalLine}
use Rattle.dr_ledger_history.specs.declared.line.JournalLine.TheVariants as note
use Rattle.dr_ledger_memory.specs.declared.held.Held.{Held as Entry}
use Rattle.dr_ledger_memory.specs.declared.parts.Bringing.{Bringing}
use Rattle.dr_ledger_memory.specs.declared.parts.Parts.{Parts}
use Rattle.dr_ledger_memory.specs.declared.parts.FurtherArrival.{FurtherArrival}
use Rattle.dr_ledger_memory.specs.Entries.{IsMovedOn, IsPruned, IsTakenAgain, OwnRow}

-- what stands at each uid
abbrev pub Tree : Type 0
Tree = tree.BTreeMap Text Entry

abbrev pub at : Tree → Text → Option Entry
at held uid = tree.get text_cmp held uid

-- at one uid there is this entry, and elsewhere what was there
abbrev pub IsPutAt : Tree → Text → Entry → Tree → Type 0
IsPutAt old uid entry new =
    (other : Text) → at new other ≡ cond (eq_by_cmp text_cmp other uid) (Some entry) (at old other)

-- the same of what is there or isn't, as trees put it
abbrev pub IsSetAt : Tree → Text → Option Entry → Tree → Type 0
IsSetAt old uid found new =
    (other : Text) → at new other ≡ cond (is_at (text_cmp uid) other) found (at old other)

-- another arrival of the uid
abbrev pub TakesAt : Tree → Text → List OwnRow → Bool → List ℕ → Tree → Type 0
TakesAt old uid rows keep body new =
    (before : Entry) × (after : Entry)
    × (at old uid ≡ Some before)
    × IsTakenAgain (Some before) before.instance rows keep body after
    × IsPutAt old uid after new

-- a row of it moves on
abbrev pub MovesAt : Tree → Text → Text → Progress → Tree → Type 0
MovesAt old uid dest progress new =
    (before : Entry) × (after : Entry)
    × (at old uid ≡ Some before)
    × IsMovedOn before dest progress after
    × IsPutAt old uid after new

-- rows that are done or dropped leave
abbrev pub IsPrunedIn : Option Entry → Option Entry → Type 0
IsPrunedIn None new = new ≡ None
IsPrunedIn (Some before) new = (after : Entry) × (new ≡ Some after) × IsPruned before after

abbrev pub PrunesAll : Tree → Tree → Type 0
PrunesAll old new = (uid : Text) → IsPrunedIn (at old uid) (at new uid)

-- the same arrivals
abbrev pub AreAlike : sorted.BTreeSet Pair → sorted.BTreeSet Pair → Type 0
AreAlike old new =
    (key : Pair) → sorted.contains pair_cmp new key ≡ sorted.contains pair_cmp old key

-- one more of them
abbrev pub IsOneMore : sorted.BTreeSet Pair → Pair → sorted.BTreeSet Pair → Type 0
IsOneMore old arrival new =
    (key : Pair)
    → sorted.contains pair_cmp new key
    ≡ (eq_by_cmp pair_cmp key arrival || sorted.contains pair_cmp old key)

-- what an arrival brings, but for who brought it
pub record IsRest (new : Bringing) (rest : FurtherArrival) : Type 0 where
  pub uid : rest.uid ≡ new.uid
  pub rows : rest.rows.items ≡ new.rows.items
  pub keep : rest.keep ≡ new.keep
  pub body : rest.body ≡ new.body
  pub note : rest.note ≡ new.note

-- the same book and data sets
pub record AreSameParts (p q : Parts) : Type 0 where
  pub held : q.held.entries ≡ p.held.entries
  pub arrivals : AreAlike p.arrivals q.arrivals
  pub notes : q.notes.items ≡ p.notes.items

-- a line more, and nothing else
pub record IsNoted (p : Parts) (note : JournalLine) (q : Parts) : Type 0 where
  pub held : q.held.entries ≡ p.held.entries
  pub arrivals : AreAlike p.arrivals q.arrivals
  pub notes : q.notes.items ≡ p.notes.items ++ note ∷ []

-- all that a first arrival puts in
pub record HasBrought (p : Parts) (new : Bringing) (q : Parts) : Type 0 where
  pub after : Entry
  pub taken : IsTakenAgain (at p.held new.uid) new.instance new.rows.items new.keep new.body after
  pub held : IsPutAt p.held new.uid after q.held
  pub arrivals : (key : Pair)
      → sorted.contains pair_cmp q.arrivals key
      ≡ (eq_by_cmp pair_cmp key new.arrival || sorted.contains pair_cmp p.arrivals key)
  pub notes : q.notes.items ≡ p.notes.items ++ new.note ∷ []

-- an arrival is noted, and what stands at each uid stays
pub record HasArrived (p : Parts) (arrival : Pair) (note : JournalLine) (q : Parts) : Type 0 where
  pub held : q.held ≡ p.held
  pub arrivals : IsOneMore p.arrivals arrival q.arrivals
  pub notes : q.notes.items ≡ p.notes.items ++ note ∷ []

-- what stood at the uid has left, and nothing else has changed
pub record IsTakenOut (p : Parts) (uid : Text) (q : Parts) : Type 0 where
  pub held : IsSetAt p.held uid None q.held
  pub arrivals : AreAlike p.arrivals q.arrivals
  pub notes : q.notes.items ≡ p.notes.items

-- one row moves on
pub record IsMoved (p : Parts) (uid dest : Text) (progress : Progress) (note : JournalLine)
    (q : Parts) : Type 0 where
  pub held : MovesAt p.held uid dest progress q.held
  pub arrivals : AreAlike p.arrivals q.arrivals
  pub notes : q.notes.items ≡ p.notes.items ++ note ∷ []

-- arrivals and the rows that are done or dropped leave
pub record IsAdoptedInParts (p q : Parts) : Type 0 where
  pub held : PrunesAll p.held q.held
  pub arrivals : q.arrivals.keys ≡ []
  pub notes : q.notes.items ≡ p.notes.items ++ note.Adoption ∷ []

-- one row is dropped, those who brought the uid have left, and there is a line more
pub record IsDroppedInParts (p : Parts) (uid dest : Text) (note : JournalLine)
    (q : Parts) : Type 0 where
  pub held : MovesAt p.held uid dest Dropped q.held
  pub arrivals : (key : Pair)
      → sorted.contains pair_cmp q.arrivals key
      ≡ (sorted.contains pair_cmp p.arrivals key && not (eq_by_cmp text_cmp key.1 uid))
  pub notes : q.notes.items ≡ p.notes.items ++ note ∷ []

-- what stood at the uid has left with those who brought it, and there is a line more
pub record IsForgottenInParts (p : Parts) (uid : Text) (note : JournalLine)
    (q : Parts) : Type 0 where
  pub held : IsSetAt p.held uid None q.held
  pub arrivals : (key : Pair)
      → sorted.contains pair_cmp q.arrivals key
      ≡ (sorted.contains pair_cmp p.arrivals key && not (eq_by_cmp text_cmp key.1 uid))
  pub notes : q.notes.items ≡ p.notes.items ++ note ∷ []
