-- What a uid has, and how that changes.
use Rattle.std.specs.Prelude.{◌≡◌, ℕ, Bool, false, cond, ◌||◌, List, [], ◌∷◌, Option}
use Rattle.std.specs.Prelude.{None, Some, unwrap_or}
use Rattle.std.specs.List.{filter, list_any}
use Rattle.std.specs.FinMap.{find, put}
use Rattle.dr_base.specs.Texts.{Text, text_cmp}
use Rattle.dr_ledger.specs.declared.item.Instance.{Instance}
use Rattle.dr_ledger.specs.declared.item.Progress.{Progress}
use Rattle.dr_ledger.specs.declared.item.Progress.TheVariants.{Waiting}
use Rattle.dr_ledger.specs.Books.{is_queued}
use Rattle.dr_ledger_history.specs.Trees.{stands}
use Rattle.dr_ledger_memory.specs.declared.held.Held.{Held as Entry}

-- a destination, and how far the instance is on its way to it
abbrev pub OwnRow : Type 0
OwnRow = Text × Progress

-- it waits or is held
abbrev pub is_open : OwnRow → Bool
is_open row = is_queued row.1

-- whether the data set is needed: the uid is kept, or a row of it waits or is held
abbrev pub needs : Bool → List OwnRow → Bool
needs kept rows = kept || list_any is_open rows

-- the row to that destination
abbrev pub row_in : Option Entry → Text → Option Progress
row_in None dest = None
row_in (Some entry) dest = find text_cmp dest entry.rows.items

-- the instance of that uid
abbrev pub instance_in : Option Entry → Option Instance
instance_in None = None
instance_in (Some entry) = Some entry.instance

-- whether it is kept
abbrev pub is_kept_in : Option Entry → Bool
is_kept_in None = false
is_kept_in (Some entry) = entry.is_kept

-- its data set
abbrev pub body_in : Option Entry → Option (List ℕ)
body_in None = None
body_in (Some entry) = entry.body

-- its rows
abbrev pub rows_in : Option Entry → List OwnRow
rows_in None = []
rows_in (Some entry) = entry.rows.items

-- a waiting row, where the destination has none, or one that was dropped
abbrev pub filled_at : List OwnRow → Text → Option Progress → List OwnRow
filled_at rows to found = cond (stands found) rows (put text_cmp to (Waiting 0 0) rows)

-- a waiting row for each destination that has none, or one that was dropped
abbrev pub filled : List OwnRow → List Text → List OwnRow
filled rows [] = rows
filled rows (to ∷ more) = filled (filled_at rows to (find text_cmp to rows)) more

-- ---- changes of what a uid has
-- the data set after a change: none where it isn't needed any more
abbrev pub let_go : Bool → Option (List ℕ) → Option (List ℕ)
let_go needed body = cond needed body None

-- another arrival, or the first: these are the rows now, and the uid is kept if it was or is to be
pub record IsTakenAgain (old : Option Entry) (instance : Instance) (rows : List OwnRow)
    (keep : Bool) (body : List ℕ) (new : Entry) : Type 0 where
  pub instance_is : new.instance ≡ unwrap_or (instance_in old) instance
  pub kept : new.is_kept ≡ (is_kept_in old || keep)
  pub rows_are : new.rows.items ≡ rows
  pub body_is : new.body
      ≡ let_go (needs new.is_kept new.rows.items) (Some (unwrap_or (body_in old) body))

-- one row moves on
pub record IsMovedOn (old : Entry) (dest : Text) (progress : Progress) (new : Entry) : Type 0 where
  pub instance_is : new.instance ≡ old.instance
  pub kept : new.is_kept ≡ old.is_kept
  pub rows_are : new.rows.items ≡ put text_cmp dest progress old.rows.items
  pub body_is : new.body ≡ let_go (needs new.is_kept new.rows.items) old.body

-- rows that are done or dropped leave
pub record IsPruned (old new : Entry) : Type 0 where
  pub instance_is : new.instance ≡ old.instance
  pub kept : new.is_kept ≡ old.is_kept
  pub rows_are : new.rows.items ≡ filter is_open old.rows.items
  pub body_is : new.body ≡ old.body
