-- Visits of entries, whatever a visitor does there.
use Rattle.std.specs.Prelude.{◌≡◌, Option, Some, None}
use Rattle.dr_base.specs.Texts.{Text}
use Rattle.dr_route.specs.declared.cell.OwnedCell.{OwnedCell}
use Rattle.dr_route.specs.declared.key.Key.{Key}
use Rattle.dr_plan_model.specs.Networks.{Network}
use Rattle.dr_plan_model.specs.Plans.{LiesIn}
use Rattle.dr_plan_model.specs.Walks.{IsEntry}
use Rattle.dr_plan_entries.specs.InOrder.{ComesBefore}

-- A visitor that goes on has the same plan, can go on, has forgotten no visit, and has visited what
-- was wanted; what it will show would have been shown before.
pub record VisitorGoesOn {V F : Type 0} (plan : V → Network) (ready : V → Type 0)
    (visited : V → Text → OwnedCell → Type 0) (shows : V → F → Text → OwnedCell → Type 0)
    (Wanted : Text → OwnedCell → Type 0) (old new : V) : Type 0 where
  pub same_plan : plan new ≡ plan old
  pub is_ready : ready new
  pub shown : (finding : F) (site : Text) (cell : OwnedCell)
      → shows new finding site cell
      → shows old finding site cell
  pub kept : (site : Text) (cell : OwnedCell) → visited old site cell → visited new site cell
  pub wanted : (site : Text) (cell : OwnedCell) → Wanted site cell → visited new site cell

-- Something is found at an entry that was wanted; the visitor that came there had gone on until
-- then, and had visited each wanted entry that comes before this one.
pub record FindsAt {V F : Type 0} (plan : V → Network) (ready : V → Type 0)
    (visited : V → Text → OwnedCell → Type 0) (shows : V → F → Text → OwnedCell → Type 0)
    (Wanted : Text → OwnedCell → Type 0) (old : V) (finding : F) : Type 0 where
  pub site : Text
  pub cell : OwnedCell
  pub wanted : Wanted site cell
  pub there : V
  pub earlier : VisitorGoesOn plan ready visited shows
      (λ s c. Wanted s c × ComesBefore s c site cell) old there
  pub shown : shows there finding site cell

-- after visits: all entries that were wanted have been visited, or something is found at the first
-- of them at which anything is
abbrev pub AfterVisits : {V F : Type 0} → (V → Network) → (V → Type 0)
    → (V → Text → OwnedCell → Type 0)
    → (V → F → Text → OwnedCell → Type 0)
    → (Text → OwnedCell → Type 0)
    → V → V → Option F → Type 0
AfterVisits plan ready visited shows Wanted old new None =
    VisitorGoesOn plan ready visited shows Wanted old new
AfterVisits plan ready visited shows Wanted old new (Some finding) =
    FindsAt plan ready visited shows Wanted old finding

-- the entry is just this one, a site and a cell
abbrev pub IsThis : Text → OwnedCell → Text → OwnedCell → Type 0
IsThis site cell s c = (s ≡ site) × (c ≡ cell)

-- after the visit of one entry: it has been visited, or something is found there
abbrev pub AfterVisit : {V F : Type 0} → (V → Network) → (V → Type 0)
    → (V → Text → OwnedCell → Type 0)
    → (V → F → Text → OwnedCell → Type 0)
    → Text → OwnedCell → V → V → Option F → Type 0
AfterVisit plan ready visited shows site cell old new None =
    VisitorGoesOn plan ready visited shows (IsThis site cell) old new
AfterVisit plan ready visited shows site cell old new (Some finding) = shows old finding site cell

-- an entry of a plan by its cell: some key of the cell enters at the site
abbrev pub IsEntryCell : Network → Text → OwnedCell → Type 0
IsEntryCell plan site cell = (key : Key) × LiesIn plan cell key × IsEntry plan site key
