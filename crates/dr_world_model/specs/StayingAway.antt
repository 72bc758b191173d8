-- What is left where a caller came to no link.
use Rattle.std.specs.Prelude.{◌≡◌, ℕ, Ok, Err}
use Rattle.std.specs.FinMap as map
use Rattle.dr_base.specs.Texts.{Text}
use Rattle.dr_plan_model.specs.Networks.{Network}
use Rattle.dr_ledger.specs.declared.fault.LedgerFault.{LedgerFault}
use Rattle.dr_ledger.specs.declared.item.Progress.{Progress}
use Rattle.dr_ledger.specs.declared.item.Progress.TheVariants.{Waiting}
use Rattle.dr_ledger.specs.Books.{tried}
use Rattle.dr_world_model.specs.Worlds.{World}
use Rattle.dr_world_model.specs.Calls.{Answer}
use Rattle.dr_world_model.specs.Events.{StayAway, Step}
use Rattle.dr_world_model.specs.Claims.{HasRow, IsQueued}

-- Where a caller stays away, the row was waiting and is to be tried again, later.
abbrev pub AwayTriesAgain : Type 0
AwayTriesAgain =
    (plan : Network) (w v : World) (node uid dest : Text)
    → Step plan w (StayAway node uid dest (Ok tt)) v
    → (tries : ℕ) × (due : ℕ)
    × HasRow w node uid dest (Waiting tries due)
    × HasRow v node uid dest (tried tries w.time)

-- Where that couldn't be written, or the row waits no more, no book changes.
abbrev pub RefusedAwayIsNothing : Type 0
RefusedAwayIsNothing =
    (plan : Network) (w v : World) (node uid dest : Text) (why : LedgerFault)
    → Step plan w (StayAway node uid dest (Err why)) v
    → (name : Text) → v.books name ≡ w.books name

-- All nodes have what they had, noted, kept and queued, each other row is as it was, and so is each
-- link.
pub record AllElseStays (w v : World) (node uid dest : Text) : Type 0 where
  pub items : (name : Text) → (v.books name).items ≡ (w.books name).items
  pub arrivals : (name : Text) → (v.books name).arrivals ≡ (w.books name).arrivals
  pub kept : (name : Text) → (v.books name).kept ≡ (w.books name).kept
  pub rows : (name other to : Text)
      → ((name ≡ node) × (other ≡ uid) × (to ≡ dest) → ⊥)
      → map.get (v.books name).rows (other, to) ≡ map.get (w.books name).rows (other, to)
  pub queued : (name other to : Text) (row : Progress)
      → HasRow w name other to row
      → IsQueued row
      → (again : Progress) × HasRow v name other to again × IsQueued again
  pub links : v.links ≡ w.links
  pub rest : (v.time ≡ w.time) × (v.stood ≡ w.stood) × (v.opened ≡ w.opened)

-- Where a caller stays away, whatever its ledger answers, nothing that is kept or queued is lost.
abbrev pub AwayLeavesAllElse : Type 0
AwayLeavesAllElse =
    (plan : Network) (w v : World) (node uid dest : Text) (answer : Answer)
    → Step plan w (StayAway node uid dest answer) v
    → AllElseStays w v node uid dest
