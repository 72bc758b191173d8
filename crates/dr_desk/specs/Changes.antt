-- A desk that threads share takes another plan, which ends the sharing; or it is shared as before.
use Rattle.std.specs.Prelude.{ℕ, List, map as mapped}
use Rattle.dr_cert.specs.Sealing.{Certified}
use Rattle.dr_plan_model.specs.Networks.{Network}
use Rattle.dr_plan_model.specs.Plans.{NamesNoNode}
use Rattle.dr_ledger.specs.declared.item.Entry.{Entry}
use Rattle.dr_ledger.specs.Adopting.{IsFit}
use Rattle.dr_ledger.specs.Bodies.{Bodies}
use Rattle.dr_ledger.specs.Books.{Book, Line}
use Rattle.dr_ledger.specs.Replies.{entry_of}
use Rattle.dr_site.specs.Parts.{Part}
use Rattle.dr_desk.specs.declared.changing.ChangeFault.{ChangeFault}
use Rattle.dr_desk.specs.declared.changing.ChangeFault.TheVariants.{Plan, Receipt}
use Rattle.dr_desk.specs.declared.adopting.AdoptFault.TheVariants.{Memory}
use Rattle.dr_desk.specs.declared.closing.CloseFault.{CloseFault}
use Rattle.dr_desk.specs.declared.closing.CloseFault.TheVariants as close
use Rattle.dr_desk.specs.Adoptions.{HasTaken, IsAsItWas, RefusesPlan}
use Rattle.dr_desk.specs.Agreeing.{Fails}
use Rattle.dr_desk.specs.Answering.{IsShared}
use Rattle.dr_desk.specs.Growing.{BeginWith}

-- what a comparison that failed is to who has the desk take a plan: a disagreement, or want of
-- memory
abbrev pub disagreed_by : CloseFault → ChangeFault
disagreed_by (close.Receipt why) = Receipt why
disagreed_by close.Store = Plan Memory
disagreed_by close.Memory = Plan Memory

module _ {L : Type 0} (site_of : L → Part) (book : L → Book) (bodies : L → Bodies)
    (stands : L → Type 0) (failed : L → ℕ) (own : Part) (first : List Line) where
  -- The sharing has ended: the ledger, as it was last while it was shared, took the next plan. What
  -- the receipts say of its journal then stays true.
  abbrev pub EndsByPlan : Certified → Part → L → Type 0
  EndsByPlan next site new =
      (old : L)
      × IsShared site_of book stands failed own first old
      × HasTaken site_of book bodies stands failed next site old new

  -- Why the ledger doesn't take the plan: as one that isn't shared; or the plan has its node and
  -- goes on with all its rows, but this of the receipts or of the journal's beginning doesn't
  -- agree.
  abbrev pub RefusesChange : (List Entry → Type 0) → Type 0 → Type 0
      → Network → ChangeFault → L → L → Type 0
  RefusesChange Of Rise Apart next (Plan why) old new =
      RefusesPlan site_of book bodies stands failed next why old new
  RefusesChange Of Rise Apart next (Receipt why) old new =
      (NamesNoNode next (site_of old).name → ⊥)
      × (stands new
      → IsFit next (site_of old).name (book old)
      × Fails (close.Receipt why) (BeginWith first (book old).lines)
      (Of (mapped entry_of (book old).lines)) Rise Apart)

  -- it is refused, and the ledger is as it was
  abbrev pub StaysBy : (List Entry → Type 0) → Type 0 → Type 0
      → Network → ChangeFault → L → L → Type 0
  StaysBy Of Rise Apart next why old new =
      RefusesChange Of Rise Apart next why old new
      × IsAsItWas site_of book bodies stands failed old new

  -- the same, at some moment while the desk was shared
  abbrev pub StaysShared : (List Entry → Type 0) → Type 0 → Type 0
      → Network → ChangeFault → Type 0
  StaysShared Of Rise Apart next why =
      (old new : L)
      × IsShared site_of book stands failed own first old
      × StaysBy Of Rise Apart next why old new
