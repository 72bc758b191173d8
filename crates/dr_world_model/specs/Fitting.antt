-- What ledgers tell of a next plan is what the world asks for at an adoption.
use Rattle.std.specs.Prelude.{◌≡◌, ◌≢◌, ◌⊎◌, ℕ, true, Option, None, Some}
use Rattle.std.specs.declared.cmp.Ordering.{Ordering}
use Rattle.std.specs.declared.cmp.Ordering.TheVariants.{Less, Greater}
use Rattle.std.specs.Ordering.{ordering_then}
use Rattle.std.specs.FinMap as map
use Rattle.std.specs.FinSet as set
use Rattle.dr_base.specs.Texts.{Text, text_cmp}
use Rattle.dr_route.specs.Routes.{local}
use Rattle.dr_plan_model.specs.Networks.{Network}
use Rattle.dr_plan_model.specs.Walks.{Goes}
use Rattle.dr_ledger.specs.declared.item.Instance.{Instance}
use Rattle.dr_ledger.specs.declared.item.Progress.{Progress}
use Rattle.dr_ledger.specs.Adopting.{IsFit, IsUnfit, Unfits}
use Rattle.dr_ledger.specs.Books.{empty_book, is_queued}
use Rattle.dr_ledger.specs.Pairs.{Pair, pair_cmp}
use Rattle.dr_world_model.specs.Worlds.{World, Link}
use Rattle.dr_world_model.specs.Steps.{IsLink}
use Rattle.dr_world_model.specs.Events.{HasNode}
use Rattle.dr_world_model.specs.Runs.{MayAdopt}

-- each row that is still queued is of a hop of the next plan
abbrev pub RowsAreOfHops : World → Network → Type 0
RowsAreOfHops w next =
    (name uid to : Text) (row : Progress) (item : Instance)
    → map.get (w.books name).rows (uid, to) ≡ Some row
    → is_queued row ≡ true
    → map.get (w.books name).items uid ≡ Some item
    → Goes next item.key name to

-- Where no ledger finds an unfit row, each row is of a hop of the next plan.
abbrev pub FitBooksMayTurn : Type 0
FitBooksMayTurn =
    (next : Network) (w : World)
    → w.books local ≡ empty_book
    → ((name : Text) → IsFit next name (w.books name))
    → RowsAreOfHops w next

-- a row of some node, by the node's name, then by the uid and the destination
abbrev pub Spot : Type 0
Spot = Text × Pair

-- the order of spots: by the node's name, then by the uid and the destination
abbrev pub spot_cmp : Spot → Spot → Ordering
spot_cmp a b = ordering_then (text_cmp a.0 b.0) (pair_cmp a.1 b.1)

-- the first row of all nodes that the next plan doesn't go on with, or none
abbrev pub FindsUnfit : Network → World → Option Spot → Type 0
FindsUnfit next w None = (name : Text) → IsFit next name (w.books name)
FindsUnfit next w (Some at) =
    IsUnfit next at.0 (w.books at.0) at.1
    × ((other : Spot)
    → IsUnfit next other.0 (w.books other.0) other.1
    → spot_cmp at other ≢ Greater)

-- two answers to which row of all nodes is the first that the next plan doesn't go on with are the
-- same
abbrev pub FirstUnfitIsOne : Type 0
FirstUnfitIsOne =
    (next : Network) (w : World) (one other : Option Spot)
    → FindsUnfit next w one → FindsUnfit next w other → one ≡ other

-- What the ledgers find, asked in the order of their nodes' names, is the first unfit row of all
-- nodes.
abbrev pub LedgersFindTheFirst : Type 0
LedgersFindTheFirst =
    (next : Network) (w : World) (name : Text) (at : Pair)
    → Unfits next name (w.books name) (Some at)
    → ((other : Text) → text_cmp other name ≡ Less → Unfits next other (w.books other) None)
    → FindsUnfit next w (Some (name, at))

-- Where a node has an unfit row, the next plan may not be adopted.
abbrev pub UnfitRowsForbid : Type 0
UnfitRowsForbid =
    (plan : Network) (w : World) (next : Network) (name : Text) (at : Pair)
    → IsUnfit next name (w.books name) at
    → MayAdopt plan w next → ⊥

-- Where a link is connected at an end, no next plan may be adopted.
abbrev pub OpenLinksForbid : Type 0
OpenLinksForbid =
    (plan : Network) (w : World) (next : Network) (number : ℕ) (link : Link)
    → IsLink w number link
    → (link.caller_connected ≡ true) ⊎ (link.receiver_connected ≡ true)
    → MayAdopt plan w next → ⊥

-- Where a node is armed, so that its store is to refuse the next line, no next plan may be adopted.
abbrev pub ArmedNodesForbid : Type 0
ArmedNodesForbid =
    (plan : Network) (w : World) (next : Network) (name : Text)
    → HasNode plan name
    → set.contains w.armed name ≡ true
    → MayAdopt plan w next → ⊥
