-- The laws of a node's calls.
use Rattle.std.specs.Prelude.{◌≡◌, ◌≢◌, ℕ, Bool, false, List, [], Option, Some, None, Result, Ok}
use Rattle.std.specs.Prelude.{Err}
use Rattle.std.specs.FinMap as map
use Rattle.dr_base.specs.Texts.{Text}
use Rattle.dr_ledger.specs.Bodies.{Bodies}
use Rattle.dr_ledger.specs.Books.{Book}
use Rattle.dr_ledger.specs.SiteRoutes.{site_routing}
use Rattle.dr_site.specs.Parts.{Part}
use Rattle.dr_session.specs.declared.desk.LedgerDesk.{LedgerDesk}
use Rattle.dr_session.specs.declared.ends.LinkAction.{LinkAction}
use Rattle.dr_session.specs.Desks.{DeskCall, DeskAnswer}
use Rattle.dr_session.specs.Ends.{IsEndOver}
use Rattle.dr_session.specs.Ledgers.{Desk, RoutedStep, desk}
use Rattle.dr_node.specs.declared.event.LinkEvent.{LinkEvent}
use Rattle.dr_node.specs.declared.fault.NodeFault.{NodeFault}
use Rattle.dr_node.specs.declared.fault.NodeFault.TheVariants.{LinkKnown, LinkUnknown}
use Rattle.dr_node.specs.declared.links.LinkSide.{LinkSide}
use Rattle.dr_node.specs.Desks.{LedgerStep}
use Rattle.dr_node.specs.Sides.{Sides, AcceptsLink, Does, MeetsEvent, Opens, Pushes, accepts_at}
use Rattle.dr_node.specs.Sides.{is_taken, others}

-- all other links are as they were
abbrev pub OnlyAt : ℕ → Sides → Sides → Type 0
OnlyAt link old new = (other : ℕ) → other ≢ link → map.get new other ≡ map.get old other

-- What happens at a link changes that link alone.
abbrev pub ChangesOneLink : {S : Type 0} → (S → DeskCall → DeskAnswer → S → Type 0) → Type 0
ChangesOneLink {S} step =
    (what : LinkEvent) (now link : ℕ) (old new : Sides) (s t : S)
    (result : Result (List LinkAction) NodeFault)
    → Does (MeetsEvent step what) now link old s result new t
    → OnlyAt link old new

abbrev pub PushesChangeOneLink : {S : Type 0} → (S → DeskCall → DeskAnswer → S → Type 0) → Type 0
PushesChangeOneLink {S} step =
    (now link : ℕ) (old new : Sides) (s t : S) (result : Result (List LinkAction) NodeFault)
    → Does (Pushes step) now link old s result new t
    → OnlyAt link old new

-- A link can be accepted exactly where its number is free. Then it is there, and all others are as
-- they were.
abbrev pub IsAcceptedWhereFree : Type 0
IsAcceptedWhereFree =
    (site : Part) (link now : ℕ) (old : Sides)
    → map.get old link ≡ None
    → (new : Sides)
    × AcceptsLink site link now old (Ok tt) new
    × (map.get new link ≡ Some (accepts_at site now))
    × OnlyAt link old new

abbrev pub KnownIsRefused : Type 0
KnownIsRefused =
    (site : Part) (link now : ℕ) (old new : Sides) (side : LinkSide)
    (result : Result (Unit {0}) NodeFault)
    → map.get old link ≡ Some side
    → AcceptsLink site link now old result new
    → (result ≡ Err LinkKnown) × (new ≡ old)

-- a link that is unknown can be met, and its answer is one
abbrev pub UnknownIsRefused : {S : Type 0} → (S → DeskCall → DeskAnswer → S → Type 0) → Type 0
UnknownIsRefused {S} step =
    (what : LinkEvent) (now link : ℕ) (old : Sides) (s : S)
    → map.get old link ≡ None
    → Does (MeetsEvent step what) now link old s (Err LinkUnknown) old s

-- An end that is over answers an empty list, whatever is asked of it, calls nothing, and stays.
abbrev pub OverDoesNothing : {S : Type 0} → (S → DeskCall → DeskAnswer → S → Type 0) → Type 0
OverDoesNothing {S} step =
    (what : LinkEvent) (now link : ℕ) (old new : Sides) (s t : S) (side : LinkSide)
    (result : Result (List LinkAction) NodeFault)
    → map.get old link ≡ Some side
    → IsEndOver side.end.core
    → Does (MeetsEvent step what) now link old s result new t
    → (result ≡ Ok []) × (t ≡ s) × (map.get new link ≡ Some side)

-- What becomes of a link's own side makes no difference to how many others there are.
abbrev pub CountsOthersAlone : Type 0
CountsOthersAlone =
    (link : ℕ) (old : Sides) (side : LinkSide)
    → others link (map.insert old link side) ≡ others link old

-- A connection that was opened to the node counts only once its association is accepted.
abbrev pub NewLinksAreNotCounted : Type 0
NewLinksAreNotCounted = (site : Part) (now : ℕ) → is_taken (accepts_at site now) ≡ false

-- ---- ledgers

-- a ledger's book, and whether its store is to refuse the next line
abbrev pub desk_of : {L : Type 0} → (L → Book) → (L → Bool) → LedgerDesk L → Desk
desk_of book armed d = desk (book d.ledger) (armed d.ledger)

-- A ledger stays of its site, and its premise goes back from the end of a call to its start.
abbrev pub StaysOfItsSite : {L : Type 0} → (L → Part) → (L → Book) → (L → Bodies) → (L → Bool)
    → (L → Type 0) → (L → Type 0) → (L → ℕ) → Type 0
StaysOfItsSite {L} site book bodies armed trusts stands failed =
    (what : LinkEvent) (now link : ℕ) (old new : Sides) (s t : LedgerDesk L)
    (result : Result (List LinkAction) NodeFault)
    → Does (MeetsEvent (LedgerStep site book bodies armed trusts stands failed) what) now link old s
    result new t
    → (site t.ledger ≡ site s.ledger) × (stands t.ledger → stands s.ledger)

-- Where its premise stands at the end, what is done at a ledger is done at its book, by the routes
-- of its site.
abbrev pub IsDoneAtBooks : {L : Type 0} → (L → Part) → (L → Book) → (L → Bodies) → (L → Bool)
    → (L → Type 0) → (L → Type 0) → (L → ℕ) → Type 0
IsDoneAtBooks {L} site book bodies armed trusts stands failed =
    (what : LinkEvent) (now link : ℕ) (old new : Sides) (s t : LedgerDesk L)
    (result : Result (List LinkAction) NodeFault)
    → Does (MeetsEvent (LedgerStep site book bodies armed trusts stands failed) what) now link old s
    result new t
    → stands t.ledger
    → Does (MeetsEvent (RoutedStep (site_routing (site s.ledger))) what) now link old
    (desk_of book armed s) result new (desk_of book armed t)

abbrev pub PushIsDoneAtBooks : {L : Type 0} → (L → Part) → (L → Book) → (L → Bodies) → (L → Bool)
    → (L → Type 0) → (L → Type 0) → (L → ℕ) → Type 0
PushIsDoneAtBooks {L} site book bodies armed trusts stands failed =
    (now link : ℕ) (old new : Sides) (s t : LedgerDesk L)
    (result : Result (List LinkAction) NodeFault)
    → Does (Pushes (LedgerStep site book bodies armed trusts stands failed)) now link old s result
    new t
    → stands t.ledger
    → Does (Pushes (RoutedStep (site_routing (site s.ledger)))) now link old (desk_of book armed s)
    result new (desk_of book armed t)
