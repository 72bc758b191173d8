-- What holds between the calls of the search.
use Rattle.std.specs.Prelude.{◌≡◌, ◌≢◌, ℕ, ◌+◌, ◌<◌, ◌≤◌, ◌⊎◌, ◌↔◌, List, [], ◌∷◌, ◌++◌, length}
use Rattle.std.specs.Prelude.{Contains, Some, None, slice_index_or, Option, AllPairs}
use Rattle.std.specs.BTreeMap.{BTreeMap, get, btree_map_len}
use Rattle.dr_base.specs.Texts.{Text, IsInByteOrder}
use Rattle.dr_route.specs.Routes.{local}
use Rattle.dr_route.specs.Laws.{key_of}
use Rattle.dr_route.specs.declared.key.Key.{Key}
use Rattle.dr_route.specs.declared.cell.OwnedCell.{OwnedCell}
use Rattle.dr_plan_model.specs.Networks.{Network}
use Rattle.dr_plan_model.specs.Laws.{IsCellOf}
use Rattle.dr_plan_model.specs.Walks.{Keeps, Accepts, IsWalk, last_place, IsEntry, IsReached}
use Rattle.dr_plan_sound.specs.declared.certificate.Stop.{Stop}
use Rattle.dr_plan_sound.specs.declared.certificate.Line.{Line}
use Rattle.dr_plan_sound.specs.Stops.{stop_cmp}
use Rattle.dr_plan_sound.specs.Ranked.{line_at, SendsOn, IsRanked}
use Rattle.dr_check.specs.declared.search.Search.{Search}
use Rattle.dr_check.specs.declared.search.Mark.{Mark}
use Rattle.dr_check.specs.declared.search.Mark.TheVariants.{Open, Finished}
use Rattle.dr_check.specs.declared.search.WalkEnd.{WalkEnd}
use Rattle.dr_check.specs.declared.search.WalkEnd.TheVariants as end
use Rattle.dr_check.specs.declared.search.SeenStop.{SeenStop}
use Rattle.dr_check.specs.declared.search.SeenStop.TheVariants as seen
use Rattle.dr_check.specs.declared.search.WalkFound.{WalkFound}
use Rattle.dr_check.specs.declared.search.WalkFound.TheVariants as found
use Rattle.dr_check.specs.declared.fault.Fault.TheVariants as fault
use Rattle.dr_check.specs.Firsts.{IsNamedFirst, NothingBefore, IsHarmless}
use Rattle.dr_check.specs.Shown.{IsShown, IsTooLarge}

-- what a search knows of the stops that it has entered: open, or finished with a rank
abbrev pub Marks : Type 0
Marks = BTreeMap Stop Mark

-- the mark of a stop; none where the search hasn't entered it
abbrev pub mark_at : Marks → Stop → Option Mark
mark_at marks stop = get stop_cmp marks stop

-- the stop of a cell at a node, to which the caller brings it
abbrev pub stop_at : Text → Text → OwnedCell → Stop
stop_at caller node cell = record { caller = caller; node = node; cell = cell }

-- the pairs of a list of nodes, each with the one before it, the first with the caller
abbrev pub pairs_from : Text → List Text → List (Text × Text)
pairs_from caller [] = []
pairs_from caller (node ∷ nodes) = (caller, node) ∷ pairs_from node nodes

-- the nodes are a walk for the key from an entry, whose last pair is this
pub record IsTrail (plan : Network) (key : Key) (nodes : List Text)
    (caller node : Text) : Type 0 where
  pub site : Text
  pub over : List Text
  pub walked : nodes ≡ site ∷ over
  pub entry : IsEntry plan site key
  pub walk : IsWalk plan key local site over
  pub last : last_place local site over ≡ (caller, node)

-- Between two calls: each stop that was finished has its line, which is right among the others, and
-- no other stop has one; each stop that was entered is reached; and what is still open stands on
-- the walk, and belongs to the cell that is searched.
pub record IsSearching (plan : Network) (cell : OwnedCell) (s : Search) : Type 0 where
  pub marked : (stop : Stop) (r : ℕ)
      → mark_at s.marks stop ≡ Some (Finished r)
      → Contains s.lines.items (record { stop = stop; rank = r })
  pub listed : (stop : Stop) (r : ℕ)
      → Contains s.lines.items (record { stop = stop; rank = r })
      → mark_at s.marks stop ≡ Some (Finished r)
  pub ranked : (stop : Stop) (r : ℕ)
      → Contains s.lines.items (record { stop = stop; rank = r })
      → IsRanked plan s.lines.items stop r
  pub counted : (stop : Stop) (r : ℕ)
      → Contains s.lines.items (record { stop = stop; rank = r })
      → r < length s.lines.items
  pub known : (stop : Stop) (m : Mark)
      → mark_at s.marks stop ≡ Some m
      → IsCellOf plan stop.cell × IsReached plan (key_of stop.cell) stop.caller stop.node
  pub on_path : (stop : Stop)
      → mark_at s.marks stop ≡ Some Open
      → (stop.cell ≡ cell) × Contains (pairs_from local s.path.items) (stop.caller, stop.node)
  pub room : length s.lines.items + length s.path.items ≤ btree_map_len s.marks
  pub within : btree_map_len s.marks ≤ 65536
  pub apart : AllPairs (λ a b. a ≢ b) s.lines.items

-- a later state of the search: what was marked stays marked, and what was listed stays listed
pub record IsLater (old new : Search) : Type 0 where
  pub marks : (stop : Stop) (m : Mark)
      → mark_at old.marks stop ≡ Some m
      → mark_at new.marks stop ≡ Some m
  pub lines : (line : Line) → Contains old.lines.items line → Contains new.lines.items line
  pub longer : btree_map_len old.marks ≤ btree_map_len new.marks

-- the node takes the cell from the caller: its accept rows do, and nobody asks where instances
-- enter
abbrev pub IsTaken : Network → OwnedCell → Text → Text → Type 0
IsTaken plan cell caller node = (caller ≡ local) ⊎ Accepts plan node caller cell.class cell.syntax

-- all walks from the stop have been searched, and it is finished with this rank
pub record IsSearchedThrough (plan : Network) (cell : OwnedCell) (caller node : Text) (r : ℕ)
    (old new : Search) : Type 0 where
  pub searching : IsSearching plan cell new
  pub later : IsLater old new
  pub path : new.path.items ≡ old.path.items
  pub rank : mark_at new.marks (stop_at caller node cell) ≡ Some (Finished r)
  pub taken : IsTaken plan cell caller node

-- what a search that ends shows of the walk that it stands on: a fault there, or a plan with too
-- many lines
abbrev pub IsEnd : Network → OwnedCell → List Text → WalkEnd → Type 0
IsEnd plan cell walk end.NoContext = IsShown plan (fault.NoContext walk cell)
IsEnd plan cell walk end.Cycle = IsShown plan (fault.Cycle walk cell)
IsEnd plan cell walk end.DeadEnd = IsShown plan (fault.DeadEnd walk cell)
IsEnd plan cell walk end.TooLarge = IsTooLarge plan

-- what is known where a search ends so: what is tested before
abbrev pub WasTested : Network → OwnedCell → Text → Text → Search → WalkEnd → Type 0
WasTested plan cell caller node s end.NoContext = Unit {0}
WasTested plan cell caller node s end.Cycle = IsTaken plan cell caller node
WasTested plan cell caller node s end.DeadEnd =
    IsTaken plan cell caller node × (mark_at s.marks (stop_at caller node cell) ≡ None)
WasTested plan cell caller node s end.TooLarge = Unit {0}

-- a search that ends names the first walk that shows a fault
abbrev pub IsFirstEnd : Network → OwnedCell → List Text → WalkEnd → Type 0
IsFirstEnd plan cell walk end.NoContext =
    IsEnd plan cell walk end.NoContext × IsNamedFirst plan (fault.NoContext walk cell)
IsFirstEnd plan cell walk end.Cycle =
    IsEnd plan cell walk end.Cycle × IsNamedFirst plan (fault.Cycle walk cell)
IsFirstEnd plan cell walk end.DeadEnd =
    IsEnd plan cell walk end.DeadEnd × IsNamedFirst plan (fault.DeadEnd walk cell)
IsFirstEnd plan cell walk end.TooLarge = IsEnd plan cell walk end.TooLarge

-- no walk that comes before this one, from its site, shows a fault
abbrev pub IsFirstYet : Network → OwnedCell → List Text → Type 0
IsFirstYet plan cell walk =
    (site : Text) (over : List Text)
    → walk ≡ site ∷ over
    → NothingBefore plan (key_of cell) site walk

-- the walk shows no fault at its end
abbrev pub EndsWell : Network → OwnedCell → List Text → Type 0
EndsWell plan cell walk =
    (site : Text) (over : List Text) → walk ≡ site ∷ over → IsHarmless plan (key_of cell) site over

-- each stop of the walk that the search is on is open
abbrev pub IsAllOpen : OwnedCell → Search → Type 0
IsAllOpen cell s =
    (caller node : Text)
    → Contains (pairs_from local s.path.items) (caller, node)
    → mark_at s.marks (stop_at caller node cell) ≡ Some Open

-- the walk that the search is on goes on from the one that it was on, over this node first
abbrev pub GoesOnFrom : Search → Text → Search → Type 0
GoesOnFrom old node new = (rest : List Text) × (new.path.items ≡ old.path.items ++ node ∷ rest)

-- what the whole search from a stop comes to: its rank, or an end that is right, on a walk over
-- that stop
abbrev pub AfterReach : Network → OwnedCell → Text → Text → Search → Search → WalkFound → Type 0
AfterReach plan cell caller node old new (found.Rank r) =
    IsSearchedThrough plan cell caller node r old new
AfterReach plan cell caller node old new (found.End e) =
    IsFirstEnd plan cell new.path.items e × GoesOnFrom old node new

-- a stop that is seen for the first time: these are the nodes that it sends to, or it keeps
pub record IsNew (plan : Network) (cell : OwnedCell) (caller node : Text) (stop : Stop)
    (targets : List Text) (s : Search) : Type 0 where
  pub same : stop ≡ stop_at caller node cell
  pub fresh : mark_at s.marks (stop_at caller node cell) ≡ None
  pub small : btree_map_len s.marks ≢ 65536
  pub named : (to : Text) → Contains targets to ↔ SendsOn plan (stop_at caller node cell) to
  pub ordered : IsInByteOrder targets
  pub goes_on : Keeps plan node caller (key_of cell)
      ⊎ ((to : Text) × SendsOn plan (stop_at caller node cell) to)
  pub taken : IsTaken plan cell caller node

-- what is found on looking at a stop: it is finished, or the search ends there, or it is new
abbrev pub FindsStop : Network → OwnedCell → Text → Text → Search → SeenStop → Type 0
FindsStop plan cell caller node s (seen.Finished r) =
    (mark_at s.marks (stop_at caller node cell) ≡ Some (Finished r)) × IsTaken plan cell caller node
FindsStop plan cell caller node s (seen.End e) =
    IsEnd plan cell (s.path.items ++ node ∷ []) e × WasTested plan cell caller node s e
FindsStop plan cell caller node s (seen.New stop targets) =
    IsNew plan cell caller node stop targets s

-- the search stands at the stop, which it has marked
pub record IsInside (plan : Network) (cell : OwnedCell) (caller node : Text)
    (old new : Search) : Type 0 where
  pub searching : IsSearching plan cell new
  pub later : IsLater old new
  pub more : btree_map_len old.marks + 1 ≤ btree_map_len new.marks
  pub path : new.path.items ≡ old.path.items ++ node ∷ []
  pub here : mark_at new.marks (stop_at caller node cell) ≡ Some Open
  pub fresh : mark_at old.marks (stop_at caller node cell) ≡ None

-- the rank that the first n targets call for
pub record IsRankedBy (plan : Network) (cell : OwnedCell) (node : Text) (lines : List Line)
    (targets : List Text) (n r : ℕ) : Type 0 where
  pub lower : (k : ℕ) → k < n
      → Accepts plan (slice_index_or targets k []) node cell.class cell.syntax
      × ((s : ℕ) × Contains lines (line_at node (slice_index_or targets k []) cell s) × (s < r))
  pub next : (r ≡ 0)
      ⊎ ((k : ℕ) × (s : ℕ) × (k < n)
      × Contains lines (line_at node (slice_index_or targets k []) cell s)
      × (r ≡ s + 1))
