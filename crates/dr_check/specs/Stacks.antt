-- The stack of a search: the stops that it stands on, and what its steps do.
use Rattle.std.specs.Prelude.{◌≡◌, ℕ, ◌+◌, ◌-◌, ◌*◌, ◌<◌, ◌≤◌, ◌⊎◌, ◌↔◌, List, [], ◌∷◌, ◌++◌}
use Rattle.std.specs.Prelude.{length, take, reverse, Contains, Option, Some, None}
use Rattle.std.specs.BTreeMap.{btree_map_len, Updates}
use Rattle.dr_base.specs.Texts.{Text, IsInByteOrder}
use Rattle.dr_route.specs.Laws.{key_of}
use Rattle.dr_route.specs.declared.cell.OwnedCell.{OwnedCell}
use Rattle.dr_plan_model.specs.Networks.{Network}
use Rattle.dr_plan_model.specs.Walks.{Keeps}
use Rattle.dr_plan_sound.specs.Ranked.{SendsOn}
use Rattle.dr_plan_sound.specs.Stops.{stop_cmp}
use Rattle.dr_plan_sound.specs.declared.certificate.Stop.{Stop}
use Rattle.dr_check.specs.declared.search.Search.{Search}
use Rattle.dr_check.specs.declared.search.Frame.{Frame}
use Rattle.dr_check.specs.declared.search.Mark.TheVariants.{Open, Finished}
use Rattle.dr_check.specs.declared.search.NextTarget.{NextTarget}
use Rattle.dr_check.specs.declared.search.NextTarget.TheVariants as next
use Rattle.dr_check.specs.declared.search.WalkFound.{WalkFound}
use Rattle.dr_check.specs.declared.search.WalkFound.TheVariants as found
use Rattle.dr_check.specs.Searching.{IsSearching, IsTrail, IsInside, IsSearchedThrough, IsNew}
use Rattle.dr_check.specs.Searching.{IsRankedBy}
use Rattle.dr_check.specs.Searching.{IsFirstEnd, IsFirstYet, EndsWell, IsAllOpen, IsTaken}
use Rattle.dr_check.specs.Searching.{GoesOnFrom, mark_at, stop_at}

-- the stop that the search stands on by this frame
abbrev pub stop_of_frame : OwnedCell → Frame → Stop
stop_of_frame cell f = stop_at f.caller f.node cell

-- The search stands on the frame's stop: the walk ends there, its targets are those that the plan
-- names, in byte order, the rank is the one that the targets searched so far call for, and neither
-- the walk nor one that comes before it shows a fault.
pub record IsTop (plan : Network) (cell : OwnedCell) (f : Frame) (s : Search) : Type 0 where
  pub searching : IsSearching plan cell s
  pub trail : IsTrail plan (key_of cell) s.path.items f.caller f.node
  pub here : mark_at s.marks (stop_of_frame cell f) ≡ Some Open
  pub opened : IsAllOpen cell s
  pub first : IsFirstYet plan cell s.path.items
  pub well : EndsWell plan cell s.path.items
  pub named : (to : Text) → Contains f.targets to ↔ SendsOn plan (stop_of_frame cell f) to
  pub ordered : IsInByteOrder f.targets
  pub goes_on : Keeps plan f.node f.caller (key_of cell)
      ⊎ ((to : Text) × SendsOn plan (stop_of_frame cell f) to)
  pub taken : IsTaken plan cell f.caller f.node
  pub searched : f.searched ≤ length f.targets
  pub ranked : IsRankedBy plan cell f.node s.lines.items f.targets f.searched f.rank

-- The stop of the first frame was entered from that of the next, and so on; the last one is the
-- stop that the search began at.
abbrev pub IsStack : Network → OwnedCell → Search → Text → Text → List Frame → Frame → Search
    → Type 0
IsStack plan cell start caller node [] f s =
    (f.caller ≡ caller) × (f.node ≡ node) × IsInside plan cell f.caller f.node start s
IsStack plan cell start caller node (g ∷ below) f s =
    (old : Search)
    × IsInside plan cell f.caller f.node old s
    × IsTop plan cell g old
    × IsStack plan cell start caller node below g old

-- a stop is entered, and nothing else
pub record Enters (old new : Search) (node : Text) (stop : Stop) : Type 0 where
  pub path : new.path.items ≡ old.path.items ++ node ∷ []
  pub lines : new.lines ≡ old.lines
  pub put : Updates stop_cmp old.marks new.marks stop (Some Open)
  pub grown : mark_at old.marks stop ≡ None → btree_map_len new.marks ≡ btree_map_len old.marks + 1

-- the stop at the end of the walk is finished, and nothing else
pub record LeavesStop (old new : Search) (stop : Stop) (rank : ℕ) : Type 0 where
  pub path : new.path.items ≡ take (length old.path.items - 1) old.path.items
  pub lines : new.lines.items ≡ old.lines.items ++ record { stop = stop; rank = rank } ∷ []
  pub put : Updates stop_cmp old.marks new.marks stop (Some (Finished rank))
  pub same_size : mark_at old.marks stop ≡ Some Open
      → btree_map_len new.marks ≡ btree_map_len old.marks

-- the two frames are of the same stop
pub record IsSameFrame (f g : Frame) : Type 0 where
  pub caller : g.caller ≡ f.caller
  pub node : g.node ≡ f.node

-- what is found among the targets of a frame: nothing more, an end of the search, or a stop that is
-- new
abbrev pub FindsNextTarget : Network → OwnedCell → Search → Frame → Frame → NextTarget → Type 0
FindsNextTarget plan cell s f g next.Nothing =
    IsSameFrame f g × IsTop plan cell g s × (g.searched ≡ length g.targets)
FindsNextTarget plan cell s f g (next.End node e) =
    IsFirstEnd plan cell (s.path.items ++ node ∷ []) e
FindsNextTarget plan cell s f g (next.New node stop targets) =
    IsSameFrame f g × IsTop plan cell g s
    × IsNew plan cell g.node node stop targets s
    × SendsOn plan (stop_of_frame cell g) node
    × IsFirstYet plan cell (s.path.items ++ node ∷ [])

-- how many steps are left at the most: each stop is entered once and left once
abbrev pub left_to_do : Search → List Frame → ℕ
left_to_do s below = 2 * (65536 - btree_map_len s.marks) + length below

-- what one step of the search does, whatever stop it began at: less is left to do, or it is done
abbrev pub Steps : Network → OwnedCell → Search → Frame → List Frame → Search → Frame → List Frame
    → Option WalkFound → Type 0
Steps plan cell old f below new g after None =
    (left_to_do new after < left_to_do old below)
    × ((start : Search) (caller node : Text)
    → IsStack plan cell start caller node (reverse below) f old
    → IsTop plan cell g new × IsStack plan cell start caller node (reverse after) g new)
Steps plan cell old f below new g after (Some (found.Rank r)) =
    (start : Search) (caller node : Text)
    → IsStack plan cell start caller node (reverse below) f old
    → IsSearchedThrough plan cell caller node r start new
Steps plan cell old f below new g after (Some (found.End e)) =
    IsFirstEnd plan cell new.path.items e
    × ((start : Search) (caller node : Text)
    → IsStack plan cell start caller node (reverse below) f old
    → GoesOnFrom start node new)
