-- What trees hold, as maps and sets.
use Rattle.std.specs.Prelude.{Bool, true, false, Option, None, Some}
use Rattle.std.specs.declared.cmp.Ordering.{Ordering}
use Rattle.std.specs.BTreeMap as tree
use Rattle.std.specs.BTreeSet as sorted
use Rattle.std.specs.FinMap as map
use Rattle.std.specs.FinMap.{FinMap}
use Rattle.std.specs.FinSet as set
use Rattle.std.specs.FinSet.{FinSet}
use Rattle.dr_ledger.specs.declared.item.Progress.{Progress}
use Rattle.dr_ledger.specs.declared.item.Progress.TheVariants.{Waiting, Held, Done, Dropped}

-- the map of a tree's entries
abbrev pub as_map : {K X : Type 0} (R : K → K → Ordering) → tree.BTreeMap K X → FinMap R X
as_map R m = map.from_entries m.entries

-- the set of a tree's keys
abbrev pub as_set : {K : Type 0} (R : K → K → Ordering) → sorted.BTreeSet K → FinSet R
as_set R s = set.from_list s.keys

-- a row is there that an arrival leaves as it is
abbrev pub stands : Option Progress → Bool
stands None = false
stands (Some Dropped) = false
stands (Some Done) = true
stands (Some (Held why)) = true
stands (Some (Waiting tries due)) = true
