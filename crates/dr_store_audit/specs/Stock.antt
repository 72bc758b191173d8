-- The instances that keys and prints make.
use Rattle.std.specs.Prelude.{◌≡◌, List, [], ◌∷◌}
use Rattle.std.specs.FinMap as map
use Rattle.std.specs.FinMap.{FinMap}
use Rattle.dr_base.specs.Texts.{Text, text_cmp}
use Rattle.dr_route.specs.declared.key.Key.{Key}
use Rattle.dr_ledger.specs.declared.item.Instance.{Instance}
use Rattle.dr_store_reads.specs.declared.finding.Print.{Print}

-- the instance of that uid with this key and this print
abbrev pub instance_with : Text → Key → Print → Instance
instance_with uid key print =
    record { uid = uid; key = key; size = print.size; digest = print.digest }

-- Keys and prints go by the same uids, in this order, and with their instances the first map is the
-- last one.
abbrev pub Stocks : FinMap text_cmp Instance → List (Text × Key) → List (Text × Print)
    → FinMap text_cmp Instance → Type 0
Stocks before [] [] after = after ≡ before
Stocks before [] (p ∷ prints) after = ⊥
Stocks before (k ∷ keys) [] after = ⊥
Stocks before (k ∷ keys) (p ∷ prints) after =
    (p.0 ≡ k.0) × Stocks (map.insert before k.0 (instance_with k.0 k.1 p.1)) keys prints after
