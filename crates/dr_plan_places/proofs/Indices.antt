-- The tables of an array, by their indices.
use Rattle.std.proofs.Common.{◌≡◌, sym, ap, ◌∙◌, ℕ, zero, suc, ◌<◌, List, [], ◌∷◌, length, get_or, Some, arith}
use Rattle.toml.specs.declared.value.Value.{Value}
use Rattle.toml.specs.Data.{Members, get_item, as_table}
use Rattle.toml.specs.View.{view, items_view}
use Rattle.dr_plan_places.specs.FieldFlaws.{table_in}

item_at : (vs : List Value) (i : ℕ) (v : Value) → i < length vs → v ≡ get_or vs i v → get_item i (items_view vs) ≡ Some (view v)
item_at [] i v below at = let none : ⊥ = omega arith in absurd none
item_at (w ∷ vs) zero v below at = ap (λ (x : Value). Some (view x)) (sym at)
item_at (w ∷ vs) (suc i) v below at = item_at vs i v (omega arith) at

-- the table that the value at an index is stands there
pub table_at : (vs : List Value) (i : ℕ) (v : Value) (row : Members) → i < length vs → v ≡ get_or vs i v → as_table (view v) ≡ Some row → table_in (get_item i (items_view vs)) ≡ Some row
table_at vs i v row below at is = ap table_in (item_at vs i v below at) ∙ is
