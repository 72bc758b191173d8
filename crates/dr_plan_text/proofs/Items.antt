-- Arrays whose items say values, one each.
use Rattle.std.proofs.Common.{◌≡◌, ℕ, zero, suc, ◌+◌, ◌<◌, List, [], ◌∷◌, ◌++◌, length, get_or, take, arith}
use Rattle.std.proofs.lemmas.List.{take_more}
use Rattle.toml.specs.declared.value.Value.{Value}
use Rattle.toml.specs.Data.{Data, Items, no_items, item, push_item}
use Rattle.toml.specs.View.{view, items_view}
use Rattle.toml.proofs.Views.{items_view-push}
use Rattle.dr_plan_text.specs.Fields.{ListsValues}

pub Lists-push : {X : Type 0} (Says : Data → X → Type 0) (items : Items) (xs : List X) (d : Data) (x : X) → ListsValues Says items xs → Says d x →
    ListsValues Says (push_item items d) (xs ++ x ∷ [])
Lists-push Says no_items [] d x h says = (says, tt)
Lists-push Says no_items (y ∷ ys) d x h says = absurd h
Lists-push Says (item e items) [] d x h says = absurd h
Lists-push Says (item e items) (y ∷ ys) d x h says = (h.0, Lists-push Says items ys d x h.1 says)

-- one more item is read
pub listed_more : {X : Type 0} (Says : Data → X → Type 0) (vs : List Value) (xs : List X) (i : ℕ) (v : Value) (x : X) → i < length vs → v ≡ get_or vs i v →
    ListsValues Says (items_view (take i vs)) xs → Says (view v) x → ListsValues Says (items_view (take (i + 1) vs)) (xs ++ x ∷ [])
listed_more Says vs xs i v x h at so_far says =
    let e = take_more vs i v h in
    let more : take (i + 1) vs ≡ take i vs ++ v ∷ [] = rw (← at) at e in
    rw (more, items_view-push (take i vs) v) (Lists-push Says (items_view (take i vs)) xs (view v) x so_far says)

-- an array with an item that says nothing says nothing
pub not_listed : {X : Type 0} (Says : Data → X → Type 0) (vs : List Value) (i : ℕ) (v : Value) (xs : List X) → i < length vs → v ≡ get_or vs i v →
    ((x : X) → Says (view v) x → ⊥) → ListsValues Says (items_view vs) xs → ⊥
not_listed Says [] i v xs h at none is = omega arith
not_listed Says (w ∷ vs) i v [] h at none is = is
not_listed Says (w ∷ vs) zero v (x ∷ xs) h at none is = none x (rw at is.0)
not_listed Says (w ∷ vs) (suc i) v (x ∷ xs) h at none is = not_listed Says vs i v xs (omega arith) at none is.1
