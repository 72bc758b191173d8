-- What is seen at an extent in use stands there.
use Rattle.std.proofs.Common.{◌≡◌, ℕ, List, Result, Ok, Err, IfOk, All, Contains}
use Rattle.std.proofs.lemmas.List.Elements.{All-contains}
use Rattle.dr_store_bodies.specs.declared.extent.Extent.{Extent}
use Rattle.dr_store_bodies.specs.Extents.{IsSafe, Stand}
use Rattle.dr_store_shelf.specs.Cells.{shown}
use Rattle.dr_store_shelf.specs.Held.{held_is_shown, seen_stands}
use Rattle.dr_store_shelf.specs.Tested.{read_in}

-- what says more of a value says it where there is one
pub ok_map : {A E : Type 0} {P Q : A → Type 0} (r : Result A E) → ((x : A) → P x → Q x) → IfOk r P → IfOk r Q
ok_map (Ok x) says it = says x it
ok_map (Err e) says it = tt

-- at an extent that was in use the same is shown as before, where all that stood there stays
pub shown_as_before :
    (seen later : List ℕ) (may will : List ℕ → Type 0) (uses : List Extent) (e : Extent)
    → All (IsSafe seen may) uses → Contains uses e
    → ((held : List ℕ) → Stand seen may e held → Stand later will e held)
    → shown later e ≡ shown seen e
shown_as_before seen later may will uses e all used keeps =
    let safe : IsSafe seen may e = All-contains (IsSafe seen may) uses e all used in
    held_is_shown later will e (shown seen e) (keeps (shown seen e) (seen_stands seen e safe.0 may safe))

-- the same key and the same bytes are read alike
pub read_alike :
    (key was : ℕ) (cell bytes before : List ℕ) → key ≡ was → bytes ≡ before
    → read_in key cell bytes ≡ read_in was cell before
read_alike key was cell bytes before same alike = λ i. read_in (same i) cell (alike i)
