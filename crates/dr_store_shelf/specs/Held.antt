-- What an extent holds is what is seen there; and two cells are apart from each other.
use Rattle.std.proofs.Common.{◌≡◌, ℕ, List, length, take, drop, sym, ◌∙◌, ext_get_or}
use Rattle.std.proofs.Common.{arith, length-take, length-drop, get_or-take, get_or-drop, ◌+◌, ◌<◌}
use Rattle.std.proofs.Common.{◌≤◌, slice_index, All, Contains, Some, subst}
use Rattle.std.proofs.lemmas.List.Elements.{All-contains}
use Rattle.dr_store_bodies.specs.declared.extent.Extent.{Extent}
use Rattle.dr_store_bodies.specs.Extents.{IsSafe, Stand, end_of}
use Rattle.dr_store_shelf.specs.Cells.{Passes, extent_in, shown}
use Rattle.dr_store_shelf.specs.Shelves.{AreApart}
use Rattle.dr_store_shelf.specs.Tested.{read_in, read_so}

pub held_is_shown :
    (seen : List ℕ) (may_leave : List ℕ → Type 0) (e : Extent) (bytes : List ℕ)
    → Stand seen may_leave e bytes → shown seen e ≡ bytes
held_is_shown seen may_leave e bytes is =
    let cut = drop e.at seen in
    let len : length (take e.size cut) ≡ e.size =
    omega (arith, is.now.within, is.whole, length-take e.size cut, length-drop e.at seen) in
    ext_get_or 0 (shown seen e) bytes (len ∙ sym is.whole) (λ i low.
    get_or-take e.size cut i 0 (omega (arith, low, len))
    ∙ get_or-drop e.at seen i 0
    ∙ is.now.each i (omega (arith, low, len, is.whole)))

pub apart_from_each_other : (cell other : List ℕ) → AreApart cell other → AreApart other cell
apart_from_each_other cell other apart = λ same. apart (sym same)

module _ (seen : List ℕ) (e : Extent) (within : end_of e ≤ length seen) where
  len : length (shown seen e) ≡ e.size
  len = omega (arith, within, length-take e.size (drop e.at seen), length-drop e.at seen)

  each : (i : ℕ) → i < length (shown seen e)
      → slice_index seen (e.at + i) ≡ slice_index (shown seen e) i
  each i low =
      sym (get_or-take e.size (drop e.at seen) i 0 (omega (arith, low, len))
      ∙ get_or-drop e.at seen i 0)

  pub seen_stands : (may_leave : List ℕ → Type 0) → IsSafe seen may_leave e
      → Stand seen may_leave e (shown seen e)
  seen_stands may_leave safe = record {
    whole = len;
    now = record { within = omega (arith, within, len); each = each };
    after_crash = λ left may.
        let it = safe.1 left may in
        record {
          within = omega (arith, it.0, len);
          each = λ i low. it.1 (e.at + i) (omega arith) (omega (arith, low, len)) ∙ each i low;
        };
  }

-- where each extent in use is safe, what passes the test of a cell in use stands there
pub read_stands :
    (key : ℕ) (seen : List ℕ) (may : List ℕ → Type 0) (uses : List Extent) (cell bytes : List ℕ)
    → All (IsSafe seen may) uses → Contains uses (extent_in cell)
    → read_in key cell (shown seen (extent_in cell)) ≡ Some bytes
    → Stand seen may (extent_in cell) bytes × Passes key cell bytes
read_stands key seen may uses cell bytes all used is =
    let e : Extent = extent_in cell in
    let safe : IsSafe seen may e = All-contains (IsSafe seen may) uses e all used in
    let so = read_so key cell (shown seen e) bytes is in (
      subst (Stand seen may e) so.0 (seen_stands seen e safe.0 may safe),
      subst (Passes key cell) so.0 so.1,
    )
