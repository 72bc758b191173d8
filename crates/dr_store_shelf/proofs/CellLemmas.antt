-- Numbers that are written are read.
use Rattle.std.proofs.Common.{◌≡◌, ℕ, zero, suc, ◌+◌, ◌*◌, ◌^◌, ◌<◌, ◌≤◌, List, [], ◌∷◌, ◌++◌}
use Rattle.std.proofs.Common.{subst, length, take, drop, slice_index, refl, sym, ap, ◌∙◌, arith}
use Rattle.std.proofs.Common.{◌-◌, min, length-drop, length-append, take_at, drop_at, drop-drop}
use Rattle.std.specs.Int.{w64, div_ceil, from_le_bytes, to_le_bytes}
use Rattle.std.proofs.lemmas.List.{drop-append-le, nil_from_length, take-append-drop, take-append-le, take_min}
use Rattle.std.proofs.lemmas.Nat.{from_le_bytes-to_le_bytes_8}
use Rattle.dr_store_bodies.specs.declared.extent.Extent.{Extent}
use Rattle.dr_store_bodies.specs.Sums.{AreSums, piece_of}
use Rattle.dr_store_shelf.specs.Cells.{EndsWithDigests, Fit, Passes, extent_in, number_at}
use Rattle.dr_store_shelf.specs.Cells.{piece, written}
use Rattle.dr_store_shelf.specs.Cells.{IsBlankCell}
use Rattle.dr_store_shelf.specs.Laws.{Says, placed}

pub length_written : (numbers : List ℕ) → length (written numbers) ≡ length numbers * 8
length_written [] = refl
length_written (n ∷ more) =
    length-append (to_le_bytes w64 n) (written more) ∙ omega (arith, length_written more)

first_number :
    (n : ℕ) (rest : List ℕ) → n < 2 ^ 64
    → from_le_bytes w64 (take 8 (to_le_bytes w64 n ++ rest)) ≡ n
first_number n rest fits =
    ap (from_le_bytes w64) (take_at (to_le_bytes w64 n) rest 8 refl)
    ∙ from_le_bytes-to_le_bytes_8 n fits

pub number_written :
    (numbers : List ℕ) (i at : ℕ) → at ≡ i * 8 → Fit numbers
    → i < length numbers → number_at (written numbers) at ≡ slice_index numbers i
number_written [] i at place fits low = absurd (omega (arith, low))
number_written (n ∷ more) zero at place fits low =
    ap (number_at (written (n ∷ more))) place ∙ first_number n (written more) (fits 0 (omega arith))
number_written (n ∷ more) (suc i) at place fits low =
    ap (λ k. number_at (written (n ∷ more)) k) (let it : at ≡ 8 + i * 8 = omega (arith, place) in it)
    ∙ ap (λ rest. from_le_bytes w64 (take 8 rest))
    (sym (drop-drop (i * 8) 8 (written (n ∷ more)))
    ∙ ap (drop (i * 8)) (drop_at (to_le_bytes w64 n) (written more) 8 refl))
    ∙ number_written more i (i * 8) refl (λ k under. fits (suc k) (omega (arith, under))) (omega (arith, low))

-- the piece that begins there
pub piece_at :
    (size : ℕ) (bytes : List ℕ) (from i : ℕ) → from ≡ i * size
    → take (min size (length bytes - from)) (drop from bytes) ≡ piece_of size bytes i
piece_at size bytes from i at =
    ap (λ n. take (min size n) (drop from bytes)) (sym (length-drop from bytes))
    ∙ take_min size (drop from bytes)
    ∙ ap (λ n. take size (drop n bytes)) at

-- as many pieces as have a digest
counted :
    (size count : ℕ) → size ≤ count * piece → ((i : ℕ) → i < count → i * piece < size)
    → div_ceil size piece ≡ count
counted size zero enough no_more = omega (arith, enough)
counted size (suc last) enough no_more = omega (arith, enough, no_more last (omega arith))

-- the length that a cell says is the same where something stands behind it
same_length : (cell tail : List ℕ) → 16 ≤ length cell → number_at (cell ++ tail) 8 ≡ number_at cell 8
same_length cell tail long =
    ap (λ rest. from_le_bytes w64 (take 8 rest)) (drop-append-le 8 cell tail (omega (arith, long)))
    ∙ ap (from_le_bytes w64) (take-append-le 8 (drop 8 cell) tail (omega (arith, long, length-drop 8 cell)))

pub nothing_behind :
    (cell tail : List ℕ) → EndsWithDigests cell → EndsWithDigests (cell ++ tail) → tail ≡ []
nothing_behind cell tail ends longer =
    let long : 16 ≤ length cell = omega (arith, ends) in
    let same = ap (λ n. div_ceil n piece) (same_length cell tail long) in
    nil_from_length tail (omega (arith, ends, longer, same, length-append cell tail))

pub nothing_cut :
    (cell : List ℕ) (n : ℕ) → EndsWithDigests cell → EndsWithDigests (take n cell) → length cell ≤ n
nothing_cut cell n ends shorter =
    let whole : take n cell ++ drop n cell ≡ cell = take-append-drop n cell in
    let none = nothing_behind (take n cell) (drop n cell) shorter (subst EndsWithDigests (sym whole) ends) in
    omega (arith, ap length none, length-drop n cell)

pub says :
    (key at : ℕ) (body sums : List ℕ) → AreSums key piece body sums
    → Fit (at ∷ length body ∷ sums) → Says key at body sums
says key at body sums are fits =
    let numbers : List ℕ = at ∷ length body ∷ sums in
    let cell : List ℕ = written numbers in
    let place : number_at cell 0 ≡ at = number_written numbers 0 0 refl fits (omega arith) in
    let size : number_at cell 8 ≡ length body = number_written numbers 1 8 refl fits (omega arith) in
    let count : length cell ≡ (length sums + 2) * 8 = length_written numbers ∙ omega arith in
    record {
      extent = λ j. record { at = place j; size = size j };
      passes = record {
        ends = count ∙ omega (arith, ap (λ n. div_ceil n piece) size, counted (length body) (length sums) are.enough are.no_more);
        whole = sym size;
        each = λ i low.
            let within : i < length sums = omega (arith, low, are.enough) in (
              omega (arith, count, within),
              number_written numbers (suc (suc i)) (16 + i * 8) (omega arith) fits (omega (arith, within))
                  ∙ are.each i within,
            );
      };
    }

fit_all :
    (at size : ℕ) (sums : List ℕ) → at < 2 ^ 64 → size < 2 ^ 64 → Fit sums
    → Fit (at ∷ size ∷ sums)
fit_all at size sums one two fit zero low = one
fit_all at size sums one two fit (suc zero) low = two
fit_all at size sums one two fit (suc (suc i)) low = fit i (omega (arith, low))

-- a blank cell in which the place was written
pub says_at :
    (key at : ℕ) (body cell : List ℕ) → IsBlankCell key body cell → at < 2 ^ 64
    → length body < 2 ^ 64
    → (extent_in (to_le_bytes w64 at ++ drop 8 cell) ≡ placed at (length body))
    × Passes key (to_le_bytes w64 at ++ drop 8 cell) body
says_at key at body cell blank one two =
    let sums = blank.sums in
    let says_it = says key at body sums blank.are
    (fit_all at (length body) sums one two blank.fit) in
    let is : to_le_bytes w64 at ++ drop 8 cell ≡ written (at ∷ length body ∷ sums) =
    ap (λ bytes. to_le_bytes w64 at ++ drop 8 bytes) blank.says
    ∙ ap (λ rest. to_le_bytes w64 at ++ rest)
    (drop_at (to_le_bytes w64 0) (written (length body ∷ sums)) 8 refl) in
    subst (λ bytes. (extent_in bytes ≡ placed at (length body)) × Passes key bytes body) (sym is)
    (says_it.extent, says_it.passes)

-- a blank cell in which an extent's place was written names the extent
pub extent_named :
    (key : ℕ) (e : Extent) (body cell named : List ℕ) → IsBlankCell key body cell
    → length body ≡ e.size → e.at < 2 ^ 64 → length body < 2 ^ 64
    → named ≡ to_le_bytes w64 e.at ++ drop 8 cell
    → (extent_in named ≡ e) × Passes key named body
extent_named key e body cell named blank whole one two is =
    let it = says_at key e.at body cell blank one two in
    subst (λ bytes. (extent_in bytes ≡ e) × Passes key bytes body) (sym is)
    (it.0 ∙ ap (placed e.at) whole, it.1)
