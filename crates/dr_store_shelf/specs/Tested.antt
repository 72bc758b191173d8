-- Whether bytes pass a cell's test can be told, and so what can be read by the cell.
use Rattle.std.specs.Prelude.{◌≡◌, ℕ, zero, suc, ◌+◌, ◌*◌, ◌<◌, ◌≤◌, Bool, true, false}
use Rattle.std.specs.Prelude.{List, length, Option, Some, None, MatchOption}
use Rattle.std.proofs.Common.{eqb, leb, refl, subst, arith, eqb-true}
use Rattle.std.proofs.lemmas.Bool.{eqb-false, leb-true, leb-false}
use Rattle.std.specs.Int.{div_ceil}
use Rattle.sqlite_disk.specs.Digest.{digest}
use Rattle.dr_store_bodies.specs.Sums.{piece_of}
use Rattle.dr_store_shelf.specs.Cells.{EndsWithDigests, HaveDigests, Passes, extent_in, number_at}
use Rattle.dr_store_shelf.specs.Cells.{piece, sum_in}

same_number : (m n : ℕ) → Dec (m ≡ n)
same_number m n = go (eqb m n) refl
  where
    go : (b : Bool) → eqb m n ≡ b → Dec (m ≡ n)
    go true is = yes (eqb-true m n is)
    go false is = no (eqb-false m n is)

no_more : (m n : ℕ) → Dec (m ≤ n)
no_more m n = go (leb m n) refl
  where
    go : (b : Bool) → leb m n ≡ b → Dec (m ≤ n)
    go true is = yes (leb-true m n is)
    go false is = no (λ low. omega (arith, low, leb-false m n is))

both : {P Q : Type 0} → Dec P → Dec Q → Dec (P × Q)
both (yes p) (yes q) = yes (p, q)
both (yes p) (no n) = no (λ h. n h.1)
both (no n) q = no (λ h. n h.0)

where_so : {P Q : Type 0} → Dec P → Dec Q → Dec (P → Q)
where_so (yes p) (yes q) = yes (λ h. q)
where_so (yes p) (no n) = no (λ f. n (f p))
where_so (no n) q = yes (λ h. absurd (n h))

-- what can be told of each number can be told of all below one
all_below : (P : ℕ → Type 0) → ((i : ℕ) → Dec (P i)) → (n : ℕ) → Dec ((i : ℕ) → i < n → P i)
all_below P told zero = yes (λ i low. absurd (omega (arith, low)))
all_below P told (suc n) = go (all_below P told n) (told n)
  where
    at : ((i : ℕ) → i < n → P i) → P n → (i : ℕ) → i < suc n → P i
    at below last i low = here (same_number n i)
      where
        here : Dec (n ≡ i) → P i
        here (yes same) = subst P same last
        here (no other) = below i (omega (arith, low, other))

    go : Dec ((i : ℕ) → i < n → P i) → Dec (P n) → Dec ((i : ℕ) → i < suc n → P i)
    go (yes below) (yes last) = yes (at below last)
    go (yes below) (no n') = no (λ all. n' (all n (omega arith)))
    go (no n') last = no (λ all. n' (λ i low. all i (omega (arith, low))))

module _ (key : ℕ) (cell bytes : List ℕ) where
  abbrev HasDigest : ℕ → Type 0
  HasDigest i = (24 + i * 8 ≤ length cell) × (sum_in cell i ≡ digest key (piece_of piece bytes i))

  abbrev Below : Type 0
  Below = (i : ℕ) → i < length bytes → i * piece < length bytes → HasDigest i

  digests_told : Dec (HaveDigests key cell bytes)
  digests_told = go (all_below (λ i. i * piece < length bytes → HasDigest i)
      (λ i. where_so (no_more (suc (i * piece)) (length bytes))
      (both (no_more (24 + i * 8) (length cell))
      (same_number (sum_in cell i) (digest key (piece_of piece bytes i))))) (length bytes))
    where
      go : Dec Below → Dec (HaveDigests key cell bytes)
      go (yes all) = yes (λ i low. all i (omega (arith, low)) low)
      go (no n) = no (λ all. n (λ i low within. all i within))

  -- whether the bytes pass the cell's test
  pub tested : Dec (Passes key cell bytes)
  tested = go (same_number (length cell) (16 + div_ceil (number_at cell 8) piece * 8))
      (same_number (length bytes) (number_at cell 8)) digests_told
    where
      go : Dec (EndsWithDigests cell) → Dec (length bytes ≡ (extent_in cell).size)
          → Dec (HaveDigests key cell bytes) → Dec (Passes key cell bytes)
      go (yes ends) (yes whole) (yes each) =
          yes (record { ends = ends; whole = whole; each = each })
      go (no n) w e = no (λ (p : Passes key cell bytes). n p.ends)
      go (yes ends) (no n) e = no (λ (p : Passes key cell bytes). n p.whole)
      go (yes ends) (yes whole) (no n) = no (λ (p : Passes key cell bytes). n p.each)

-- these bytes, where that is so
abbrev pub those_if : {P : Type 0} → List ℕ → Dec P → Option (List ℕ)
those_if bytes (yes p) = Some bytes
those_if bytes (no n) = None

-- what is read of these bytes by a cell: all of them, where they pass its test
abbrev pub read_in : ℕ → List ℕ → List ℕ → Option (List ℕ)
read_in key cell bytes = those_if bytes (tested key cell bytes)

those_so : {P : Type 0} (bytes read : List ℕ) (d : Dec P) → those_if bytes d ≡ Some read
    → (bytes ≡ read) × P
those_so bytes read (yes p) is = (let e : bytes ≡ read = cc is in e, p)
those_so bytes read (no n) is = absurd (let f : ⊥ = cc is in f)

pub all_if : {P : Type 0} (bytes : List ℕ) (d : Dec P) → P → those_if bytes d ≡ Some bytes
all_if bytes (yes p) so = refl
all_if bytes (no n) so = absurd (n so)

none_if : {P : Type 0} (bytes : List ℕ) (d : Dec P) → (P → ⊥) → those_if bytes d ≡ None
none_if bytes (yes p) never = absurd (never p)
none_if bytes (no n) never = refl

pub read_is : (key : ℕ) (cell bytes : List ℕ)
    → MatchOption (read_in key cell bytes) (Passes key cell bytes → ⊥)
    (λ read. (read ≡ bytes) × Passes key cell read)
read_is key cell bytes = go (tested key cell bytes)
  where
    go : (d : Dec (Passes key cell bytes))
        → MatchOption (those_if bytes d) (Passes key cell bytes → ⊥)
        (λ read. (read ≡ bytes) × Passes key cell read)
    go (yes p) = (refl, p)
    go (no n) = n

pub read_so : (key : ℕ) (cell bytes read : List ℕ) → read_in key cell bytes ≡ Some read
    → (bytes ≡ read) × Passes key cell bytes
read_so key cell bytes read is = those_so bytes read (tested key cell bytes) is

pub read_all : (key : ℕ) (cell bytes : List ℕ) → Passes key cell bytes
    → read_in key cell bytes ≡ Some bytes
read_all key cell bytes so = all_if bytes (tested key cell bytes) so

pub read_none : (key : ℕ) (cell bytes : List ℕ) → (Passes key cell bytes → ⊥)
    → read_in key cell bytes ≡ None
read_none key cell bytes never = none_if bytes (tested key cell bytes) never

-- where a cell is the data set itself
pub row_reads : (cell : List ℕ)
    → MatchOption (Some cell) (cell ≡ cell → ⊥) (λ bytes. (bytes ≡ cell) × (cell ≡ bytes))
row_reads cell = (refl, refl)

pub row_held : (cell bytes : List ℕ) → Some cell ≡ Some bytes → cell ≡ bytes
row_held cell bytes is = let e : cell ≡ bytes = cc is in e
