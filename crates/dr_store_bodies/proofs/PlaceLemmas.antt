-- What a write beside an extent, and a sync, leave of it.
use Rattle.std.proofs.Common.{◌≡◌, ◌⊎◌, ℕ, ◌+◌, ◌-◌, ◌<◌, ◌≤◌, List, length, slice_index, slice_index_or, insert, All, AllPairs, sym, ◌∙◌, ap, subst, inl, inr, arith}
use Rattle.std.proofs.lemmas.Bool.{cases_order}
use Rattle.std.proofs.lemmas.List.Edits.{length-insert, get_or-insert_below, get_or-insert_at, get_or-insert_above}
use Rattle.sqlite_disk.specs.Disk.{Holds, Torn, Follows, Only}
use Rattle.dr_store_bodies.specs.declared.extent.Extent.{Extent}
use Rattle.dr_store_bodies.specs.Extents.{end_of, Agrees, IsSafe, Stand}

-- the extent lies before the range or behind it
abbrev pub IsBeside : Extent → ℕ → ℕ → Type 0
IsBeside e at n = (end_of e ≤ at) ⊎ (at + n ≤ e.at)

pub kept_at : (at n : ℕ) (old new : List ℕ) (e : Extent) (i : ℕ) → IsBeside e at n → end_of e ≤ length old → Torn at n old new → e.at ≤ i → i < end_of e → slice_index new i ≡ slice_index old i
kept_at at n old new e i beside reaches torn from low =
    elim beside [ inl before ↦ torn.below i (omega arith) (omega arith) | inr behind ↦ torn.above i (omega arith) (omega arith) ]

pub holds_beside : (at n : ℕ) (old new : List ℕ) (e : Extent) (bytes : List ℕ) → IsBeside e at n → length bytes ≡ e.size → Torn at n old new → Holds old e.at bytes → Holds new e.at bytes
holds_beside at n old new e bytes beside len torn holds =
    record {
      within = omega (arith, holds.within, torn.no_shorter);
      each = λ i low. kept_at at n old new e (e.at + i) beside (omega (arith, holds.within)) torn (omega arith) (omega arith) ∙ holds.each i low;
    }

pub stand_beside : (at n : ℕ) (old new : List ℕ) (was is : List ℕ → Type 0) (e : Extent) (bytes : List ℕ)
    → IsBeside e at n → Torn at n old new → Follows (Torn at n) was is → Stand old was e bytes → Stand new is e bytes
stand_beside at n old new was is e bytes beside torn follows stand =
    record {
      whole = stand.whole;
      now = holds_beside at n old new e bytes beside stand.whole torn stand.now;
      after_crash = λ left may.
          let (before, may_before, step) = follows left may in
          holds_beside at n before left e bytes beside stand.whole step (stand.after_crash before may_before);
    }

pub stand_fewer : (old new : List ℕ) (was is : List ℕ → Type 0) (e : Extent) (bytes : List ℕ)
    → new ≡ old → ((left : List ℕ) → is left → was left) → Stand old was e bytes → Stand new is e bytes
stand_fewer old new was is e bytes same fewer stand =
    record {
      whole = stand.whole;
      now = subst (λ file. Holds file e.at bytes) (sym same) stand.now;
      after_crash = λ left may. stand.after_crash left (fewer left may);
    }

pub safe_beside : (at n : ℕ) (old new : List ℕ) (was is : List ℕ → Type 0) (e : Extent)
    → IsBeside e at n → Torn at n old new → Follows (Torn at n) was is → IsSafe old was e → IsSafe new is e
safe_beside at n old new was is e beside torn follows safe = (
  omega (arith, safe.0, torn.no_shorter),
  λ left may.
      let (before, may_before, step) = follows left may in
      let agrees = safe.1 before may_before in (
        omega (arith, agrees.0, step.no_shorter),
        λ i from low.
            kept_at at n before left e i beside agrees.0 step from low ∙ agrees.1 i from low ∙ sym (kept_at at n old new e i beside safe.0 torn from low),
      ),
)

pub safe_fewer : (old new : List ℕ) (was is : List ℕ → Type 0) (e : Extent)
    → new ≡ old → ((left : List ℕ) → is left → was left) → IsSafe old was e → IsSafe new is e
safe_fewer old new was is e same fewer safe =
    subst (λ file. IsSafe file is e) (sym same) (let out : IsSafe old is e = (safe.0, λ left may. safe.1 left (fewer left may)) in out)

-- what was written and synced
pub stand_synced : (seen : List ℕ) (is : List ℕ → Type 0) (e : Extent) (bytes : List ℕ) → length bytes ≡ e.size → Holds seen e.at bytes → Only seen is → Stand seen is e bytes
stand_synced seen is e bytes len holds only =
    record { whole = len; now = holds; after_crash = λ left may. subst (λ file. Holds file e.at bytes) (sym (only left may)) holds }

pub safe_synced : (seen : List ℕ) (is : List ℕ → Type 0) (e : Extent) (bytes : List ℕ) → length bytes ≡ e.size → Holds seen e.at bytes → Only seen is → IsSafe seen is e
safe_synced seen is e bytes len holds only =
    (omega (arith, holds.within), λ left may. subst (Agrees e seen) (sym (only left may)) (let out : Agrees e seen seen = (omega (arith, holds.within), λ i from low j. slice_index seen i) in out))

module _ {X : Type 0} (xs : List X) (i : ℕ) (y : X) (fits : i ≤ length xs) where
  above : (k : ℕ) (d : X) → i < k → slice_index_or (insert xs i y) k d ≡ slice_index_or xs (k - 1) d
  above k d past =
      let back : k - 1 + 1 ≡ k = omega arith in
      ap (λ n. slice_index_or (insert xs i y) n d) (sym back) ∙ get_or-insert_above xs i y d (k - 1) (omega arith) fits

  at_place : (k : ℕ) (d : X) → k ≡ i → slice_index_or (insert xs i y) k d ≡ y
  at_place k d same = ap (λ n. slice_index_or (insert xs i y) n d) same ∙ get_or-insert_at xs i y d fits

  pub All-insert : (P : X → Type 0) → All P xs → P y → All P (insert xs i y)
  All-insert P all put k d low =
      let grown = length-insert xs i y fits in
      elim (cases_order k i) [
        | inl same ↦ subst P (sym (at_place k d same)) put
        | inr (inl under) ↦ subst P (sym (get_or-insert_below xs i y d k under fits)) (all k d (omega arith))
        | inr (inr over) ↦ subst P (sym (above k d over)) (all (k - 1) d (omega arith))
      ]

  moved : (R : X → X → Type 0) (a b c e : X) → a ≡ c → b ≡ e → R c e → R a b
  moved R a b c e p q r = subst (λ z. R z b) (sym p) (subst (λ z. R c z) (sym q) r)

  pub AllPairs-insert : (R : X → X → Type 0) → AllPairs R xs
      → ((k : ℕ) (d : X) → k < i → R (slice_index_or xs k d) y)
      → ((k : ℕ) (d : X) → i ≤ k → k < length xs → R y (slice_index_or xs k d)) → AllPairs R (insert xs i y)
  AllPairs-insert R all behind before a b d order low =
      let grown = length-insert xs i y fits in
      elim (cases_order b i) [
        | inl same ↦ moved R _ _ _ _ (get_or-insert_below xs i y d a (omega arith) fits) (at_place b d same) (behind a d (omega arith))
        | inr (inl under) ↦ moved R _ _ _ _ (get_or-insert_below xs i y d a (omega arith) fits) (get_or-insert_below xs i y d b under fits) (all a b d order (omega arith))
        | inr (inr over) ↦ elim (cases_order a i) [
          | inl same ↦ moved R _ _ _ _ (at_place a d same) (above b d over) (before (b - 1) d (omega arith) (omega arith))
          | inr (inl under) ↦ moved R _ _ _ _ (get_or-insert_below xs i y d a under fits) (above b d over) (all a (b - 1) d (omega arith) (omega arith))
          | inr (inr past) ↦ moved R _ _ _ _ (above a d past) (above b d over) (all (a - 1) (b - 1) d (omega arith) (omega arith))
        ]
      ]
