-- Places in a past at which lines begin: the beginning, and those that are noted.
use Rattle.std.specs.Prelude.{◌≡◌, ◌⊎◌, ◌+◌, ◌≤◌, ℕ, List, [], ◌∷◌, ◌++◌, All, Contains}
use Rattle.dr_ledger.specs.Books.{Line}
use Rattle.dr_store_sealed.specs.declared.seal.Seal.{Seal}
use Rattle.dr_store_sealed.specs.Seals.{first_seal}
use Rattle.dr_store_past.specs.Lines.{texts_behind}
use Rattle.dr_store_past.specs.Shown.{IsPlaceIn, ShowsPast}

-- so many lines lie between two places, at least, that are noted while lines are read
abbrev pub spacing : ℕ
spacing = 10000

-- of these and the beginning it is the last one whose count isn't above that number
pub record IsPlaceBefore (places : List Seal) (count : ℕ) (place : Seal) : Type 0 where
  pub known : Contains (first_seal ∷ places) place
  pub low : place.count ≤ count
  pub last : All (λ (other : Seal). other.count ≤ count → other.count ≤ place.count)
      (first_seal ∷ places)

-- none of these is shortly before it, and the beginning isn't
abbrev pub IsFar : List Seal → Seal → Type 0
IsFar places place =
    All (λ (near : Seal). near.count ≤ place.count → near.count + spacing ≤ place.count)
    (first_seal ∷ places)

-- the place was noted, unless another one is shortly before it
abbrev pub IsNoted : List Seal → Seal → List Seal → Type 0
IsNoted old place new =
    (IsFar old place × (new ≡ old ++ place ∷ [])) ⊎ ((IsFar old place → ⊥) × (new ≡ old))

-- Places were noted behind those that were known. None is behind the past, and they are those of
-- its lines if what is shown is the past, and what was seen is true.
pub record NotesPlaces (True : Type 0) (files : List (List ℕ)) (seal : Seal) (old new : List Seal)
    : Type 0 where
  pub more : List Seal
  pub behind : new ≡ old ++ more
  pub within : All (λ (place : Seal). place.count ≤ seal.count) new
  pub are : (all : List Line) → True → (it : ShowsPast all files seal)
      → All (IsPlaceIn (texts_behind 0 it.lines)) old
      → All (IsPlaceIn (texts_behind 0 it.lines)) new
