-- Statements of which only the commit may leave something.
use Rattle.std.proofs.Common.{◌≡◌, ◌∙◌, [], false, true, inl, inr, refl, sym, ap, IsTrue, Ok, Err, Result, OnOk, arith}
use Rattle.sqlite.specs.State.{State, HasCleanDisk, KeepsCounts, Shows, Survives}
use Rattle.sqlite.specs.declared.error.Error.{Error}
use Rattle.sqlite.specs.Effect.{Database, IsDatabase}
use Rattle.sqlite.proofs.StateLemmas.{survives_then}
use Rattle.dr_site.specs.Parts.{Part}
use Rattle.dr_store_writes.specs.Effects.{CommitsNothing}
use Rattle.dr_store_open.specs.Opening.{LeavesFile, LeavesOldOr, LeavesOldOrCommitted}

-- where nothing is run
pub survives_still : (s : State) → CommitsNothing s s
survives_still s = record { clean = omega arith; shield = λ h. h; counts = omega arith; limit = refl; closes = λ clean is_open. inl is_open; crash = λ clean db left. inl left }

-- one after another
pub survives_both : (a b c : State) → CommitsNothing a b → CommitsNothing b c → CommitsNothing a c
survives_both a b c one two = survives_then a b c (λ _. ⊥) (λ _. ⊥) (λ _. ⊥) (λ _ db none. none) (λ _ db none. none) one two

-- where the commit was made
pub leaves_made : (old mid new : State) (r : Result (Unit {0}) Error) → CommitsNothing (record old { in_transaction = true }) mid
    → (HasCleanDisk new → OnOk r (IsTrue mid.in_transaction × Shows mid new mid.now mid.now false × KeepsCounts mid new × (new.marks ≡ [])))
    → Survives mid new (λ db. db ≡ mid.now.trees) → HasCleanDisk new → OnOk r (LeavesOldOrCommitted old new)
leaves_made old mid new (Err e) filled done survives clean = tt
leaves_made old mid new (Ok x) filled done survives clean = λ db left. elim (survives.crash clean db left) [
  | inl earlier ↦ elim (filled.crash (omega (arith, survives.clean, clean)) db earlier) [ inl before ↦ inl before | inr none ↦ absurd none ]
  | inr is ↦ inr (is ∙ ap (λ (d : Database). d.trees) (sym (done clean).1.committed_is))
]

-- where the commit was tried, whatever came of it
pub leaves_tried : (old mid new : State) (Makes : Database → Type 0)
    → CommitsNothing (record old { in_transaction = true }) mid
    → (HasCleanDisk mid → IsDatabase mid.now × Makes mid.now)
    → Survives mid new (λ db. db ≡ mid.now.trees) → HasCleanDisk new → LeavesOldOr Makes old new
leaves_tried old mid new Makes filled made survives clean =
    let early : HasCleanDisk mid = omega (arith, survives.clean, clean) in
    λ db left. elim (survives.crash clean db left) [
      | inl earlier ↦ elim (filled.crash early db earlier) [ inl before ↦ inl before | inr none ↦ absurd none ]
      | inr is ↦ (let it = made early in inr (mid.now, sym is, it.0, it.1))
    ]

-- where a statement failed, and the transaction was let go
pub leaves_failed : (old mid new : State) (Makes : Database → Type 0)
    → CommitsNothing (record old { in_transaction = true }) mid
    → CommitsNothing mid new → HasCleanDisk new → LeavesOldOr Makes old new
leaves_failed old mid new Makes filled survives clean =
    let early : HasCleanDisk mid = omega (arith, survives.clean, clean) in
    λ db left. elim (survives.crash clean db left) [
      | inl earlier ↦ elim (filled.crash early db earlier) [ inl before ↦ inl before | inr none ↦ absurd none ]
      | inr none ↦ absurd none
    ]

-- where nothing is done
pub file_still : (part : Part) (s : State) → LeavesFile part s s
file_still part s = record { crash = λ db left. inl left; stays = λ blank older is_open. refl }

-- what is made of a file of this kind
pub leaves_more : (old new : State) (One Two : Database → Type 0) → ((d : Database) → One d → Two d)
    → LeavesOldOr One old new → LeavesOldOr Two old new
leaves_more old new One Two says left = λ db h. elim (left db h) [
  | inl before ↦ inl before
  | inr made ↦ inr (made.0, made.1, made.2, says made.0 made.3)
]
