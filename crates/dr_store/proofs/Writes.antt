-- Calls on a ledger that keeps its tables.
use Rattle.std.proofs.Common.{◌≡◌, ◌≢◌, ◌⊎◌, inl, inr, ℕ, List, Option, ◌+◌, ◌≤◌, ◌<◌, ◌^◌, ◌-◌, min, IsTrue, false, Result, Ok, Err, OnErr, OnOk, eq-or-lt_of_le, refl, sym, ap, subst, ◌∙◌, arith}
use Rattle.std.proofs.Math.Logic.{∥∥₁_elim, ∥∥₁_map}
use mathlib.Core.Bool.{Bool-set}
use Rattle.std.proofs.Math.Nat.{min-eq_left, min-eq_right}
use Rattle.sqlite.specs.State.{State, HasCleanDisk}
use Rattle.sqlite.specs.Tree.{Trees}
use Rattle.sqlite_trees.specs.Props.{Trees-set}
use Rattle.sqlite_trees.specs.View.{doubt}
use Rattle.dr_site.specs.Parts.{Part}
use Rattle.dr_ledger.specs.declared.fault.LedgerFault.{LedgerFault}
use Rattle.dr_ledger.specs.declared.fault.LedgerFault.TheVariants as fault
use Rattle.dr_ledger.specs.Books.{Line}
use Rattle.dr_ledger.specs.Refusals.{Arms}
use Rattle.dr_ledger.specs.Replies.{Counts, HasRisen, IsLastingFault, PremiseLasts, LastsAfter, Reads}
use Rattle.dr_store_sealed.specs.declared.seal.Seal.{Seal}
use Rattle.dr_store_past.specs.Lines.{past_in}
use Rattle.dr_store_calls.specs.Calling.{Called, IsKept, IsLedgerOf, IsLeftLedger, IsSafe, Looked, Nothing}
use Rattle.dr_store_calls.proofs.Reading.{reads_as}
use Rattle.dr_store.specs.Counting.{failures_after}
use Rattle.dr_store.specs.Owning.{HaveOwn, KeepsOwn, bodies_with}
use Rattle.dr_store.specs.Pasts.{past_of, whole_book}
use Rattle.dr_store.specs.Standing.{past_kept}
use Rattle.dr_store.specs.Surviving.{MakesLedger, Wrote}
use Rattle.dr_store.proofs.Stable.{Stable}

-- ---- what holds of any answer

pub counts : {A : Type 0} (r : Result A LedgerFault) (before now : ℕ) → now ≡ failures_after r before → before ≤ 2 ^ 64 - 1 → Counts r before now
counts (Ok value) before now is low = record { never_falls = omega (arith, is); has_cause = λ e. absurd (let f : ⊥ = cc in f); no_other = inr is }
counts (Err fault.Store) before now is low = record { never_falls = omega (arith, is, low); has_cause = λ e. risen before now is low; no_other = inl refl }
  where
    risen : (before now : ℕ) → now ≡ min (2 ^ 64 - 1) (before + 1) → before ≤ 2 ^ 64 - 1 → HasRisen before now
    risen before now is low = elim (eq-or-lt_of_le low) [
      | inl full ↦ inr (is ∙ min-eq_left (omega (arith, full)))
      | inr room ↦ inl (let e : now ≡ before + 1 = is ∙ min-eq_right (omega (arith, room)) in omega (arith, e))
    ]
counts (Err fault.NoLine) before now is low = record { never_falls = omega (arith, is); has_cause = λ e. absurd (let f : ⊥ = cc in f); no_other = inr is }
counts (Err fault.Conflict) before now is low = record { never_falls = omega (arith, is); has_cause = λ e. absurd (let f : ⊥ = cc in f); no_other = inr is }
counts (Err fault.NotWaiting) before now is low = record { never_falls = omega (arith, is); has_cause = λ e. absurd (let f : ⊥ = cc in f); no_other = inr is }
counts (Err fault.NotHeld) before now is low = record { never_falls = omega (arith, is); has_cause = λ e. absurd (let f : ⊥ = cc in f); no_other = inr is }
counts (Err fault.NotOver) before now is low = record { never_falls = omega (arith, is); has_cause = λ e. absurd (let f : ⊥ = cc in f); no_other = inr is }
counts (Err fault.Memory) before now is low = record { never_falls = omega (arith, is); has_cause = λ e. absurd (let f : ⊥ = cc in f); no_other = inr is }

-- no call is told to be refused
pub arms : {A : Type 0} (Would : Type 0) (r : Result A LedgerFault) → Arms Would false r false
arms Would (Ok value) = (refl, refl)
arms Would (Err fault.Store) = inl refl
arms Would (Err fault.NoLine) = refl
arms Would (Err fault.Conflict) = refl
arms Would (Err fault.NotWaiting) = refl
arms Would (Err fault.NotHeld) = refl
arms Would (Err fault.NotOver) = refl
arms Would (Err fault.Memory) = refl

-- what is read is stable where what it shows is
pub reads_stable : {A : Type 0} (r : Result A LedgerFault) (Shows : A → Type 0) → ((a : A) → Stable (Shows a)) → Stable (Reads r Shows)
reads_stable (Ok a) Shows f h = f a h
reads_stable (Err fault.Store) Shows f h = tt
reads_stable (Err fault.Memory) Shows f h = tt
reads_stable (Err fault.NoLine) Shows f h = ∥∥₁_elim h (λ x y. absurd x) (λ x. x)
reads_stable (Err fault.Conflict) Shows f h = ∥∥₁_elim h (λ x y. absurd x) (λ x. x)
reads_stable (Err fault.NotWaiting) Shows f h = ∥∥₁_elim h (λ x y. absurd x) (λ x. x)
reads_stable (Err fault.NotHeld) Shows f h = ∥∥₁_elim h (λ x y. absurd x) (λ x. x)
reads_stable (Err fault.NotOver) Shows f h = ∥∥₁_elim h (λ x y. absurd x) (λ x. x)

-- ---- a call on a ledger that keeps its tables

-- What is known of a call on the tables of a ledger, which are those of this part's before it and of that one's after it, over that past. Their cells are in use before it as `Uses` says.
pub record Done {A : Type 0} (past : List Line) (Uses : List ℕ → Type 0) (Apart : List ℕ → List ℕ → Type 0) (n m : ℕ) (part next : Part) (r : Result A LedgerFault) (old new : State) (Answers Makes : Trees → Trees → Type 0) : Type 0 where
  pub clean : doubt old.is_clean ≤ doubt new.is_clean
  pub was_open : HasCleanDisk new → IsTrue new.is_open → IsTrue old.is_open
  pub lasts : HasCleanDisk new → IsKept past n part old → LastsAfter r (IsTrue new.is_open)
  pub kept : HasCleanDisk new → IsTrue new.is_open → IsKept past n part old → IsKept past m next new
  pub answers : HasCleanDisk new → IsTrue new.is_open → KeepsOwn past Uses Apart n part old → Answers old.committed.trees new.committed.trees
  pub crash : HasCleanDisk new → IsKept past n part old → (db : Trees) → new.may_leave db → old.may_leave db ⊎ Makes old.committed.trees db

-- tables that are left over that past are left over their own
pub left_whole : (all : List Line) (seal : Seal) (n : ℕ) (part : Part) (db : Trees) → IsLeftLedger (past_in all seal) n part db → IsLeftLedger (past_of all db) n part db
left_whole all seal n part db l = subst (λ past. IsLeftLedger past n part db) (sym (past_kept all seal n part db l.ledger)) l

pub called : {A : Type 0} (past : List Line) (Uses : List ℕ → Type 0) (Apart : List ℕ → List ℕ → Type 0) (n m : ℕ) (part : Part) (r : Result A LedgerFault) (old new : State) (Answers Makes : Trees → Trees → Type 0) → Called n m part r old new Nothing Answers Makes
    → Done past Uses Apart n m part part r old new Answers Makes
called past Uses Apart n m part r old new Answers Makes c = record {
  clean = c.clean;
  was_open = c.was_open;
  lasts = λ clean k. c.lasts clean k tt;
  kept = λ clean is_open k. c.kept clean is_open k tt;
  answers = λ clean is_open k. c.answers clean is_open k.kept tt;
  crash = λ clean k db left. elim (c.crash clean k tt db left) [ inl before ↦ inl before | inr made ↦ inr made.1 ];
}

-- the same, where what it makes is a ledger's tables, of which more is said with their past
pub called_whole : {A : Type 0} (all : List Line) (seal : Seal) (Uses : List ℕ → Type 0) (Apart : List ℕ → List ℕ → Type 0) (n m : ℕ) (part : Part) (r : Result A LedgerFault) (old new : State) (Answers Makes Whole : Trees → Trees → Type 0)
    → ((db : Trees) → IsLedgerOf (past_in all seal) n part old.committed.trees → IsLedgerOf (past_in all seal) (n + 1) part db → Makes old.committed.trees db → Whole old.committed.trees db) → Called n m part r old new Nothing Answers Makes
    → Done (past_in all seal) Uses Apart n m part part r old new Answers (MakesLedger all part Whole)
called_whole all seal Uses Apart n m part r old new Answers Makes Whole says c = record {
  clean = c.clean;
  was_open = c.was_open;
  lasts = λ clean k. c.lasts clean k tt;
  kept = λ clean is_open k. c.kept clean is_open k tt;
  answers = λ clean is_open k. c.answers clean is_open k.kept tt;
  crash = λ clean k db left. elim (c.crash clean k tt db left) [
    | inl before ↦ inl before
    | inr made ↦ inr ((n + 1, left_whole all seal (n + 1) part db made.0), says db k.ledger made.0.ledger made.1)
  ];
}

-- what it answers says this too, of the tables of ledgers whose cells are in use
pub answering : {A : Type 0} (past : List Line) (Uses : List ℕ → Type 0) (Apart : List ℕ → List ℕ → Type 0) (n m : ℕ) (part next : Part) (r : Result A LedgerFault) (old new : State) (Answers Says Makes : Trees → Trees → Type 0)
    → (IsLedgerOf past n part old.committed.trees → IsLedgerOf past m next new.committed.trees → HaveOwn Uses Apart old.committed.trees → Answers old.committed.trees new.committed.trees → Says old.committed.trees new.committed.trees) → Done past Uses Apart n m part next r old new Answers Makes → Done past Uses Apart n m part next r old new Says Makes
answering past Uses Apart n m part next r old new Answers Says Makes says d = record {
  clean = d.clean;
  was_open = d.was_open;
  lasts = d.lasts;
  kept = d.kept;
  answers = λ clean is_open k. says k.kept.ledger (d.kept clean is_open k.kept).ledger k.own (d.answers clean is_open k);
  crash = d.crash;
}

is_open : (s : State) → ∥ IsTrue s.is_open ∥₁ → IsTrue s.is_open
is_open s h = ∥∥₁_elim h (Bool-set _ _) (λ x. x)

module _ {A : Type 0} {past : List Line} {Uses : List ℕ → Type 0} {Apart : List ℕ → List ℕ → Type 0} (n m : ℕ) (part next : Part) (r : Result A LedgerFault) (old new : State) (Answers Makes : Trees → Trees → Type 0) (kept : IsSafe old → ∥ KeepsOwn past Uses Apart n part old ∥₁)
    (c : Done past Uses Apart n m part next r old new Answers Makes) where
  pub was_safe : IsSafe new → IsSafe old
  was_safe safe = (omega (arith, c.clean, safe.0), c.was_open safe.0 safe.1)

  pub still_kept : (Uses' : List ℕ → Type 0) → (IsKept past n part old → Answers old.committed.trees new.committed.trees → HaveOwn Uses Apart old.committed.trees → HaveOwn Uses' Apart new.committed.trees)
      → IsSafe new → ∥ KeepsOwn past Uses' Apart m next new ∥₁
  still_kept Uses' owns safe = ∥∥₁_map (kept (was_safe safe)) (λ k. record { kept = c.kept safe.0 safe.1 k.kept; own = owns k.kept (c.answers safe.0 safe.1 k) k.own })

  pub answered : Stable (Answers old.committed.trees new.committed.trees) → IsSafe new → Answers old.committed.trees new.committed.trees
  answered stable safe = stable (∥∥₁_map (kept (was_safe safe)) (λ k. c.answers safe.0 safe.1 k))

  pub lasting : PremiseLasts r (HasCleanDisk old) (HasCleanDisk new) (IsSafe old) (IsSafe new)
  lasting = record { trusted = λ clean. omega (arith, c.clean, clean); lasts = go r (λ clean safe. ∥∥₁_map (kept safe) (λ k. c.lasts clean k.kept)) }
    where
      go : (q : Result A LedgerFault) → (HasCleanDisk new → IsSafe old → ∥ LastsAfter q (IsTrue new.is_open) ∥₁) → LastsAfter q (HasCleanDisk new → IsSafe old → IsSafe new)
      go (Ok value) f = λ clean safe. (clean, is_open new (f clean safe))
      go (Err fault.Store) f = tt
      go (Err fault.Memory) f = tt
      go (Err fault.NoLine) f = λ clean safe. (clean, is_open new (f clean safe))
      go (Err fault.Conflict) f = λ clean safe. (clean, is_open new (f clean safe))
      go (Err fault.NotWaiting) f = λ clean safe. (clean, is_open new (f clean safe))
      go (Err fault.NotHeld) f = λ clean safe. (clean, is_open new (f clean safe))
      go (Err fault.NotOver) f = λ clean safe. (clean, is_open new (f clean safe))

-- ---- a call that writes

module _ {A : Type 0} {past : List Line} {Uses : List ℕ → Type 0} {Apart : List ℕ → List ℕ → Type 0} (n m : ℕ) (part next : Part) (r : Result A LedgerFault) (old new : State) (Answers Makes : Trees → Trees → Type 0) (kept : IsSafe old → ∥ KeepsOwn past Uses Apart n part old ∥₁)
    (c : Done past Uses Apart n m part next r old new Answers Makes)
    (was_settled : (db : Trees) → IsTrue old.is_open → old.may_leave db → db ≡ old.committed.trees)
    (is_settled : (db : Trees) → IsTrue new.is_open → new.may_leave db → db ≡ new.committed.trees)
    (answers : Stable (Answers old.committed.trees new.committed.trees)) where
  left : HasCleanDisk new → IsSafe old → (db : Trees) → new.may_leave db → ∥ (db ≡ old.committed.trees) ⊎ Makes old.committed.trees db ∥₁
  left clean safe db may = ∥∥₁_map (kept safe) (λ k. elim (c.crash clean k.kept db may) [ inl before ↦ inl (was_settled db safe.1 before) | inr made ↦ inr made ])

  stands : (q : Result A LedgerFault) → LastsAfter q (HasCleanDisk new → IsSafe old → IsSafe new) → HasCleanDisk new → IsSafe old → OnOk q ((db : Trees) → new.may_leave db → db ≡ new.committed.trees)
  stands (Ok value) lasts clean safe = λ db may. is_settled db (lasts clean safe).1 may
  stands (Err why) lasts clean safe = tt

  pub wrote : Wrote r old new Answers Makes
  wrote =
      let lasts = lasting n m part next r old new Answers Makes kept c in
      record {
        answers = answered n m part next r old new Answers Makes kept c answers;
        stood = was_safe n m part next r old new Answers Makes kept c;
        lasts = lasts;
        crash = left;
        durable = stands r lasts.lasts;
      }

-- ---- what a crash leaves has its cells

module _ {A : Type 0} {past : List Line} {Uses : List ℕ → Type 0} {Apart : List ℕ → List ℕ → Type 0} (n m : ℕ) (part next : Part) (r : Result A LedgerFault) (old new : State) (Answers Makes : Trees → Trees → Type 0) (kept : IsSafe old → ∥ KeepsOwn past Uses Apart n part old ∥₁)
    (c : Done past Uses Apart n m part next r old new Answers Makes)
    (was_settled : (db : Trees) → IsTrue old.is_open → old.may_leave db → db ≡ old.committed.trees)
    (is_settled : (db : Trees) → IsTrue new.is_open → new.may_leave db → db ≡ new.committed.trees) where
  -- after a call that was accepted it is what was committed, and after another what was there, or what the call makes
  pub covered : (P : Trees → Type 0)
      → (IsKept past n part old → Answers old.committed.trees new.committed.trees → HaveOwn Uses Apart old.committed.trees → P new.committed.trees)
      → OnErr r (IsKept past n part old → HaveOwn Uses Apart old.committed.trees → (db : Trees) → (db ≡ old.committed.trees) ⊎ Makes old.committed.trees db → P db)
      → HasCleanDisk new → IsSafe old → (db : Trees) → new.may_leave db → ∥ P db ∥₁
  covered P owns failed clean safe db may = go r (lasting n m part next r old new Answers Makes kept c).lasts failed
    where
      go : (q : Result A LedgerFault) → LastsAfter q (HasCleanDisk new → IsSafe old → IsSafe new)
          → OnErr q (IsKept past n part old → HaveOwn Uses Apart old.committed.trees → (db : Trees) → (db ≡ old.committed.trees) ⊎ Makes old.committed.trees db → P db)
          → ∥ P db ∥₁
      go (Ok value) lasts any =
          let now = lasts clean safe in
          subst (λ t. ∥ P t ∥₁) (sym (is_settled db now.1 may)) (∥∥₁_map (kept safe) (λ k. owns k.kept (c.answers now.0 now.1 k) k.own))
      go (Err why) lasts owns_left =
          ∥∥₁_map (kept safe) (λ k. owns_left k.kept k.own db (elim (c.crash clean k.kept db may) [ inl before ↦ inl (was_settled db safe.1 before) | inr made ↦ inr made ]))

-- ---- what is said of the tables and of a shelf

-- the premise of a ledger over tables lasts with that of its shelf
pub with_shelf : {A : Type 0} (r : Result A LedgerFault) (Was Is Trusted Trusts Stood Stands : Type 0) → (Is → Was) → (Is → PremiseLasts r Trusted Trusts Stood Stands) → PremiseLasts r (Trusted × Was) (Trusts × Is) (Stood × Was) (Stands × Is)
with_shelf {A} r Was Is Trusted Trusts Stood Stands was l = record { trusted = λ t. ((l t.1).trusted t.0, was t.1); lasts = go r (λ is. (l is).lasts) }
  where
    go : (q : Result A LedgerFault) → (Is → LastsAfter q (Trusts → Stood → Stands)) → LastsAfter q (Trusts × Is → Stood × Was → Stands × Is)
    go (Ok value) f = λ t s. (f t.1 t.0 s.0, t.1)
    go (Err fault.Store) f = tt
    go (Err fault.Memory) f = tt
    go (Err fault.NoLine) f = λ t s. (f t.1 t.0 s.0, t.1)
    go (Err fault.Conflict) f = λ t s. (f t.1 t.0 s.0, t.1)
    go (Err fault.NotWaiting) f = λ t s. (f t.1 t.0 s.0, t.1)
    go (Err fault.NotHeld) f = λ t s. (f t.1 t.0 s.0, t.1)
    go (Err fault.NotOver) f = λ t s. (f t.1 t.0 s.0, t.1)

-- ---- a call that reads

module _ {A : Type 0} {past : List Line} {Uses : List ℕ → Type 0} {Apart : List ℕ → List ℕ → Type 0} (n : ℕ) (part : Part) (r : Result A LedgerFault) (old new : State) (Shows : Trees → A → Type 0) (kept : IsSafe old → ∥ KeepsOwn past Uses Apart n part old ∥₁)
    (l : Looked n part r old new Shows) where
  abbrev Same : Trees → Trees → Type 0
  Same base db = (db ≡ base) × Reads r (Shows base)

  done : Done past Uses Apart n n part part r old new Same (λ base db. ⊥)
  done = called past Uses Apart n n part r old new Same (λ base db. ⊥) l

  pub looked_safe : IsSafe new → IsSafe old
  looked_safe = was_safe n n part part r old new Same (λ base db. ⊥) kept done

  -- where the shelf was read too
  pub looked_kept_by : (Uses' : List ℕ → Type 0) → (HaveOwn Uses Apart old.committed.trees → HaveOwn Uses' Apart old.committed.trees) → IsSafe new → ∥ KeepsOwn past Uses' Apart n part new ∥₁
  looked_kept_by Uses' still = still_kept n n part part r old new Same (λ base db. ⊥) kept done Uses' (λ k it own. subst (HaveOwn Uses' Apart) (sym it.0) (still own))

  pub looked_kept : IsSafe new → ∥ KeepsOwn past Uses Apart n part new ∥₁
  looked_kept = looked_kept_by Uses (λ own. own)

  pub looked_same : IsSafe new → new.committed.trees ≡ old.committed.trees
  looked_same safe = ∥∥₁_elim (kept (looked_safe safe)) (Trees-set _ _) (λ k. (l.answers safe.0 safe.1 k.kept tt).0)

  pub looked_books : (all : List Line) (read_of : List ℕ → Option (List ℕ)) → IsSafe new → (whole_book all new.committed.trees ≡ whole_book all old.committed.trees) × (bodies_with read_of new.committed.trees ≡ bodies_with read_of old.committed.trees)
  looked_books all read_of safe = (ap (whole_book all) (looked_same safe), ap (bodies_with read_of) (looked_same safe))

  pub looked_reads : ((a : A) → Stable (Shows old.committed.trees a)) → IsSafe new → Reads r (Shows old.committed.trees)
  looked_reads stable safe = reads_stable r (Shows old.committed.trees) stable (∥∥₁_map (kept (looked_safe safe)) (λ k. (l.answers safe.0 safe.1 k.kept tt).1))

  -- what it shows, where the cells are in use
  pub looked_says : (Says : A → Type 0) → (KeepsOwn past Uses Apart n part old → (a : A) → Shows old.committed.trees a → Says a) → ((a : A) → Stable (Says a)) → IsSafe new → Reads r Says
  looked_says Says says stable safe =
      reads_stable r Says stable (∥∥₁_map (kept (looked_safe safe)) (λ k. reads_as r (Shows old.committed.trees) Says (says k) (l.answers safe.0 safe.1 k.kept tt).1))

module _ {A : Type 0} {past : List Line} {Uses : List ℕ → Type 0} {Apart : List ℕ → List ℕ → Type 0} (n : ℕ) (part : Part) (r : Result A LedgerFault) (old new : State) (Shows : Trees → A → Type 0) where
  -- the premise lasts through a call that reads, where the cells are kept as long as the shelf is clean
  pub looked_lasting_by : (Was Is : Type 0) → (Is → Was) → (Was → IsSafe old → ∥ KeepsOwn past Uses Apart n part old ∥₁) → Looked n part r old new Shows → PremiseLasts r (HasCleanDisk old × Was) (HasCleanDisk new × Is) (IsSafe old × Was) (IsSafe new × Is)
  looked_lasting_by Was Is was kept l =
      let Same : Trees → Trees → Type 0 = λ base db. (db ≡ base) × Reads r (Shows base) in
      let None : Trees → Trees → Type 0 = λ base db. ⊥ in
      with_shelf r Was Is (HasCleanDisk old) (HasCleanDisk new) (IsSafe old) (IsSafe new) was (λ is. lasting n n part part r old new Same None (kept (was is)) (called past Uses Apart n n part r old new Same None l))

  pub looked_lasting : (Clean : Type 0) → (Clean → IsSafe old → ∥ KeepsOwn past Uses Apart n part old ∥₁) → Looked n part r old new Shows → PremiseLasts r (HasCleanDisk old × Clean) (HasCleanDisk new × Clean) (IsSafe old × Clean) (IsSafe new × Clean)
  looked_lasting Clean kept l = looked_lasting_by Clean Clean (λ clean. clean) kept l
