-- Calls that read data sets, one behind the other: what they leave, and what they find.
use Rattle.std.proofs.Common.{◌≡◌, ◌∙◌, ◌⊎◌, ◌↔◌, inl, inr, ℕ, ◌<◌, ◌≤◌, Bool, IsTrue, true, false, true≢false, List, length, get_or, All, Contains, map as mapped, Option, Some, None, Result, Ok, Err, refl, sym, ap, subst, arith}
use Rattle.std.specs.FinMap as map
use Rattle.std.specs.FinSet as set
use Rattle.std.specs.declared.cmp.Ordering.TheVariants.{Equal}
use Rattle.std.proofs.lemmas.Cmp.{tied_itself}
use Rattle.std.proofs.lemmas.List.{get_or-map, length-map}
use Rattle.std.proofs.lemmas.List.Elements.{All-contains, All-map, Contains-get_or}
use Rattle.sqlite.specs.State.{State, HasCleanDisk}
use Rattle.sqlite.specs.Tree.{Trees}
use Rattle.dr_base.specs.Texts.{Text}
use Rattle.dr_ledger.specs.declared.fault.LedgerFault.{LedgerFault}
use Rattle.dr_ledger.specs.declared.fault.LedgerFault.TheVariants as fault
use Rattle.dr_ledger.specs.declared.item.Progress.{Progress}
use Rattle.dr_ledger.specs.Bodies.{Bodies, HasAll, IsNeeded, IsThere}
use Rattle.dr_ledger.specs.Books.{Book, Line, is_queued}
use Rattle.dr_ledger.specs.Pairs.{Pair, pair_cmp}
use Rattle.dr_ledger.specs.Replies.{AreKept, Counts, LastsAfter, PremiseLasts}
use Rattle.dr_ledger.proofs.Maps.{text_pairs}
use Rattle.dr_ledger_views.proofs.Searching.{at_place}
use Rattle.dr_store_schema.specs.Books.{book_of}
use Rattle.dr_store_calls.specs.Calling.{IsSafe}
use Rattle.dr_store.specs.Owning.{bodies_with}
use Rattle.dr_store.specs.Pasts.{whole_book}
use Rattle.dr_store.specs.Reading.{FindsUnreadable, KeptAreThere, LeavesAsRead, QueuedAreThere, TellsWhereNeeded, TellsWhereQueued}
use Rattle.dr_store.proofs.Among.{place_of}

-- ---- what is left

lasts_as : {A : Type 0} (r : Result A LedgerFault) {P Q : Type 0} → (P → Q) → LastsAfter r P → LastsAfter r Q
lasts_as (Ok value) f h = f h
lasts_as (Err fault.Store) f h = tt
lasts_as (Err fault.Memory) f h = tt
lasts_as (Err fault.NoLine) f h = f h
lasts_as (Err fault.Conflict) f h = f h
lasts_as (Err fault.NotWaiting) f h = f h
lasts_as (Err fault.NotHeld) f h = f h
lasts_as (Err fault.NotOver) f h = f h

same_count : {A : Type 0} (x : A) (a b : ℕ) → Counts {A = A} (Ok x) a b → b ≡ a
same_count x a b counts = elim counts.no_other [
  | inl stored ↦ absurd (let f : ⊥ = cc in f)
  | inr same ↦ same
]

pub counted_so : {A : Type 0} (r : Result A LedgerFault) (a b : ℕ) → b ≡ a → (r ≡ Err fault.Store → ⊥) → Counts r a b
counted_so r a b same none = record {
  never_falls = omega (arith, same);
  has_cause = λ stored. absurd (none stored);
  no_other = inr same;
}

-- nothing was called
pub leaves_nothing : {A : Type 0} (all : List Line) (x : A) (read_of : List ℕ → Option (List ℕ)) (Is : Type 0) (s : State) (n : ℕ) → LeavesAsRead {A = A} all (Ok x) read_of read_of Is Is s s n n
leaves_nothing all x read_of Is s n = record {
  same = λ is safe. (refl, refl);
  stood = λ is safe. (safe, is);
  lasts = record { trusted = λ trusts. trusts; lasts = λ trusts stands. stands };
  counts = counted_so (Ok x) n n refl (λ stored. let f : ⊥ = cc in f);
}

module _ {A : Type 0} {all : List Line} (x : A) (was_of read_of : List ℕ → Option (List ℕ)) (Was Is : Type 0) (old new : State) (before now : ℕ) (l : LeavesAsRead {A = A} all (Ok x) was_of read_of Was Is old new before now) where
  -- another answer is given
  pub leaves_ok : {B : Type 0} (y : B) → LeavesAsRead {A = B} all (Ok y) was_of read_of Was Is old new before now
  leaves_ok y = record {
    same = l.same;
    stood = l.stood;
    lasts = record { trusted = l.lasts.trusted; lasts = l.lasts.lasts };
    counts = counted_so (Ok y) before now (same_count x before now l.counts) (λ stored. let f : ⊥ = cc in f);
  }

  -- there is no memory for an answer
  pub leaves_memory : {B : Type 0} → LeavesAsRead {A = B} all (Err fault.Memory) was_of read_of Was Is old new before now
  leaves_memory = record {
    same = l.same;
    stood = l.stood;
    lasts = record { trusted = l.lasts.trusted; lasts = tt };
    counts = counted_so (Err fault.Memory) before now (same_count x before now l.counts) (λ stored. let f : ⊥ = cc in f);
  }

-- one call is made behind another that had an answer
module _ {A B : Type 0} {all : List Line} (x : A) (r : Result B LedgerFault) (was_of mid_of read_of : List ℕ → Option (List ℕ)) (Was Mid Is : Type 0) (old mid new : State) (before between now : ℕ)
    (one : LeavesAsRead {A = A} all (Ok x) was_of mid_of Was Mid old mid before between) (two : LeavesAsRead {A = B} all r mid_of read_of Mid Is mid new between now) where
  pub leaves_then : LeavesAsRead {A = B} all r was_of read_of Was Is old new before now
  leaves_then = record {
    same = λ is safe.
        let stood = two.stood is safe in
        let first = one.same stood.1 stood.0 in
        let second = two.same is safe in
        (second.0 ∙ first.0, second.1 ∙ first.1);
    stood = λ is safe. let stood = two.stood is safe in one.stood stood.1 stood.0;
    lasts = record {
      trusted = λ trusts. one.lasts.trusted (two.lasts.trusted trusts);
      lasts = lasts_then r one.lasts two.lasts;
    };
    counts = subst (λ n. Counts r n now) (same_count x before between one.counts) two.counts;
  }
    where
      lasts_then : {Trusted Trusting Trusts Stood Standing Stands : Type 0} (r : Result B LedgerFault) → PremiseLasts {A = A} (Ok x) Trusted Trusting Stood Standing → PremiseLasts {A = B} r Trusting Trusts Standing Stands → LastsAfter r (Trusts → Stood → Stands)
      lasts_then r p q = lasts_as r (λ h trusts stands. h trusts (p.lasts (q.trusted trusts) stands)) q.lasts

-- ---- what is told

-- what is told after some calls is told of what was there before
pub told_before : (all : List Line) (was_of mid_of : List ℕ → Option (List ℕ)) (base mid : Trees) → (whole_book all mid ≡ whole_book all base) × (bodies_with mid_of mid ≡ bodies_with was_of base) → (uid : Text) (told : Bool) → TellsWhereNeeded mid_of mid uid told → TellsWhereNeeded was_of base uid told
told_before all was_of mid_of base mid same uid told h =
    subst (λ (b : Book). IsNeeded b uid → IsTrue told ↔ IsThere (bodies_with was_of base) uid) same.0
    (subst (λ (o : Bodies). IsNeeded (whole_book all mid) uid → IsTrue told ↔ IsThere o uid) same.1 h)

pub queued_before : (all : List Line) (was_of mid_of : List ℕ → Option (List ℕ)) (base mid : Trees) → (whole_book all mid ≡ whole_book all base) × (bodies_with mid_of mid ≡ bodies_with was_of base) → (row : Pair × Progress) (told : Bool) → TellsWhereQueued mid_of mid row told → TellsWhereQueued was_of base row told
queued_before all was_of mid_of base mid same row told (inl over) = inl over
queued_before all was_of mid_of base mid same row told (inr h) = inr (h.0, told_before all was_of mid_of base mid same row.0.0 told h.1)

module _ (read_of : List ℕ → Option (List ℕ)) (db : Trees) where
  -- where it is needed, the data set of the uid is there
  abbrev pub HasIts : Text → Type 0
  HasIts uid = IsNeeded (book_of db) uid → IsThere (bodies_with read_of db) uid

  abbrev pub KeptHasIts : Text × ℕ → Type 0
  KeptHasIts e = HasIts e.0

  abbrev pub RowHasIts : Pair × Progress → Type 0
  RowHasIts row = is_queued row.1 ≡ true → HasIts row.0.0

  pub has_told : (uid : Text) (told : Bool) → told ≡ true → TellsWhereNeeded read_of db uid told → HasIts uid
  has_told uid told is h need = (h need).0 is

  pub row_told : (row : Pair × Progress) (told : Bool) → told ≡ true → TellsWhereQueued read_of db row told → RowHasIts row
  row_told row told is (inl over) queued = absurd (true≢false (sym queued ∙ over.0))
  row_told row told is (inr h) queued = has_told row.0.0 told is h.1

  -- ---- of kept instances

  module _ (kept : List (Text × ℕ)) (are : AreKept (book_of db) kept) where
    abbrev Uids : List Text
    Uids = mapped (λ (e : Text × ℕ). e.0) kept

    pub all_kept : All KeptHasIts kept → KeptAreThere (book_of db) (bodies_with read_of db)
    all_kept all uid has = All-contains HasIts Uids uid (All-map HasIts (λ (e : Text × ℕ). e.0) kept all) ((are.0.each uid).1 has) (inl has)

    pub kept_wants : (i : ℕ) (d : Text × ℕ) (uid : Text) (told : Bool) → i < length kept → (get_or kept i d).0 ≡ uid → told ≡ false → TellsWhereNeeded read_of db uid told → FindsUnreadable KeptAreThere read_of db (Some uid)
    kept_wants i d uid told within is isnt h = (needed, λ there. true≢false (sym ((h needed).1 there) ∙ isnt))
      where
        at : Contains Uids uid
        at = subst (Contains Uids) (get_or-map (λ (e : Text × ℕ). e.0) kept i d d.0 within ∙ is) (Contains-get_or Uids i d.0 (subst (λ k. i < k) (sym (length-map kept (λ (e : Text × ℕ). e.0))) within))

        needed : IsNeeded (book_of db) uid
        needed = inl ((are.0.each uid).0 at)

  -- ---- of rows

  abbrev Rows : List (Pair × Progress)
  Rows = map.entries (book_of db).rows

  pub all_rows : All RowHasIts Rows → QueuedAreThere (book_of db) (bodies_with read_of db)
  all_rows all uid dest row there queued =
      let place = place_of text_pairs (uid, dest) row Rows (sym (map.get-entries (book_of db).rows (uid, dest)) ∙ there) in
      subst RowHasIts (place.1.1 ((uid, dest), row)) (all place.0 ((uid, dest), row) place.1.0) queued (inr (dest, row, there, queued))

  row_at : (i : ℕ) (row : Pair × Progress) → i < length Rows → get_or Rows i row ≡ row → map.get (book_of db).rows row.0 ≡ Some row.1
  row_at i row within is =
      let P : Pair × Progress → Type 0 = λ e. pair_cmp e.0 row.0 ≡ Equal in
      map.get-entries (book_of db).rows row.0 ∙ ((at_place text_pairs.total row.0 Rows i row (map.entries_sorted (book_of db).rows) within (subst P (sym is) (tied_itself text_pairs.total row.0))).0 ∙ ap (λ (e : Pair × Progress). Some e.1) is)

  pub rows_want : (i : ℕ) (row : Pair × Progress) (told : Bool) → i < length Rows → get_or Rows i row ≡ row → told ≡ false → TellsWhereQueued read_of db row told → FindsUnreadable QueuedAreThere read_of db (Some row.0.0)
  rows_want i row told within is isnt (inl over) = absurd (true≢false (sym over.1 ∙ isnt))
  rows_want i row told within is isnt (inr h) = (needed, λ there. true≢false (sym ((h.1 needed).1 there) ∙ isnt))
    where
      needed : IsNeeded (book_of db) row.0.0
      needed = inr (row.0.1, row.1, row_at i row within is, h.0)

  -- ---- of both

  pub has_all : KeptAreThere (book_of db) (bodies_with read_of db) → QueuedAreThere (book_of db) (bodies_with read_of db) → HasAll (book_of db) (bodies_with read_of db)
  has_all kept queued uid (inl has) = kept uid has
  has_all kept queued uid (inr (dest, row, there, is)) = queued uid dest row there is

-- ---- what is found

-- what is said of the book's data sets says nothing of its lines
module _ (all : List Line) (HaveTheirs : Book → Bodies → Type 0) (wholly : (db : Trees) (bodies : Bodies) → HaveTheirs (book_of db) bodies → HaveTheirs (whole_book all db) bodies) (back : (db : Trees) (bodies : Bodies) → HaveTheirs (whole_book all db) bodies → HaveTheirs (book_of db) bodies)
    (was_of mid_of : List ℕ → Option (List ℕ)) (base mid : Trees) (same : (whole_book all mid ≡ whole_book all base) × (bodies_with mid_of mid ≡ bodies_with was_of base)) where
  pub finds_before : (found : Option Text) → FindsUnreadable HaveTheirs mid_of mid found → FindsUnreadable HaveTheirs was_of base found
  finds_before None h =
      back base (bodies_with was_of base)
      (subst (λ (b : Book). HaveTheirs b (bodies_with was_of base)) same.0
      (subst (λ (o : Bodies). HaveTheirs (whole_book all mid) o) same.1 (wholly mid (bodies_with mid_of mid) h)))
  finds_before (Some uid) h =
      (subst (λ (b : Book). IsNeeded b uid) same.0 h.0, λ there. h.1 (subst (λ (o : Bodies). IsThere o uid) (sym same.1) there))

pub finds_all : (read_of : List ℕ → Option (List ℕ)) (db : Trees) → KeptAreThere (book_of db) (bodies_with read_of db) → (found : Option Text) → FindsUnreadable QueuedAreThere read_of db found → FindsUnreadable HasAll read_of db found
finds_all read_of db kept None queued = has_all read_of db kept queued
finds_all read_of db kept (Some uid) h = h
