-- A sealing of the tables' lines, and of a past that takes them.
use Rattle.std.proofs.Common.{◌≡◌, ◌+◌, ◌-◌, ◌⊎◌, ◌++◌, inl, inr, ℕ, IsTrue, List, [], ◌∷◌, Option, Some, Result, Ok, Err, OnErr, OnOk, get_or, is_some, length, take, drop, map as mapped, refl, sym, ap, subst, ◌∙◌, arith}
use Rattle.std.proofs.Math.Logic.{∥∥₁_elim, ∥∥₁_map}
use Rattle.std.proofs.lemmas.List.{length-take, map-append, take_all, take_more}
use Rattle.std.proofs.lemmas.Option.{get_or_from_slice_get, slice_get_within}
use Rattle.std.specs.Prelude.{slice_get}
use Rattle.std.specs.Prelude.{option_and_then}
use Rattle.std.specs.FinMap as map
use mathlib.Core.Bool.{Bool-set}
use Rattle.sqlite.specs.State.{State, HasCleanDisk}
use Rattle.sqlite.specs.Tree.{Trees}
use Rattle.dr_site.specs.Parts.{Part}
use Rattle.dr_ledger.specs.declared.fault.LedgerFault.{LedgerFault}
use Rattle.dr_ledger.specs.declared.fault.LedgerFault.TheVariants as fault
use Rattle.dr_ledger.specs.Books.{Book, Line}
use Rattle.dr_ledger.specs.Replies.{IsLastingFault, LastsAfter, PremiseLasts}
use Rattle.dr_ledger_past.specs.Pasts.{with_past}
use Rattle.dr_ledger_history.specs.declared.line.JournalLine.{JournalLine}
use Rattle.dr_ledger_history.specs.Lines.{line_of}
use Rattle.dr_store_sealed.specs.declared.seal.Seal.{Seal}
use Rattle.dr_store_past.specs.declared.lines.PastLine.{PastLine}
use Rattle.dr_store_past.specs.Lines.{all_said, past_in}
use Rattle.dr_store_past.specs.Shown.{AreNextIn}
use Rattle.dr_store_schema.specs.Books.{bodies_of, book_of, items_of, lines_of}
use Rattle.dr_store_calls.specs.Calling.{IsKept, IsSafe, Looked, Nothing}
use Rattle.dr_store_calls.specs.LettingGo.{AreEachApart}
use Rattle.dr_store_calls.specs.Sealing.{HasSealed, Sealed}
use Rattle.dr_store_calls.proofs.Pasts.{sealings_keep_the_book}
use Rattle.dr_store_calls.proofs.Sealings.{looked_sealed}
use Rattle.dr_store.specs.Owning.{AreUsed, KeepsOwn, bodies_with, body_under, read_where}
use Rattle.dr_store.specs.Pasts.{whole_book}
use Rattle.dr_store.specs.Sealing.{AreOwnLines, HasLinesBehind, HaveMoments, HaveMomentsOf, IsSealedBeside, LeavesWithLines, SealsInto, line_by, moment_by}
use Rattle.dr_store.specs.Standing.{past_kept}
use Rattle.dr_store.proofs.Numbered.{in_two}
use Rattle.dr_store.proofs.Sets.{coded_bodies, coded_book}
use Rattle.dr_store.proofs.Stable.{by_code}

-- the first of some lines, and those that come next, are the first of all
taken_on : (m k : ℕ) (all : List Line) → take (m + k) all ≡ take m all ++ take k (drop m all)
taken_on m k all =
    let long = length-take m all in
    let less : m + k - m ≡ k = omega arith in
    sym (in_two m (m + k) all)
    ∙ ap (λ ls. ls ++ take (m + k - m) (drop m all)) (take_all (m + k) (take m all) (omega (arith, long)))
    ∙ ap (λ n. take m all ++ take n (drop m all)) less

pub on_ok : {A E P Q : Type 0} (r : Result A E) → (P → Q) → OnOk r P → OnOk r Q
on_ok (Ok value) f h = f h
on_ok (Err why) f h = tt

pub on_err : {A E P Q : Type 0} (r : Result A E) → (P → Q) → OnErr r P → OnErr r Q
on_err (Ok value) f h = tt
on_err (Err why) f h = f h

-- ---- lines with their moments

said_of : (all : List PastLine) → mapped line_of (mapped line_by all) ≡ all_said all
said_of [] = refl
said_of (line ∷ all) = ap (λ ls. line_of line.line ∷ ls) (said_of all)

-- those that are told of the tables, with the moments there, are the tables' own
pub own_lines : (db : Trees) (lines : List JournalLine) (all : List PastLine) → mapped line_of lines ≡ lines_of db → HaveMomentsOf db lines all → AreOwnLines db all
own_lines db lines all shown it = record {
  said = sym (said_of all) ∙ ap (mapped line_of) it.told ∙ shown;
  moments = it.beside;
}

-- one more has the moment in its place
pub one_with_moment : (ys : List JournalLine) (moments : List (ℕ × Option ℕ)) (at : ℕ) (all : List PastLine) (line : JournalLine) (entry : ℕ × Option ℕ) → slice_get moments at ≡ Some entry
    → HaveMoments ys (take at moments) all → HaveMoments (ys ++ line ∷ []) (take (at + 1) moments) (all ++ record { line = line; moment = entry.1 } ∷ [])
one_with_moment ys moments at all line entry is it =
    let within = slice_get_within moments at entry is in
    let same : entry ≡ get_or moments at entry = sym (get_or_from_slice_get moments at entry entry is) in
    record {
      told = map-append line_by all (record { line = line; moment = entry.1 } ∷ []) ∙ ap (λ ls. ls ++ line ∷ []) it.told;
      beside =
          map-append moment_by all (record { line = line; moment = entry.1 } ∷ [])
          ∙ ap (λ ms. ms ++ entry.1 ∷ []) it.beside
          ∙ sym (map-append (λ (e : ℕ × Option ℕ). e.1) (take at moments) (entry ∷ []))
          ∙ ap (λ (last : ℕ × Option ℕ). mapped (λ (e : ℕ × Option ℕ). e.1) (take at moments ++ last ∷ [])) same
          ∙ ap (mapped (λ (e : ℕ × Option ℕ). e.1)) (sym (take_more moments at entry within));
    }

-- The tables' lines were read, and then they were sealed up to that seal.
module _ {A : Type 0} (n : ℕ) (part : Part) (old mid new : State) (last : Seal) (lines : List PastLine) (Shows : Trees → A → Type 0) (a : A) (own : (db : Trees) → Shows db a → AreOwnLines db lines) (l : Looked n part (Ok a) old mid Shows) where
  module _ (r : Result (Unit {0}) LedgerFault) (s : Sealed n part last r mid new Nothing) where
    whole : Sealed n part last r old new Nothing
    whole = looked_sealed n part last old mid new Shows a r Nothing l s (λ db shown. tt)

    shown : {past : List Line} → HasCleanDisk new → IsKept past n part old → AreOwnLines old.committed.trees lines
    shown clean k =
        let early : HasCleanDisk mid = omega (arith, s.clean, clean) in
        own old.committed.trees (l.answers early (l.lasts early k tt) k tt).1

    -- whatever a crash leaves, the past has its lines
    pub left_with : (Holds : List PastLine → Type 0) (HasWritten : List PastLine → Seal → Type 0) (before : List PastLine) → (Holds before ⊎ Holds (before ++ lines)) → HasLinesBehind Holds HasWritten before lines last → LeavesWithLines Holds HasWritten before n part old new
    left_with Holds HasWritten before has behind past clean k db left = elim (whole.crash clean k tt db left) [
      | inl h ↦ inl (h, elim has [ inl same ↦ inl same | inr more ↦ inr (lines, more) ])
      | inr made ↦ inr (record { lines = lines; last = last; own = shown clean k; ledger = made.0; sealed = made.1; has = behind })
    ]

  -- they were refused
  pub sealed_not : (all : List Line) (from : Seal) (why : LedgerFault) → Sealed n part last (Err why) mid new Nothing → SealsInto all n part (Err why) old new from from
  sealed_not all from why s =
      let it = whole (Err why) s in
      record {
        clean = it.clean;
        was_open = it.was_open;
        lasts = λ clean k. it.lasts clean k tt;
        kept = λ clean is_open k. it.kept clean is_open k tt;
        book = λ clean is_open k. ap (whole_book all) (it.same clean is_open k tt);
        cells = λ clean is_open k. ap bodies_of (it.same clean is_open k tt);
      }

  -- they left the tables, and were the next ones of all
  module _ (all : List Line) (from : Seal) (counts : last.count ≡ from.count + length lines) (next : AreNextIn all from lines) (done : Unit {0}) (s : Sealed n part last (Ok done) mid new Nothing) where
    it : Sealed n part last (Ok done) old new Nothing
    it = whole (Ok done) s

    joined : HasCleanDisk new → IsKept (past_in all from) n part old → past_in all last ≡ past_in all from ++ lines_of old.committed.trees
    joined clean k =
        ap (λ count. take count all) counts
        ∙ taken_on from.count (length lines) all
        ∙ ap (λ ls. past_in all from ++ ls) (sym next ∙ (shown (Ok done) s clean k).said)

    same : HasCleanDisk new → IsTrue new.is_open → IsKept (past_in all from) n part old → whole_book all new.committed.trees ≡ whole_book all old.committed.trees
    same clean is_open k =
        let base = old.committed.trees in
        let db = new.committed.trees in
        let past = past_in all from in
        let made : HasSealed last part base db = it.sealed clean is_open k tt in
        ap (λ (seal : Seal). with_past (past_in all seal) (book_of db)) made.seal
        ∙ ap (λ (p : List Line). with_past p (book_of db)) (joined clean k)
        ∙ sealings_keep_the_book past last part base db made
        ∙ sym (ap (λ (p : List Line). with_past p (book_of base)) (past_kept all from n part base k.ledger))

    pub sealed_on : SealsInto all n part (Ok done) old new from last
    sealed_on = record {
      clean = it.clean;
      was_open = it.was_open;
      lasts = λ clean k. it.lasts clean k tt;
      kept = λ clean is_open k. subst (λ past. IsKept past n part new) (sym (joined clean k)) (it.kept clean is_open k tt);
      book = same;
      cells = λ clean is_open k. (it.sealed clean is_open k tt).bodies;
    }

  -- whatever was answered
  pub sealed_into : (r : Result (Unit {0}) LedgerFault) (all : List Line) (from to : Seal) → Sealed n part last r mid new Nothing → last.count ≡ from.count + length lines → OnOk r ((to ≡ last) × AreNextIn all from lines) → OnErr r (to ≡ from) → SealsInto all n part r old new from to
  sealed_into (Ok done) all from to s counts turned still = subst (SealsInto all n part (Ok done) old new from) (sym turned.0) (sealed_on all from counts turned.1 done s)
  sealed_into (Err why) all from to s counts turned still = subst (SealsInto all n part (Err why) old new from) (sym still) (sealed_not all from why s)

  pub left_of : (r : Result (Unit {0}) LedgerFault) → Sealed n part last r mid new Nothing → (Holds : List PastLine → Type 0) (HasWritten : List PastLine → Seal → Type 0) (before : List PastLine) → OnOk r (Holds (before ++ lines)) → OnErr r (Holds before × HasWritten lines last)
      → LeavesWithLines Holds HasWritten before n part old new
  left_of (Ok done) s Holds HasWritten before ok err = left_with (Ok done) s Holds HasWritten before (inr ok) (inr ok)
  left_of (Err why) s Holds HasWritten before ok err = left_with (Err why) s Holds HasWritten before (inl err.0) (inl err)

-- ---- where nothing was tried

module _ {A : Type 0} (n : ℕ) (part : Part) (old new : State) (Shows : Trees → A → Type 0) (q : Result A LedgerFault) (l : Looked n part q old new Shows) where
  stayed : {past : List Line} → HasCleanDisk new → IsTrue new.is_open → IsKept past n part old → new.committed.trees ≡ old.committed.trees
  stayed clean is_open k = (l.answers clean is_open k tt).0

  pub not_tried : (all : List Line) (from : Seal) (why : LedgerFault) → (HasCleanDisk new → IsKept (past_in all from) n part old → IsLastingFault why (IsTrue new.is_open)) → SealsInto all n part (Err why) old new from from
  not_tried all from why lasts = record {
    clean = l.clean;
    was_open = l.was_open;
    lasts = lasts;
    kept = λ clean is_open k. l.kept clean is_open k tt;
    book = λ clean is_open k. ap (whole_book all) (stayed clean is_open k);
    cells = λ clean is_open k. ap bodies_of (stayed clean is_open k);
  }

  pub left_as_was : (Holds : List PastLine → Type 0) (HasWritten : List PastLine → Seal → Type 0) (before : List PastLine) → Holds before → LeavesWithLines Holds HasWritten before n part old new
  left_as_was Holds HasWritten before has past clean k db left = elim (l.crash clean k tt db left) [
    | inl h ↦ inl (h, inl has)
    | inr none ↦ absurd none.1
  ]

-- ---- a ledger that keeps its tables

module _ {Uses : List ℕ → Type 0} {Apart : List ℕ → List ℕ → Type 0} (all : List Line) (n : ℕ) (part : Part) (r : Result (Unit {0}) LedgerFault) (old new : State) (from to : Seal) (s : SealsInto all n part r old new from to) (kept : IsSafe old → ∥ KeepsOwn (past_in all from) Uses Apart n part old ∥₁) where
  pub seal_stood : IsSafe new → IsSafe old
  seal_stood safe = (omega (arith, s.clean, safe.0), s.was_open safe.0 safe.1)

  pub seal_kept : IsSafe new → ∥ KeepsOwn (past_in all to) Uses Apart n part new ∥₁
  seal_kept safe = ∥∥₁_map (kept (seal_stood safe)) (λ k. record {
    kept = s.kept safe.0 safe.1 k.kept;
    own =
        let cells = s.cells safe.0 safe.1 k.kept in
        record { used = subst (AreUsed Uses) (sym cells) k.own.used; apart = subst (AreEachApart Apart) (sym cells) k.own.apart };
  })

  pub seal_same : (read_of : List ℕ → Option (List ℕ)) → IsSafe new → (whole_book all new.committed.trees ≡ whole_book all old.committed.trees) × (bodies_with read_of new.committed.trees ≡ bodies_with read_of old.committed.trees)
  seal_same read_of safe =
      let base = old.committed.trees in
      let db = new.committed.trees in (
        by_code coded_book (whole_book all db) (whole_book all base) (∥∥₁_map (kept (seal_stood safe)) (λ k. s.book safe.0 safe.1 k.kept)),
        by_code coded_bodies (bodies_with read_of db) (bodies_with read_of base) (∥∥₁_map (kept (seal_stood safe)) (λ k.
            same_sets read_of base db (ap (λ (b : Book). b.items) (s.book safe.0 safe.1 k.kept)) (s.cells safe.0 safe.1 k.kept))),
      )
    where
      same_sets : (read_of : List ℕ → Option (List ℕ)) (base db : Trees) → items_of db ≡ items_of base → bodies_of db ≡ bodies_of base → bodies_with read_of db ≡ bodies_with read_of base
      same_sets read_of base db items cells = λ i.
          map.retain_keys (map.from_entries (mapped (body_under read_of) (map.entries (cells i))))
          (λ uid. is_some (read_where (map.get (items i) uid) (option_and_then read_of (map.get (cells i) uid))))

  pub seal_lasts : PremiseLasts r (HasCleanDisk old) (HasCleanDisk new) (IsSafe old) (IsSafe new)
  seal_lasts = record { trusted = λ clean. omega (arith, s.clean, clean); lasts = go r (λ clean safe. ∥∥₁_map (kept safe) (λ k. s.lasts clean k.kept)) }
    where
      opened : ∥ IsTrue new.is_open ∥₁ → IsTrue new.is_open
      opened h = ∥∥₁_elim h (Bool-set _ _) (λ x. x)

      go : (q : Result (Unit {0}) LedgerFault) → (HasCleanDisk new → IsSafe old → ∥ LastsAfter q (IsTrue new.is_open) ∥₁) → LastsAfter q (HasCleanDisk new → IsSafe old → IsSafe new)
      go (Ok value) f = λ clean safe. (clean, opened (f clean safe))
      go (Err fault.Store) f = tt
      go (Err fault.Memory) f = tt
      go (Err fault.NoLine) f = λ clean safe. (clean, opened (f clean safe))
      go (Err fault.Conflict) f = λ clean safe. (clean, opened (f clean safe))
      go (Err fault.NotWaiting) f = λ clean safe. (clean, opened (f clean safe))
      go (Err fault.NotHeld) f = λ clean safe. (clean, opened (f clean safe))
      go (Err fault.NotOver) f = λ clean safe. (clean, opened (f clean safe))
