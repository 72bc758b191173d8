-- Data sets that go, and then their cells.
use Rattle.std.proofs.Common.{◌≡◌, ◌≢◌, inl, inr, ℕ, Bool, true, false, cond, not, is_some, unwrap_or, List, [], Option, Some, None, Result, Ok, Err, OnOk, sym, ap, subst, refl, ◌∙◌, true≢false}
use Rattle.std.specs.Cmp.Lexicographic.{nat_list_cmp_total}
use Rattle.std.specs.FinMap as map
use Rattle.std.specs.Ordering.{eq_by_cmp}
use Rattle.sqlite.specs.State.{State}
use Rattle.sqlite.specs.Tree.{Trees}
use Rattle.dr_base.specs.Texts.{Text, text_cmp}
use Rattle.dr_site.specs.Parts.{Part}
use Rattle.dr_ledger.specs.declared.content.Job.{Job}
use Rattle.dr_ledger.specs.declared.fault.LedgerFault.{LedgerFault}
use Rattle.dr_ledger.proofs.Maps.{same_or_not, texts, ties_itself}
use Rattle.dr_store_shelf.specs.Shelves.{KeepsCells}
use Rattle.dr_store_schema.specs.Books.{bodies_of, contents_in, is_whole, wholes_in}
use Rattle.dr_store_changes.proofs.LettingGo.{body_at}
use Rattle.dr_store_reads.specs.Queries.{IsJobOf}
use Rattle.dr_store_reads.proofs.Found.{none_stored}
use Rattle.dr_store_calls.specs.Calling.{Called, advanced}
use Rattle.dr_store_calls.specs.LettingGo.{AreEachApart, GoesWith, IsCellOf, IsGone, KeepsApart, LeavesCells, LetsCellsGo, plain, telling}
use Rattle.dr_store_calls.proofs.Moves.{split}

-- ---- answers

pub plain_on_ok : (r : Result Bool LedgerFault) (P : Type 0) → OnOk r P → OnOk (plain r) P
plain_on_ok (Ok went) P h = h
plain_on_ok (Err e) P h = h

pub telling_on_ok : (went : Bool) (r : Result (Unit {0}) LedgerFault) (P : Type 0) → OnOk r P → OnOk (telling went r) P
telling_on_ok went (Ok done) P h = h
telling_on_ok went (Err e) P h = h

module _ (n : ℕ) (part : Part) (old new : State) (Asks : Trees → Type 0) where
  -- a call that tells whether a data set went
  pub told : (went : Bool) (r : Result (Unit {0}) LedgerFault) (Answers : Result (Unit {0}) LedgerFault → Trees → Trees → Type 0) (Says : Result Bool LedgerFault → Trees → Trees → Type 0) (Makes : Trees → Trees → Type 0)
      → ((base db : Trees) → Answers (Ok tt) base db → Says (Ok went) base db) → ((e : LedgerFault) (base db : Trees) → Answers (Err e) base db → Says (Err e) base db)
      → Called n (advanced r n) part r old new Asks (Answers r) Makes
      → Called n (advanced (telling went r) n) part (telling went r) old new Asks (Says (telling went r)) Makes
  told went (Ok done) Answers Says Makes ok err c = record {
    clean = c.clean;
    was_open = c.was_open;
    idle = c.idle;
    lasts = λ {past} clean k asks. c.lasts clean k asks;
    kept = λ {past} clean is_open k asks. c.kept clean is_open k asks;
    answers = λ {past} clean is_open k asks. ok old.committed.trees new.committed.trees (c.answers clean is_open k asks);
    crash = λ {past} clean k asks db left. c.crash clean k asks db left;
  }
  told went (Err e) Answers Says Makes ok err c = record {
    clean = c.clean;
    was_open = c.was_open;
    idle = c.idle;
    lasts = λ {past} clean k asks. c.lasts clean k asks;
    kept = λ {past} clean is_open k asks. c.kept clean is_open k asks;
    answers = λ {past} clean is_open k asks. err e old.committed.trees new.committed.trees (c.answers clean is_open k asks);
    crash = λ {past} clean k asks db left. c.crash clean k asks db left;
  }

  -- the same without telling it
  pub untold : (r : Result Bool LedgerFault) (Answers Makes : Trees → Trees → Type 0) → Called n (advanced r n) part r old new Asks Answers Makes
      → Called n (advanced (plain r) n) part (plain r) old new Asks Answers Makes
  untold (Ok went) Answers Makes c = record {
    clean = c.clean;
    was_open = c.was_open;
    idle = c.idle;
    lasts = λ {past} clean k asks. c.lasts clean k asks;
    kept = λ {past} clean is_open k asks. c.kept clean is_open k asks;
    answers = λ {past} clean is_open k asks. c.answers clean is_open k asks;
    crash = λ {past} clean k asks db left. c.crash clean k asks db left;
  }
  untold (Err e) Answers Makes c = record {
    clean = c.clean;
    was_open = c.was_open;
    idle = c.idle;
    lasts = λ {past} clean k asks. c.lasts clean k asks;
    kept = λ {past} clean is_open k asks. c.kept clean is_open k asks;
    answers = λ {past} clean is_open k asks. c.answers clean is_open k asks;
    crash = λ {past} clean k asks db left. c.crash clean k asks db left;
  }

-- ---- which cell it is

pub cell_found : (Apart : List ℕ → List ℕ → Type 0) (uid : Text) (db : Trees) (found : Option Job) → IsJobOf uid db found → IsCellOf Apart uid db found
cell_found Apart uid db None none = λ cell there. absurd (true≢false (sym (ap is_some there) ∙ (none_stored db uid none).whole))
cell_found Apart uid db (Some job) is = λ cell there.
    let parts = split (is_whole (map.get (wholes_in (db 3)) uid)) (map.get (contents_in (db 1)) uid) cell (sym (body_at (contents_in (db 1)) (wholes_in (db 3)) uid) ∙ there) in
    let same : Some cell ≡ Some job.body = sym parts.1 ∙ is.2 in
    ap (λ found. unwrap_or found []) same

-- ---- what a call leaves of the cells

module _ (Apart : List ℕ → List ℕ → Type 0) (Used : List ℕ → Type 0) (Stood : List ℕ → List ℕ → Type 0) (Uses : List ℕ → Type 0) (Stands : List ℕ → List ℕ → Type 0) (uid : Text) (base db : Trees) where
  -- where all stay
  all_stay : KeepsCells Used Stood Uses Stands → bodies_of db ≡ bodies_of base → LetsCellsGo Apart Used Stood Uses Stands base db
  all_stay keeps same = record {
    lets = λ q cell h. sym (at q) ∙ h;
    keeps = λ apart q cell h used. keeps cell used;
    gone = λ q cell was none. absurd (let e : Some cell ≡ None = sym was ∙ sym (at q) ∙ none in cc);
  }
    where
      at : (q : Text) → map.get (bodies_of db) q ≡ map.get (bodies_of base) q
      at q = ap (λ cells. map.get cells q) same

  -- where that of the uid went
  module _ (cell : List ℕ) (was : map.get (bodies_of base) uid ≡ Some cell) (goes : bodies_of db ≡ map.remove (bodies_of base) uid) where
    at : (q : Text) → map.get (bodies_of db) q ≡ cond (eq_by_cmp text_cmp q uid) None (map.get (bodies_of base) q)
    at q = ap (λ cells. map.get cells q) goes ∙ map.get-remove nat_list_cmp_total (bodies_of base) uid q

    -- each that is left was there, under another uid
    left_at : (q : Text) (other : List ℕ) → map.get (bodies_of db) q ≡ Some other → (uid ≢ q) × (map.get (bodies_of base) q ≡ Some other)
    left_at q other h = go (eq_by_cmp text_cmp q uid) refl
      where
        go : (b : Bool) → eq_by_cmp text_cmp q uid ≡ b → (uid ≢ q) × (map.get (bodies_of base) q ≡ Some other)
        go true e = absurd (let none : None ≡ Some other = sym (at q ∙ ap (λ b. cond b None (map.get (bodies_of base) q)) e) ∙ h in cc)
        go false e = (
          λ same. true≢false (sym (ties_itself texts uid) ∙ ap (λ x. eq_by_cmp text_cmp x uid) same ∙ e),
          sym (at q ∙ ap (λ b. cond b None (map.get (bodies_of base) q)) e) ∙ h,
        )

    -- each that isn't was that of the uid
    gone_at : (q : Text) (other : List ℕ) → map.get (bodies_of base) q ≡ Some other → map.get (bodies_of db) q ≡ None → q ≡ uid
    gone_at q other h none = elim (same_or_not texts q uid) [
      | inl same ↦ same
      | inr e ↦ absurd (let some : Some other ≡ None = sym h ∙ sym (at q ∙ ap (λ b. cond b None (map.get (bodies_of base) q)) e) ∙ none in cc)
    ]

    kept : (found : Option Job) → IsCellOf Apart uid base found → KeepsApart Apart Used Stood Uses Stands found → AreEachApart Apart (bodies_of base)
        → (q : Text) (other : List ℕ) → map.get (bodies_of db) q ≡ Some other → Used other → Uses other × ((bytes : List ℕ) → Stood other bytes → Stands other bytes)
    kept None is keeps apart q other h used = keeps other used
    kept (Some job) is keeps apart q other h used =
        let there = left_at q other h in
        keeps other (subst (λ x. Apart x other) (is cell was) (apart uid q cell other there.0 was there.1)) used

    let_go : (found : Option Job) → IsCellOf Apart uid base found → IsGone Apart Uses found → (other : List ℕ) → map.get (bodies_of base) uid ≡ Some other → (Apart other other → ⊥) → Uses other → ⊥
    let_go None is gone other h own uses = own (is other h)
    let_go (Some job) is gone other h own uses = gone (λ apart. own (subst (λ x. Apart x x) (sym (is other h)) apart)) (subst Uses (is other h) uses)

    one_goes : (found : Option Job) → IsCellOf Apart uid base found → IsGone Apart Uses found → KeepsApart Apart Used Stood Uses Stands found → LetsCellsGo Apart Used Stood Uses Stands base db
    one_goes found is gone keeps = record {
      lets = λ q other h. (left_at q other h).1;
      keeps = kept found is keeps;
      gone = λ q other h none own uses.
          let there : map.get (bodies_of base) uid ≡ Some other = subst (λ x. map.get (bodies_of base) x ≡ Some other) (gone_at q other h none) h in
          let_go found is gone other there own uses;
    }

  pub lets_cells_go : (found : Option Job) (r : Result Bool LedgerFault) → IsCellOf Apart uid base found → LeavesCells Apart Used Stood Uses Stands found r → GoesWith r uid base db → LetsCellsGo Apart Used Stood Uses Stands base db
  lets_cells_go found (Ok true) is left goes = one_goes goes.0.0 goes.0.1 goes.1 found is left.0 left.1
  lets_cells_go found (Ok false) is left goes = all_stay left goes
  lets_cells_go found (Err e) is left goes = all_stay left goes

-- where nothing is done
pub no_cell_goes : (Apart : List ℕ → List ℕ → Type 0) (Uses : List ℕ → Type 0) (Stands : List ℕ → List ℕ → Type 0) (uid : Text) (base : Trees) → LetsCellsGo Apart Uses Stands Uses Stands base base
no_cell_goes Apart Uses Stands uid base = all_stay Apart Uses Stands Uses Stands uid base base (λ cell used. (used, λ bytes stood. stood)) refl
