-- A shelf that was opened, and a ledger with it.
use Rattle.std.proofs.Common.{◌≡◌, ◌≢◌, ◌∙◌, ◌⊎◌, ℕ, Bool, true, false, true≢false, IsTrue, List, [], length, Some, None, Option, Result, Ok, Err, inl, inr, refl, sym, ap, subst, is_some, arith}
use Rattle.std.specs.Prelude.{All, IfErr, IfOk, IfSome, MatchOption, MatchResult, OnOk}
use Rattle.std.specs.FinMap as map
use Rattle.std.proofs.lemmas.Bool.{cases_Bool}
use Rattle.sqlite.specs.Effect.{Database}
use Rattle.sqlite.specs.State.{State, HasCleanDisk}
use Rattle.sqlite.specs.Tree.{Trees}
use Rattle.sqlite_disk.specs.declared.Disk.{Ghosts}
use Rattle.sqlite_schema.specs.declared.schema.Schema.{Schema}
use Rattle.dr_base.specs.Texts.{Text}
use Rattle.dr_site.specs.Parts.{Part}
use Rattle.dr_ledger.specs.declared.fault.LedgerFault.{LedgerFault}
use Rattle.dr_store_bodies.specs.declared.extent.Extent.{Extent}
use Rattle.dr_store_shelf.specs.declared.either.LedgerShelf.{LedgerShelf}
use Rattle.dr_store_shelf.specs.declared.either.LedgerShelf.TheVariants.{InRow as Rows}
use Rattle.dr_store_shelf.specs.declared.either.LedgerShelf.TheVariants.{InFile as File}
use Rattle.dr_store_shelf.specs.Cells.{extent_in}
use Rattle.dr_store_shelf.specs.Either.{AreApartIf, IsCleanOn, UsesOn, named_on}
use Rattle.dr_store_schema.specs.Books.{bodies_of}
use Rattle.dr_store_schema.specs.Tables.{tables}
use Rattle.dr_store_changes.specs.Writing.{IsReady}
use Rattle.dr_store_reads.specs.declared.finding.Print.{Print}
use Rattle.dr_store_lists.specs.Lists.{keys_of, whole_prints_of}
use Rattle.dr_store_data.specs.declared.mark.DataMark.{DataMark}
use Rattle.dr_store_data.specs.Heads.{HasHead, IsMarkOf}
use Rattle.dr_store_calls.specs.Owners.{IsOwnedBy, IsOwnedWith}
use Rattle.dr_store_calls.specs.Calling.{IsKept, IsLedgerOf}
use Rattle.dr_store.specs.Owning.{HaveOwn}
use Rattle.dr_store_audit.specs.Older.{IsOlder}
use Rattle.dr_store_open.specs.declared.data.Keeping.{Keeping}
use Rattle.dr_store_open.specs.declared.data.Keeping.TheVariants as wanted
use Rattle.dr_store_open.specs.declared.data.OpenedLedger.{OpenedLedger}
use Rattle.dr_store_open.specs.declared.data.DataPlace.{DataPlace}
use Rattle.dr_store_open.specs.declared.data.DataPlace.TheVariants as put
use Rattle.dr_store_open.specs.declared.fault.OpeningFault.{OpeningFault}
use Rattle.dr_store_open.specs.declared.fault.OpeningFault.TheVariants as opening
use Rattle.dr_store_open.specs.declared.finding.FoundTables.{FoundTables}
use Rattle.dr_store_open.specs.DataSets.{AreListed, AreOwnUnder, IsOwn}
use Rattle.dr_store_open.specs.Faults.{IsOfData}
use Rattle.dr_store_open.specs.Places.{HasOwnOn, HasSomeHead, IsAt, IsBegun, IsFileWith, IsPlaceOf, IsPlacedBy, ShowsFile, names_in, seen_on}
use Rattle.dr_store_open.specs.Renewing.{KeepsRows}
use Rattle.dr_store_open.specs.Opening.{AreOf, HasLedgerOf, HasNewLedger, IsBlank, LedgersAreTheirSites, IsBroughtOver, IsLedgerFound, IsLedgerOpened, IsNext, IsWhy, IsWhyNot, IsWholeOpened, LeavesOldOrCommitted, ShelvesAreInTheirPlaces, StaysAsFound, StaysReady}
use Rattle.dr_store_open.proofs.Blank.{blank_no_older}
use Rattle.dr_store_open.proofs.Chains.{looks_then}
use Rattle.dr_store_open.proofs.Shelved.{all_own, all_read, names, names_apart}
use Rattle.dr_store_open.proofs.Wholly.{as_found, brought_over, new_ledger, places_are_one}

-- ---- whatever was answered

pub if_ok_as : {A E : Type 0} (P Q : A → Type 0) (r : Result A E) → ((x : A) → P x → Q x) → IfOk r P → IfOk r Q
if_ok_as P Q (Ok x) f h = f x h
if_ok_as P Q (Err e) f h = tt

pub if_err_as : {A E : Type 0} (P Q : E → Type 0) (r : Result A E) → ((e : E) → P e → Q e) → IfErr r P → IfErr r Q
if_err_as P Q (Ok x) f h = tt
if_err_as P Q (Err e) f h = f e h

-- what holds wherever something is answered
pub ok_given : {A E : Type 0} (P : Type 0) (Q : A → Type 0) (r : Result A E) → (P → (x : A) → Q x) → OnOk r P → IfOk r Q
ok_given P Q (Ok x) f h = f h x
ok_given P Q (Err e) f h = tt

pub ours_as : {B E : Type 0} (r : Result (Bool × B) E) → IfErr r (λ fault. ⊥) → IfOk r (λ made. made.0 ≡ false) → MatchResult r (λ made. made.0 ≡ false) (λ fault. ⊥)
ours_as (Ok it) never none = none
ours_as (Err fault) never none = never

-- tables that stand ready are committed
pub still_now : (n : ℕ) (old new : State) → IsReady n old → IsReady n new → new.committed ≡ old.committed → new.now ≡ old.now
still_now n old new was is same = is.settled ∙ same ∙ sym was.settled

-- a ledger that has no mark has its data sets in rows
pub not_in_rows : (part : Part) (db : Trees) (place : DataPlace) → IsPlaceOf part db place → IsOwnedWith [] part db → place ≡ put.InRows
not_in_rows part db place is mine = places_are_one part part db place put.InRows is mine

-- where it has one, its data sets aren't in rows
in_file : (part : Part) (db : Trees) (mark : List ℕ) (said : DataMark) → IsOwnedWith mark part db → IsMarkOf mark said → IsOwnedWith [] part db → ⊥
in_file part db mark said owned is mine = apart (places_are_one part part db (put.InFile said) put.InRows (mark, owned, is) mine)
  where
    apart : put.InFile said ≡ put.InRows → ⊥
    apart e = cc

pub their_sites : LedgersAreTheirSites
their_sites = record {
  marked = λ n part db mark said has owned is why. in_file part db.trees mark said owned is (why.0 refl n has).0;
  own = λ n part db has own why. (why.0 refl n has).1 own;
  lost = λ n part db has mine why. why.1 tt has.schema mine;
  there = λ n part db has mine why. why.1 tt has.schema mine;
  in_use = λ n part db has mine why. why.1 tt has.schema mine;
}

-- what a test of the data sets in rows tells
abbrev pub TestedIn : {A : Type 0} → Result A OpeningFault → List (Text × Print) → Trees → Type 0
TestedIn r prints db = MatchResult r (λ it. All (AreOwnUnder db) prints) (λ fault. fault ≡ opening.OtherSite → All (AreOwnUnder db) prints → ⊥)

-- a ledger isn't taken for another's where each data set in its rows is its item's
pub not_others : {A : Type 0} (part : Part) (db : Trees) (prints : List (Text × Print)) (place : DataPlace) (r : Result A OpeningFault) → prints ≡ map.entries (whole_prints_of db)
    → ((uid : Text) → is_some (map.get (keys_of db) uid) ≡ is_some (map.get (whole_prints_of db) uid))
    → IsPlaceOf part db place
    → IfErr r (λ fault. place ≡ put.InRows) → IfErr r (λ fault. IsOfData fault → ⊥)
    → (place ≡ put.InRows → TestedIn r prints db)
    → IfErr r (IsWhyNot part db)
not_others part db prints place (Ok it) are together says rows beside tested = tt
not_others part db prints place (Err fault) are together says rows beside tested = (
  λ is. (subst (IsPlaceOf part db) rows says, λ own. tested rows is (all_read db prints are together own)),
  λ it mine. beside it,
)

-- ---- a file that was made

-- a file that was begun has a head
pub begun_head : {X : Type 0} (shown : X → List ℕ) (leaves : X → List ℕ → Type 0) (said : DataMark) (disk : Option X)
    → MatchOption disk ⊥ (λ it. IsBegun said (shown it) (leaves it)) → MatchOption disk ⊥ (λ it. HasSomeHead (shown it))
begun_head shown leaves said None is = is
begun_head shown leaves said (Some it) is = (said.mark, is.0)

-- it is the one that was handed on
pub head_again : {X E : Type 0} (shown : X → List ℕ) (disk : Option X) (r : Result (Bool × Option X) E)
    → MatchOption disk ⊥ (λ it. HasSomeHead (shown it)) → IfOk r (λ made. made.1 ≡ disk)
    → IfOk r (λ made. MatchOption made.1 ⊥ (λ it. HasSomeHead (shown it)))
head_again shown disk (Ok made) has same = subst (λ d. MatchOption d ⊥ (λ it. HasSomeHead (shown it))) (sym same) has
head_again shown disk (Err fault) has same = tt

-- a shelf in rows is over no file
pub no_file : {X : Type 0} (made : Option X) → IfSome made (λ disk. Unit {0})
no_file None = tt
no_file (Some disk) = tt

-- ---- a shelf

module _ {D : Type 0} {g : Ghosts D} where
  -- the shelf over the file that was made, if one was
  pub shows_made : {X : Type 0} (shown : X → List ℕ) (made : Option X) (disk : X) (shelf : LedgerShelf D g)
      → IfSome made (λ it. (let r : Result X OpeningFault = Ok disk in r) ≡ Ok it) → ShowsFile (shown disk) shelf
      → IfSome made (λ it. ShowsFile (shown it) shelf)
  shows_made shown None disk shelf same shows = tt
  shows_made shown (Some it) disk shelf same shows =
      let is : disk ≡ it = cc in
      subst (λ d. ShowsFile (shown d) shelf) is shows

  -- a shelf whose cells name places shows the head of that file
  shown_head : {X : Type 0} (shown : X → List ℕ) (made : Option X) (shelf : LedgerShelf D g) → named_on shelf ≡ true
      → MatchOption made ⊥ (λ it. HasSomeHead (shown it)) → IfSome made (λ it. ShowsFile (shown it) shelf)
      → HasSomeHead (seen_on shelf)
  shown_head shown None shelf named has shows = absurd has
  shown_head shown (Some disk) (Rows it) named has shows = absurd (true≢false (sym named))
  shown_head shown (Some disk) (File it) named has shows = subst HasSomeHead (sym shows) has

  pub file_at : (said : DataMark) (list : List Extent) (shelf : LedgerShelf D g) → IsFileWith said list shelf → IsAt (put.InFile said) shelf
  file_at said list (Rows it) is = absurd is
  file_at said list (File it) is = is.0

  head_at : (said : DataMark) (shelf : LedgerShelf D g) → IsAt (put.InFile said) shelf → (named_on shelf ≡ true) × (IsCleanOn shelf → HasHead said.mark (seen_on shelf))
  head_at said (Rows it) is = absurd is
  head_at said (File it) is = (refl, is.1)

  pub in_their_places : ShelvesAreInTheirPlaces g
  in_their_places put.InRows (Rows it) is = refl
  in_their_places put.InRows (File it) is = absurd is
  in_their_places (put.InFile said) (Rows it) is = absurd is
  in_their_places (put.InFile said) (File it) is = refl

  -- the file that the tables name
  pub their_file : (part other : Part) (db : Trees) (mark : List ℕ) (said : DataMark) (shelf : LedgerShelf D g)
      → IsOwnedWith mark part db → IsMarkOf mark said → IsPlacedBy other db shelf
      → (named_on shelf ≡ true) × (IsCleanOn shelf → HasHead said.mark (seen_on shelf))
  their_file part other db mark said shelf owned is placed =
      let same : placed.place ≡ put.InFile said = places_are_one other part db placed.place (put.InFile said) placed.says (mark, owned, is) in
      head_at said shelf (subst (λ place. IsAt place shelf) same placed.at)

  -- a shelf whose cells name no places is in rows
  in_rows : (place : DataPlace) (shelf : LedgerShelf D g) → IsAt place shelf → named_on shelf ≡ false → place ≡ put.InRows
  in_rows put.InRows shelf is none = refl
  in_rows (put.InFile said) shelf is none = absurd (true≢false (sym (head_at said shelf is).0 ∙ none))

  -- the cells that were listed are in use, and each two are apart
  pub file_used : (said : DataMark) (db : Trees) (prints : List (Text × Print)) → prints ≡ map.entries (whole_prints_of db)
      → (list : List Extent) → AreListed db prints list
      → (shelf : LedgerShelf D g) → IsFileWith said list shelf
      → HaveOwn (UsesOn shelf) (AreApartIf (named_on shelf)) db
  file_used said db prints are list listed (Rows it) is = absurd is
  file_used said db prints are list listed (File it) is = record {
    used = λ uid cell there. let named = names db prints are list listed uid cell there in (named.0, is.1.each (extent_in cell) named.1);
    apart = names_apart db prints are list listed is.1.apart;
  }

  -- a shelf that was opened, of a ledger whose data sets were read again where they are in rows
  pub opened_own : (place : DataPlace) (shelf : LedgerShelf D g) (db : Trees) (prints : List (Text × Print)) (r : Result (OpenedLedger D g) OpeningFault)
      → prints ≡ map.entries (whole_prints_of db)
      → IsAt place shelf
      → HaveOwn (UsesOn shelf) (AreApartIf (named_on shelf)) db
      → IfOk r (λ it. it.shelf ≡ shelf)
      → (place ≡ put.InRows → TestedIn r prints db)
      → IfOk r (λ it. HasOwnOn db it.shelf)
  opened_own place shelf db prints (Ok it) are is cells same tested = subst (HasOwnOn db) (sym same) (record {
    cells = cells;
    rows = λ none. all_own db prints are (tested (in_rows place shelf is none));
  })
  opened_own place shelf db prints (Err fault) are is cells same tested = tt

  -- ---- a ledger that was found with its shelf

  pub whole_found : (part : Part) (old mid new : State) (found : FoundTables) (r : Result (OpenedLedger D g) OpeningFault)
      → IsLedgerOpened part (Ok (Some found)) old mid
      → StaysReady found.next r mid new
      → IfOk r (λ it. it.next ≡ found.next)
      → (HasCleanDisk new → IfOk r (λ it. IsPlacedBy part mid.now.trees it.shelf))
      → (HasCleanDisk new → IfOk r (λ it. HasOwnOn mid.now.trees it.shelf))
      → (HasCleanDisk new → IfErr r (IsWhyNot part mid.now.trees))
      → IsWholeOpened (Unit {0}) part r old new
  whole_found part old mid new found (Ok it) f s next placed own why = record {
    has = f.has;
    kept = λ clean. subst (λ n. IsLedgerFound n part old new) (sym next) (is clean);
    placed = λ clean. subst (λ (d : Database). IsPlacedBy part d.trees it.shelf) (base clean) (placed clean);
    own = λ clean. subst (λ (d : Database). HasOwnOn d.trees it.shelf) (base clean) (own clean);
    why = λ stood clean. tt;
    looks = looks_then old mid new f.looks s.looks;
  }
    where
      early : HasCleanDisk new → HasCleanDisk mid
      early clean = omega (arith, s.looks.clean, clean)

      base : HasCleanDisk new → mid.now ≡ new.committed
      base clean = (f.kept (early clean)).kept.ready.settled ∙ sym (s.same clean)

      is : HasCleanDisk new → IsLedgerFound found.next part old new
      is clean =
          let was = f.kept (early clean) in
          let same : mid.committed ≡ new.committed = sym (s.same clean) in
          record {
            kept = record {
              ready = s.ready clean;
              ledger = subst (λ (d : Database). IsLedgerOf [] found.next part d.trees) same was.kept.ledger;
            };
            owned = subst (λ (d : Database). IsOwnedBy part d.trees) same was.owned;
            next = subst (λ (d : Database). IsNext found.next d.trees) same was.next;
            ledger = subst (HasLedgerOf found.next part) same was.ledger;
            same = s.same clean ∙ was.same;
          }
  whole_found part old mid new found (Err fault) f s next placed own why = record {
    has = tt;
    kept = λ clean. tt;
    placed = λ clean. tt;
    own = λ clean. tt;
    why = λ stood clean.
        let back : mid.now ≡ old.now = (f.kept (early clean)).kept.ready.settled ∙ sym (f.was (early clean)) in
        let w : IsWhyNot part old.now.trees fault = subst (λ (d : Database). IsWhyNot part d.trees fault) back (why clean) in
        (λ other n has. w.0 other, λ it named mine. w.1 it mine);
    looks = looks_then old mid new f.looks s.looks;
  }
    where
      early : HasCleanDisk new → HasCleanDisk mid
      early clean = omega (arith, s.looks.clean, clean)

  pub whole_none : (part : Part) (old new : State) → IsLedgerOpened part (Ok None) old new
      → IsWholeOpened {D = D} {g = g} (Unit {0}) part (Err opening.OtherSite) old new
  whole_none part old new f = record {
    has = tt;
    kept = λ clean. tt;
    placed = λ clean. tt;
    own = λ clean. tt;
    why = λ stood clean. (λ other n has. absurd (f.is_not clean n has), λ it. absurd it);
    looks = f.looks;
  }

  pub whole_failed : (part : Part) (old new : State) (why : LedgerFault) (fault : OpeningFault) → IsLedgerOpened part (Err why) old new
      → fault ≢ opening.OtherSite → (IsOfData fault → ⊥)
      → IsWholeOpened {D = D} {g = g} (Unit {0}) part (Err fault) old new
  whole_failed part old new why fault f other beside = record {
    has = tt;
    kept = λ clean. tt;
    placed = λ clean. tt;
    own = λ clean. tt;
    why = λ stood clean. (λ is n has. absurd (other is), λ it. absurd (beside it));
    looks = f.looks;
  }

  pub found_kept : (part : Part) (old new : State) (r : Result (OpenedLedger D g) OpeningFault) → IsWholeOpened (Unit {0}) part r old new
      → IfOk r (λ it. HasCleanDisk new → IsKept [] it.next part new)
  found_kept part old new (Ok it) w = λ clean. (w.kept clean).kept
  found_kept part old new (Err fault) w = tt

  pub found_own : (part : Part) (old new : State) (r : Result (OpenedLedger D g) OpeningFault) → IsWholeOpened (Unit {0}) part r old new
      → IfOk r (λ it. HasCleanDisk new → HasOwnOn new.committed.trees it.shelf)
  found_own part old new (Ok it) w = w.own
  found_own part old new (Err fault) w = tt

  pub new_as : (made : Bool) (keeping : Keeping) (opened : OpenedLedger D g) (r : Result (OpenedLedger D g) OpeningFault) → made ≡ true
      → MatchResult r (λ it. (it ≡ opened) × (it.next ≡ 1) × (named_on it.shelf ≡ names_in keeping)) (λ fault. fault ≡ opening.OtherSite)
      → MatchResult r (λ it. (it ≡ opened) × (made ≡ true → (it.next ≡ 1) × (named_on it.shelf ≡ names_in keeping))) (λ fault. (fault ≡ opening.OtherSite) × (made ≡ true))
  new_as made keeping opened (Ok it) was m = (m.0, λ yes. (m.1, m.2))
  new_as made keeping opened (Err fault) was m = (m, was)

  -- where its tables may have been made just now
  pub whole_made : (Stood : Type 0) (made : Bool) (keeping : Keeping) (part : Part) (old new : State) (opened : OpenedLedger D g) (r : Result (OpenedLedger D g) OpeningFault)
      → (Stood → made ≡ false)
      → IsWholeOpened (Unit {0}) part (Ok opened) old new
      → MatchResult r (λ it. (it ≡ opened) × (made ≡ true → (it.next ≡ 1) × (named_on it.shelf ≡ names_in keeping))) (λ fault. (fault ≡ opening.OtherSite) × (made ≡ true))
      → IsWholeOpened Stood part r old new
  whole_made Stood made keeping part old new opened (Ok it) stood w m = record {
    has = w.has;
    kept = λ clean. subst (λ (o : OpenedLedger D g). IsLedgerFound o.next part old new) (sym m.0) (w.kept clean);
    placed = λ clean. subst (λ (o : OpenedLedger D g). IsPlacedBy part new.committed.trees o.shelf) (sym m.0) (w.placed clean);
    own = λ clean. subst (λ (o : OpenedLedger D g). HasOwnOn new.committed.trees o.shelf) (sym m.0) (w.own clean);
    why = λ is clean. tt;
    looks = w.looks;
  }
  whole_made Stood made keeping part old new opened (Err fault) stood w m = record {
    has = tt;
    kept = λ clean. tt;
    placed = λ clean. tt;
    own = λ clean. tt;
    why = λ is. absurd (true≢false (sym m.1 ∙ stood is));
    looks = w.looks;
  }

  pub whole_refused : (Stood : Type 0) (part : Part) (old new : State) (fault : OpeningFault)
      → IsWholeOpened {D = D} {g = g} (Unit {0}) part (Err fault) old new
      → IsWholeOpened {D = D} {g = g} Stood part (Err fault) old new
  whole_refused Stood part old new fault w = record { has = tt; kept = λ clean. tt; placed = λ clean. tt; own = λ clean. tt; why = λ is. w.why tt; looks = w.looks }

  pub is_made : (made : Bool) (keeping : Keeping) (opened : OpenedLedger D g) (r : Result (OpenedLedger D g) OpeningFault) → made ≡ true
      → MatchResult r (λ it. (it ≡ opened) × (made ≡ true → (it.next ≡ 1) × (named_on it.shelf ≡ names_in keeping))) (λ fault. (fault ≡ opening.OtherSite) × (made ≡ true))
      → IfOk r (λ it. (it.next ≡ 1) × (named_on it.shelf ≡ names_in keeping))
  is_made made keeping opened (Ok it) was m = m.1 was
  is_made made keeping opened (Err fault) was m = tt

  pub made_shows : {X : Type 0} (shown : X → List ℕ) (made : Bool) (keeping : Keeping) (disk : Option X) (opened : OpenedLedger D g) (r : Result (OpenedLedger D g) OpeningFault)
      → IfSome disk (λ d. ShowsFile (shown d) opened.shelf)
      → MatchResult r (λ it. (it ≡ opened) × (made ≡ true → (it.next ≡ 1) × (named_on it.shelf ≡ names_in keeping))) (λ fault. (fault ≡ opening.OtherSite) × (made ≡ true))
      → IfOk r (λ it. IfSome disk (λ d. ShowsFile (shown d) it.shelf))
  made_shows shown made keeping disk opened (Ok it) shows m = subst (λ (o : OpenedLedger D g). IfSome disk (λ d. ShowsFile (shown d) o.shelf)) (sym m.0) shows
  made_shows shown made keeping disk opened (Err fault) shows m = tt

  pub made_why : (made : Bool) (keeping : Keeping) (opened : OpenedLedger D g) (r : Result (OpenedLedger D g) OpeningFault)
      → MatchResult r (λ it. (it ≡ opened) × (made ≡ true → (it.next ≡ 1) × (named_on it.shelf ≡ names_in keeping))) (λ fault. (fault ≡ opening.OtherSite) × (made ≡ true))
      → IfErr r (λ fault. fault ≢ opening.DataIsThere)
  made_why made keeping opened (Ok it) m = tt
  made_why made keeping opened (Err fault) m = λ e. apart (sym m.0 ∙ e)
    where
      apart : opening.OtherSite ≡ opening.DataIsThere → ⊥
      apart e = cc

  -- ---- an opening as a whole: first what was made or brought over, and then what was found

  module _ (made : Bool) (part : Part) (old mid new : State) where
    pub kept_of : (r : Result (OpenedLedger D g) OpeningFault) → IsWholeOpened (made ≡ false) part r mid new
        → IfOk r (λ it. HasCleanDisk new → IsKept [] it.next part new × IsOwnedBy part new.committed.trees)
    kept_of (Ok it) w = λ clean. let is = w.kept clean in (is.kept, is.owned)
    kept_of (Err fault) w = tt

    pub next_of : (r : Result (OpenedLedger D g) OpeningFault) → IsWholeOpened (made ≡ false) part r mid new
        → IfOk r (λ it. HasCleanDisk new → IsNext it.next new.committed.trees)
    next_of (Ok it) w = λ clean. (w.kept clean).next
    next_of (Err fault) w = tt

    pub is_of : (r : Result (OpenedLedger D g) OpeningFault) → IsWholeOpened (made ≡ false) part r mid new
        → IfOk r (λ it. HasCleanDisk new → HasLedgerOf it.next part new.committed)
    is_of (Ok it) w = λ clean. (w.kept clean).ledger
    is_of (Err fault) w = tt

    pub placed_of : (r : Result (OpenedLedger D g) OpeningFault) → IsWholeOpened (made ≡ false) part r mid new
        → IfOk r (λ it. HasCleanDisk new → IsPlacedBy part new.committed.trees it.shelf)
    placed_of (Ok it) w = w.placed
    placed_of (Err fault) w = tt

    pub own_of : (r : Result (OpenedLedger D g) OpeningFault) → IsWholeOpened (made ≡ false) part r mid new
        → IfOk r (λ it. HasCleanDisk new → HasOwnOn new.committed.trees it.shelf)
    own_of (Ok it) w = w.own
    own_of (Err fault) w = tt

    pub found_of : (made ≡ true → IsBlank old.now.schema)
        → (made ≡ false → (IsBlank old.now.schema → ⊥) × ((IsOlder old.now.schema → ⊥) → StaysAsFound old mid))
        → (r : Result (OpenedLedger D g) OpeningFault) → IsWholeOpened (made ≡ false) part r mid new
        → IfOk r (λ it. HasCleanDisk new → (IsBlank old.now.schema → ⊥) → (IsOlder old.now.schema → ⊥) → StaysAsFound old new)
    found_of blank stays (Ok it) w = λ clean not_blank not_older. elim (cases_Bool made) [
      | inl was ↦ absurd (not_blank (blank was))
      | inr stood ↦ as_found it.next part old mid new (w.kept clean) (w.looks.leaves clean) ((stays stood).1 not_older)
    ]
    found_of blank stays (Err fault) w = tt

    pub older_of : (made ≡ true → IsBlank old.now.schema)
        → (HasCleanDisk mid → LeavesOldOrCommitted old mid)
        → (HasCleanDisk mid → IsOlder old.now.schema → mid.now.schema ≡ tables → KeepsRows old.now mid.committed)
        → (r : Result (OpenedLedger D g) OpeningFault) → IsWholeOpened (made ≡ false) part r mid new
        → IfOk r (λ it. HasCleanDisk new → IsOlder old.now.schema → IsBroughtOver old new)
    older_of blank leaves keeps (Ok it) w = λ clean older.
        let early : HasCleanDisk mid = omega (arith, w.looks.clean, clean) in
        brought_over it.next part old mid new (w.kept clean) (w.looks.leaves clean) (leaves early) (keeps early older w.has)
    older_of blank leaves keeps (Err fault) w = tt

    pub made_of : (made ≡ false → (IsBlank old.now.schema → ⊥) × ((IsOlder old.now.schema → ⊥) → StaysAsFound old mid))
        → (HasCleanDisk mid → LeavesOldOrCommitted old mid)
        → (keeping : Keeping) (r : Result (OpenedLedger D g) OpeningFault) → IsWholeOpened (made ≡ false) part r mid new
        → (made ≡ true → IfOk r (λ it. (it.next ≡ 1) × (named_on it.shelf ≡ names_in keeping)))
        → IfOk r (λ it. HasCleanDisk new → IsBlank old.now.schema → HasNewLedger old new)
    made_of stays leaves keeping (Ok it) w m = λ clean blank. elim (cases_Bool made) [
      | inl was ↦ (
          let early : HasCleanDisk mid = omega (arith, w.looks.clean, clean) in
          new_ledger it.next part old mid new clean (w.kept clean) (w.looks.leaves clean) (m was).0 (leaves early)
          )
      | inr stood ↦ absurd ((stays stood).0 blank)
    ]
    made_of stays leaves keeping (Err fault) w m = tt

    pub wanted_of : (made ≡ false → (IsBlank old.now.schema → ⊥) × ((IsOlder old.now.schema → ⊥) → StaysAsFound old mid))
        → (keeping : Keeping) (r : Result (OpenedLedger D g) OpeningFault)
        → (made ≡ true → IfOk r (λ it. (it.next ≡ 1) × (named_on it.shelf ≡ names_in keeping)))
        → IfOk r (λ it. IsBlank old.now.schema → named_on it.shelf ≡ names_in keeping)
    wanted_of stays keeping (Ok it) m = λ blank. elim (cases_Bool made) [
      | inl was ↦ (m was).1
      | inr stood ↦ absurd ((stays stood).0 blank)
    ]
    wanted_of stays keeping (Err fault) m = tt

    pub begun_of : {X : Type 0} (shown : X → List ℕ) (disk : Option X)
        → (made ≡ false → (IsBlank old.now.schema → ⊥) × ((IsOlder old.now.schema → ⊥) → StaysAsFound old mid))
        → (keeping : Keeping) → (keeping ≡ wanted.InFile → made ≡ true → MatchOption disk ⊥ (λ it. HasSomeHead (shown it)))
        → (r : Result (OpenedLedger D g) OpeningFault)
        → (made ≡ true → IfOk r (λ it. (it.next ≡ 1) × (named_on it.shelf ≡ names_in keeping)))
        → IfOk r (λ it. IfSome disk (λ d. ShowsFile (shown d) it.shelf))
        → IfOk r (λ it. IsBlank old.now.schema → keeping ≡ wanted.InFile → HasSomeHead (seen_on it.shelf))
    begun_of shown disk stays keeping begun (Ok it) m shows = λ blank file. elim (cases_Bool made) [
      | inl was ↦ shown_head shown disk it.shelf ((m was).1 ∙ ap names_in file) (begun file was) shows
      | inr stood ↦ absurd ((stays stood).0 blank)
    ]
    begun_of shown disk stays keeping begun (Err fault) m shows = tt

    pub refused_of : (old.now.schema ≡ tables → (made ≡ false) × (mid ≡ old))
        → (r : Result (OpenedLedger D g) OpeningFault) → IsWholeOpened (made ≡ false) part r mid new
        → IfErr r (λ fault. HasCleanDisk new → IsWhy part old.now fault)
    refused_of ours (Ok it) w = tt
    refused_of ours (Err fault) w = λ clean. (
      λ other n has. (why clean has.schema).0 other n has,
      λ it named mine. (why clean named).1 it named mine,
    )
      where
        why : HasCleanDisk new → old.now.schema ≡ tables → IsWhy part old.now fault
        why clean named =
            let o = ours named in
            subst (λ (s : State). IsWhy part s.now fault) o.1 (w.why o.0 clean)
