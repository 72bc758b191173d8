-- After each call the cells are in use, and no data set is lost, as before it.
use Rattle.std.proofs.Common.{◌≡◌, ◌⊎◌, inl, inr, ℕ, List, Option, Some, None, is_some, true≢false, Result, Ok, Err, OnErr, refl, sym, ap, subst, ◌∙◌}
use Rattle.std.specs.Prelude.{MatchOption}
use Rattle.std.specs.Cmp.Lexicographic.{nat_list_cmp_total}
use Rattle.std.proofs.lemmas.Map.Lookups.{exact_bytes}
use Rattle.std.specs.FinMap as map
use Rattle.sqlite.specs.Tree.{Trees}
use Rattle.dr_base.specs.Texts.{Text}
use Rattle.dr_site.specs.Parts.{Part}
use Rattle.dr_ledger.specs.declared.content.Job.{Job}
use Rattle.dr_ledger.specs.declared.fault.LedgerFault.{LedgerFault}
use Rattle.dr_ledger.specs.declared.fault.LedgerFault.TheVariants as fault
use Rattle.dr_ledger.specs.declared.item.Arrived.{Arrived}
use Rattle.dr_ledger.specs.declared.item.Arrived.TheVariants.{New, Again}
use Rattle.dr_ledger.specs.declared.item.Instance.{Instance}
use Rattle.dr_ledger.specs.declared.item.Outcome.{Outcome}
use Rattle.dr_ledger.specs.Adopting.{Adopting}
use Rattle.dr_ledger.specs.Bodies.{Bodies, IsNeeded, IsThere, OnlyLetsGo, OnlyTakes}
use Rattle.dr_ledger.specs.Books.{Book, Forgetting, after}
use Rattle.dr_ledger.specs.Items.{IsItem, instance_of}
use Rattle.dr_ledger.specs.Replies.{Arrives, Drops, Forgets, IsOver, Requeues, Settles, arrival_line}
use Rattle.dr_ledger.specs.Routings.{Routing}
use Rattle.dr_ledger.specs.SiteRoutes.{site_routing}
use Rattle.dr_ledger.proofs.Forgotten.{Apart, item_left, item_stays}
use Rattle.dr_ledger.proofs.Growing.{inside}
use Rattle.dr_ledger.proofs.Maps.{filled_keeps, same_or_not, texts}
use Rattle.dr_store_shelf.specs.Shelves.{KeepsCells, ReadsAsBefore}
use Rattle.dr_store_schema.specs.Books.{bodies_of, book_of, items_of}
use Rattle.dr_store_changes.specs.Bringing.{HasCells}
use Rattle.dr_store_changes.proofs.Forgotten.{not_needed}
use Rattle.dr_store_reads.proofs.Found.{none_stored}
use Rattle.dr_store_calls.specs.Adoptions.{IsAdopted}
use Rattle.dr_store_calls.specs.LettingGo.{AreEachApart, LetsCellsGo}
use Rattle.dr_store_calls.specs.Shelving.{AcceptsItem, AnswersTo, IsPut, TakesItem}
use Rattle.dr_store.specs.Owning.{AreUsed, HaveOwn, IsReadAt, LetsGoOf, LosesNoCell, LosesNoneOf, Survives, bodies_with}
use Rattle.dr_store.specs.Standing.{data_at, is_read, read_is}

-- ---- one data set

nothing_is : {X : Type 0} (x : X) (o : Option X) → o ≡ Some x → o ≡ None → ⊥
nothing_is x o some none = let e : Some x ≡ None = sym some ∙ none in (let f : ⊥ = cc in f)

-- what can be read under a uid can be read where the cell and the instance are the same
moved : (one other : List ℕ → Option (List ℕ)) (a b : Trees) (uid : Text) (cell body : List ℕ) → map.get (bodies_of a) uid ≡ Some cell → map.get (bodies_of b) uid ≡ Some cell → other cell ≡ one cell
    → ((i : Instance) → map.get (items_of a) uid ≡ Some i → map.get (items_of b) uid ≡ Some i) → map.get (bodies_with one a) uid ≡ Some body → map.get (bodies_with other b) uid ≡ Some body
moved one other a b uid cell body here there alike items h =
    let it = is_read one a uid body h in
    let same : it.cell ≡ cell = inside it.cell cell (sym it.there ∙ here) in
    read_is other b uid body (record {
      cell = cell;
      there = there;
      reads = alike ∙ ap one (sym same) ∙ it.reads;
      item = it.item;
      is_item = it.is_item;
      same = it.same;
      known = items (instance_of it.item) it.known;
    })

-- the bytes for which a cell stands can be read by it
pub stood_read : (Passes : List ℕ → Type 0) (found : Option (List ℕ)) (shown bytes : List ℕ) → MatchOption found (Passes shown → ⊥) (λ read. (read ≡ shown) × Passes read) → shown ≡ bytes → Passes bytes → found ≡ Some bytes
stood_read Passes None shown bytes is same passes = absurd (is (subst Passes (sym same) passes))
stood_read Passes (Some read) shown bytes is same passes = ap Some (is.0 ∙ same)

-- where a cell is, its instance is
has_item : (db : Trees) (uid : Text) (cell : List ℕ) → map.get (bodies_of db) uid ≡ Some cell → (i : Instance) × (map.get (items_of db) uid ≡ Some i)
has_item db uid cell h = go (map.get (items_of db) uid) refl
  where
    go : (o : Option Instance) → map.get (items_of db) uid ≡ o → (i : Instance) × (map.get (items_of db) uid ≡ Some i)
    go None none = absurd (true≢false (sym (ap is_some h) ∙ (none_stored db uid none).whole))
    go (Some i) is = (i, is)

-- ---- what a call leaves

-- the cells are in use, and no data set is lost
pub record Left (Uses : List ℕ → Type 0) (Apart : List ℕ → List ℕ → Type 0) (was_of read_of : List ℕ → Option (List ℕ)) (base db : Trees) : Type 0 where
  pub own : HaveOwn Uses Apart db
  pub none_lost : LosesNoCell was_of read_of base db

-- no data set is lost that the book needs
pub loses_none : (was_of read_of : List ℕ → Option (List ℕ)) (base db : Trees) → HasCells (book_of base) (bodies_of base) → HasCells (book_of db) (bodies_of db) → LosesNoCell was_of read_of base db → LosesNoneOf was_of read_of base db
loses_none was_of read_of base db had has lost uid needed before =
    let there = (has.there uid).1 needed in
    lost uid there.0 there.1 (elim before [ inl is ↦ inl is | inr unneeded ↦ inr (go unneeded (map.get (bodies_of base) uid) refl) ])
  where
    go : (IsNeeded (book_of base) uid → ⊥) → (o : Option (List ℕ)) → map.get (bodies_of base) uid ≡ o → map.get (bodies_of base) uid ≡ None
    go unneeded None is = is
    go unneeded (Some cell) is = absurd (unneeded ((had.there uid).0 (cell, is)))

-- what can be read by the cells stands
pub survives : {Uses : List ℕ → Type 0} {Stands Apart : List ℕ → List ℕ → Type 0} (was_of read_of : List ℕ → Option (List ℕ)) (base db : Trees) → ((cell bytes : List ℕ) → Uses cell → read_of cell ≡ Some bytes → Stands cell bytes)
    → Left Uses Apart was_of read_of base db → Survives Uses Stands Apart was_of read_of base db
survives was_of read_of base db held l = record {
  own = l.own;
  none_lost = l.none_lost;
  held = λ uid body is.
      let it = is_read read_of db uid body is in
      (it.cell, it.there, held it.cell body (l.own.used uid it.cell it.there) it.reads);
}

-- ---- where no cell comes

-- each item is there whose cell is, and none comes
pub record ItemsStay (base db : Trees) : Type 0 where
  pub stay : (uid : Text) (cell : List ℕ) → map.get (bodies_of db) uid ≡ Some cell → (i : Instance) → map.get (items_of base) uid ≡ Some i → map.get (items_of db) uid ≡ Some i
  pub back : (uid : Text) (i : Instance) → map.get (items_of db) uid ≡ Some i → map.get (items_of base) uid ≡ Some i

same_items : (base db : Trees) → items_of db ≡ items_of base → ItemsStay base db
same_items base db same = record {
  stay = λ uid cell h i is. ap (λ m. map.get m uid) same ∙ is;
  back = λ uid i is. sym (ap (λ m. map.get m uid) same) ∙ is;
}

-- each two that are left were there before
still_apart : (Apart : List ℕ → List ℕ → Type 0) (base db : Trees) → OnlyLetsGo (bodies_of base) (bodies_of db) → AreEachApart Apart (bodies_of base) → AreEachApart Apart (bodies_of db)
still_apart Apart base db lets apart uid other cell beside differ h there = apart uid other cell beside differ (lets uid cell h) (lets other beside there)

module _ {Used : List ℕ → Type 0} {was_of read_of : List ℕ → Option (List ℕ)} (base db : Trees) (alike : ReadsAsBefore Used was_of read_of) (used : AreUsed Used (bodies_of base)) (lets : OnlyLetsGo (bodies_of base) (bodies_of db)) (items : ItemsStay base db) where
  lose_none : LosesNoCell was_of read_of base db
  lose_none uid cell h (inl there) =
      let was = lets uid cell h in
      (there.0, moved was_of read_of base db uid cell there.0 was h (alike cell (used uid cell was)) (items.stay uid cell h) there.1)
  lose_none uid cell h (inr none) = absurd (nothing_is cell (map.get (bodies_of base) uid) (lets uid cell h) none)

  only_lets : OnlyLetsGo (bodies_with was_of base) (bodies_with read_of db)
  only_lets uid body h =
      let it = is_read read_of db uid body h in
      let was = lets uid it.cell it.there in
      moved read_of was_of db base uid it.cell body it.there was (sym (alike it.cell (used uid it.cell was))) (items.back uid) h

-- the shelf stays as it is
module _ {Uses : List ℕ → Type 0} {Apart : List ℕ → List ℕ → Type 0} (read_of : List ℕ → Option (List ℕ)) (base db : Trees) (lets : OnlyLetsGo (bodies_of base) (bodies_of db)) (items : ItemsStay base db) (k : HaveOwn Uses Apart base) where
  pub fewer : Left Uses Apart read_of read_of base db
  fewer = record {
    own = record {
      used = λ uid cell h. k.used uid cell (lets uid cell h);
      apart = still_apart Apart base db lets k.apart;
    };
    none_lost = lose_none {Used = Uses} {was_of = read_of} {read_of = read_of} base db (λ cell used. refl) k.used lets items;
  }

  pub fewer_only : OnlyLetsGo (bodies_with read_of base) (bodies_with read_of db)
  fewer_only = only_lets {Used = Uses} {was_of = read_of} {read_of = read_of} base db (λ cell used. refl) k.used lets items

-- so the ledger lets data sets go
pub fewer_of : {Uses : List ℕ → Type 0} {Apart : List ℕ → List ℕ → Type 0} (read_of : List ℕ → Option (List ℕ)) (base db : Trees) → HasCells (book_of base) (bodies_of base) → HasCells (book_of db) (bodies_of db) → OnlyLetsGo (bodies_of base) (bodies_of db) → ItemsStay base db → HaveOwn Uses Apart base
    → LetsGoOf read_of read_of base db
fewer_of read_of base db had has lets items k = record {
  lets = fewer_only read_of base db lets items k;
  none_lost = loses_none read_of read_of base db had has (fewer read_of base db lets items k).none_lost;
}

-- cells were let go
module _ {Apart : List ℕ → List ℕ → Type 0} {Used : List ℕ → Type 0} {Stood : List ℕ → List ℕ → Type 0} {Uses : List ℕ → Type 0} {Stands : List ℕ → List ℕ → Type 0} {was_of read_of : List ℕ → Option (List ℕ)} (base db : Trees) (alike : ReadsAsBefore Used was_of read_of)
    (goes : LetsCellsGo Apart Used Stood Uses Stands base db) (items : items_of db ≡ items_of base) (k : HaveOwn Used Apart base) where
  pub gone : Left Uses Apart was_of read_of base db
  gone = record {
    own = record {
      used = λ uid cell h. (goes.keeps k.apart uid cell h (k.used uid cell (goes.lets uid cell h))).0;
      apart = still_apart Apart base db goes.lets k.apart;
    };
    none_lost = lose_none {Used = Used} {was_of = was_of} {read_of = read_of} base db alike k.used goes.lets (same_items base db items);
  }

  pub gone_only : OnlyLetsGo (bodies_with was_of base) (bodies_with read_of db)
  gone_only = only_lets {Used = Used} {was_of = was_of} {read_of = read_of} base db alike k.used goes.lets (same_items base db items)

  pub gone_of : HasCells (book_of base) (bodies_of base) → HasCells (book_of db) (bodies_of db) → LetsGoOf was_of read_of base db
  gone_of had has = record { lets = gone_only; none_lost = loses_none was_of read_of base db had has gone.none_lost }

-- ---- the items

items_are : (b c : Book) → c ≡ b → c.items ≡ b.items
items_are b c same = ap (λ (x : Book). x.items) same

pub settled_items : (uid dest : Text) (outcome : Outcome) (now : ℕ) (b : Book) (r : Result (Unit {0}) LedgerFault) (c : Book) → Settles uid dest outcome now b r c → c.items ≡ b.items
settled_items uid dest outcome now b (Ok done) c is = ap (λ (x : Book). x.items) is.1
settled_items uid dest outcome now b (Err fault.NotWaiting) c is = items_are b c is.1
settled_items uid dest outcome now b (Err fault.Store) c is = items_are b c is
settled_items uid dest outcome now b (Err fault.Memory) c is = items_are b c is
settled_items uid dest outcome now b (Err fault.NoLine) c is = absurd is
settled_items uid dest outcome now b (Err fault.Conflict) c is = absurd is
settled_items uid dest outcome now b (Err fault.NotHeld) c is = absurd is
settled_items uid dest outcome now b (Err fault.NotOver) c is = absurd is

pub requeued_items : (uid dest : Text) (b : Book) (r : Result (Unit {0}) LedgerFault) (c : Book) → Requeues uid dest b r c → c.items ≡ b.items
requeued_items uid dest b (Ok done) c is = ap (λ (x : Book). x.items) is.1
requeued_items uid dest b (Err fault.NotHeld) c is = items_are b c is.1
requeued_items uid dest b (Err fault.Store) c is = items_are b c is
requeued_items uid dest b (Err fault.Memory) c is = items_are b c is
requeued_items uid dest b (Err fault.NoLine) c is = absurd is
requeued_items uid dest b (Err fault.Conflict) c is = absurd is
requeued_items uid dest b (Err fault.NotWaiting) c is = absurd is
requeued_items uid dest b (Err fault.NotOver) c is = absurd is

pub dropped_items : (uid dest : Text) (now : ℕ) (b : Book) (r : Result (Unit {0}) LedgerFault) (c : Book) → Drops uid dest now b r c → c.items ≡ b.items
dropped_items uid dest now b (Ok done) c is = ap (λ (x : Book). x.items) is.1
dropped_items uid dest now b (Err fault.NotHeld) c is = items_are b c is.1
dropped_items uid dest now b (Err fault.Store) c is = items_are b c is
dropped_items uid dest now b (Err fault.Memory) c is = items_are b c is
dropped_items uid dest now b (Err fault.NoLine) c is = absurd is
dropped_items uid dest now b (Err fault.Conflict) c is = absurd is
dropped_items uid dest now b (Err fault.NotWaiting) c is = absurd is
dropped_items uid dest now b (Err fault.NotOver) c is = absurd is

pub adopted_items : (b : Book) (r : Result (Unit {0}) LedgerFault) (c : Book) → Adopting b r c → c.items ≡ b.items
adopted_items b (Ok done) c is = ap (λ (x : Book). x.items) is
adopted_items b (Err fault.Store) c is = items_are b c is
adopted_items b (Err fault.Memory) c is = items_are b c is
adopted_items b (Err fault.NoLine) c is = absurd is
adopted_items b (Err fault.Conflict) c is = absurd is
adopted_items b (Err fault.NotWaiting) c is = absurd is
adopted_items b (Err fault.NotHeld) c is = absurd is
adopted_items b (Err fault.NotOver) c is = absurd is

pub settled : (uid dest : Text) (outcome : Outcome) (now : ℕ) (r : Result (Unit {0}) LedgerFault) (base db : Trees) → Settles uid dest outcome now (book_of base) r (book_of db) → ItemsStay base db
settled uid dest outcome now r base db it = same_items base db (settled_items uid dest outcome now (book_of base) r (book_of db) it)

pub requeued : (uid dest : Text) (r : Result (Unit {0}) LedgerFault) (base db : Trees) → Requeues uid dest (book_of base) r (book_of db) → ItemsStay base db
requeued uid dest r base db it = same_items base db (requeued_items uid dest (book_of base) r (book_of db) it)

pub dropped : (uid dest : Text) (now : ℕ) (r : Result (Unit {0}) LedgerFault) (base db : Trees) → Drops uid dest now (book_of base) r (book_of db) → ItemsStay base db
dropped uid dest now r base db it = same_items base db (dropped_items uid dest now (book_of base) r (book_of db) it)

pub adopted : (r : Result (Unit {0}) LedgerFault) (base db : Trees) → Adopting (book_of base) r (book_of db) → ItemsStay base db
adopted r base db it = same_items base db (adopted_items (book_of base) r (book_of db) it)

-- an adoption that a crash leaves
pub adopted_so : (next : Part) (base db : Trees) → IsAdopted next base db → OnlyLetsGo (bodies_of base) (bodies_of db) × ItemsStay base db
adopted_so next base db made = ((λ uid cell h. ap (λ cells. map.get cells uid) (sym made.bodies) ∙ h), adopted (Ok tt) base db made.book)

-- what is forgotten has no cell
module _ (uid : Text) (base db : Trees) (has : HasCells (book_of base) (bodies_of base)) (lets : OnlyLetsGo (bodies_of base) (bodies_of db)) where
  other : IsOver (book_of base) uid → (u : Text) (cell : List ℕ) → map.get (bodies_of base) u ≡ Some cell → Apart u uid
  other over u cell was = elim (same_or_not texts u uid) [
    | inr apart ↦ apart
    | inl same ↦ absurd (not_needed (book_of base) uid over (subst (IsNeeded (book_of base)) same ((has.there u).0 (cell, was))))
  ]

  left : IsOver (book_of base) uid → book_of db ≡ after (Forgetting uid) (book_of base) → ItemsStay base db
  left over is = record {
    stay = λ u cell h i there. ap (λ (x : Book). map.get x.items u) is ∙ item_stays (book_of base) uid u i (other over u cell (lets u cell h)) there;
    back = λ u i there. (item_left (book_of base) uid u i (ap (λ (x : Book). map.get x.items u) (sym is) ∙ there)).1;
  }

  pub forgotten : (r : Result (Unit {0}) LedgerFault) → Forgets uid (book_of base) r (book_of db) → ItemsStay base db
  forgotten (Ok done) it = left it.0 it.1
  forgotten (Err fault.NotOver) it = same_items base db (items_are (book_of base) (book_of db) it.1)
  forgotten (Err fault.Store) it = same_items base db (items_are (book_of base) (book_of db) it)
  forgotten (Err fault.Memory) it = same_items base db (items_are (book_of base) (book_of db) it)
  forgotten (Err fault.NoLine) it = absurd it
  forgotten (Err fault.Conflict) it = absurd it
  forgotten (Err fault.NotWaiting) it = absurd it
  forgotten (Err fault.NotHeld) it = absurd it

-- ---- what a crash leaves

-- of a call that the shelf doesn't know of
pub left_of : {Uses : List ℕ → Type 0} {Apart : List ℕ → List ℕ → Type 0} (read_of : List ℕ → Option (List ℕ)) (base db : Trees) (Makes : Trees → Trees → Type 0) → (Makes base db → OnlyLetsGo (bodies_of base) (bodies_of db) × ItemsStay base db)
    → (db ≡ base) ⊎ Makes base db → HaveOwn Uses Apart base → Left Uses Apart read_of read_of base db
left_of {Uses = Uses} {Apart = Apart} read_of base db Makes says (inl same) k =
    subst (Left Uses Apart read_of read_of base) (sym same) (fewer read_of base base (λ uid cell h. h) (same_items base base refl) k)
left_of read_of base db Makes says (inr made) k =
    let it = says made in
    fewer read_of base db it.0 it.1 k

-- what is said of all answers is said of a failed one
pub if_failed : {A P : Type 0} (r : Result A LedgerFault) → P → OnErr r P
if_failed (Ok value) p = tt
if_failed (Err why) p = p

-- a call that failed left the shelf as it was
pub not_gone : {A Shelf Kept Had : Type 0} (P : Shelf → Trees → Type 0) (r : Result A LedgerFault) (was shelf : Shelf) → OnErr r (shelf ≡ was) → (May : Trees → Type 0) → (Kept → Had → (db : Trees) → May db → P was db) → OnErr r (Kept → Had → (db : Trees) → May db → P shelf db)
not_gone P (Ok value) was shelf same May owns = tt
not_gone P (Err why) was shelf same May owns = λ k own db may. subst (λ s. P s db) (sym same) (owns k own db may)

-- ---- where an item comes

-- an arrival leaves all items
items_stay : (routing : Routing) (caller : Text) (item : Instance) (b : Book) (r : Result Arrived LedgerFault) (c : Book) → Arrives routing caller item b r c
    → (uid : Text) (i : Instance) → map.get b.items uid ≡ Some i → map.get c.items uid ≡ Some i
items_stay routing caller item b (Ok New) c is uid i h =
    let there : map.get (after (arrival_line routing caller item) b).items uid ≡ Some i = filled_keeps texts b.items item.uid item uid i h in
    subst (λ (x : Book). map.get x.items uid ≡ Some i) (sym is.2) there
items_stay routing caller item b (Ok Again) c is uid i h = subst (λ (x : Book). map.get x.items uid ≡ Some i) (sym is.2) h
items_stay routing caller item b (Err fault.NoLine) c is uid i h = subst (λ (x : Book). map.get x.items uid ≡ Some i) (sym is.1) h
items_stay routing caller item b (Err fault.Conflict) c is uid i h = subst (λ (x : Book). map.get x.items uid ≡ Some i) (sym is.2) h
items_stay routing caller item b (Err fault.Store) c is uid i h = subst (λ (x : Book). map.get x.items uid ≡ Some i) (sym is.1) h
items_stay routing caller item b (Err fault.Memory) c is uid i h = subst (λ (x : Book). map.get x.items uid ≡ Some i) (sym is.1) h
items_stay routing caller item b (Err fault.NotWaiting) c is uid i h = absurd is
items_stay routing caller item b (Err fault.NotHeld) c is uid i h = absurd is
items_stay routing caller item b (Err fault.NotOver) c is uid i h = absurd is

-- ---- where the shelf changes

module _ {Used : List ℕ → Type 0} {was_of read_of : List ℕ → Option (List ℕ)} (alike : ReadsAsBefore Used was_of read_of) where
  pub same_bodies : (db : Trees) → AreUsed Used (bodies_of db) → bodies_with read_of db ≡ bodies_with was_of db
  same_bodies db used = map.same_map nat_list_cmp_total exact_bytes _ _ (λ uid. both uid (map.get (bodies_with read_of db) uid) (map.get (bodies_with was_of db) uid) refl refl)
    where
      here : (uid : Text) (body : List ℕ) → map.get (bodies_with was_of db) uid ≡ Some body → map.get (bodies_with read_of db) uid ≡ Some body
      here uid body h =
          let it = is_read was_of db uid body h in
          moved was_of read_of db db uid it.cell body it.there it.there (alike it.cell (used uid it.cell it.there)) (λ i is. is) h

      back : (uid : Text) (body : List ℕ) → map.get (bodies_with read_of db) uid ≡ Some body → map.get (bodies_with was_of db) uid ≡ Some body
      back uid body h =
          let it = is_read read_of db uid body h in
          moved read_of was_of db db uid it.cell body it.there it.there (sym (alike it.cell (used uid it.cell it.there))) (λ i is. is) h

      both : (uid : Text) (now before : Option (List ℕ)) → map.get (bodies_with read_of db) uid ≡ now → map.get (bodies_with was_of db) uid ≡ before → map.get (bodies_with read_of db) uid ≡ map.get (bodies_with was_of db) uid
      both uid (Some body) before is was = is ∙ sym (back uid body is)
      both uid None None is was = is ∙ sym was
      both uid None (Some body) is was = here uid body was ∙ sym was

-- an item came by a new cell, or none did
module _ {Used : List ℕ → Type 0} {Stood : List ℕ → List ℕ → Type 0} {Uses : List ℕ → Type 0} {Stands Apart : List ℕ → List ℕ → Type 0} {was_of read_of : List ℕ → Option (List ℕ)} (keeps : KeepsCells Used Stood Uses Stands) (alike : ReadsAsBefore Used was_of read_of)
    (stood : (cell bytes : List ℕ) → Stands cell bytes → read_of cell ≡ Some bytes) (Same : Type 0) (item : Job) (base db : Trees) (stay : (uid : Text) (i : Instance) → map.get (items_of base) uid ≡ Some i → map.get (items_of db) uid ≡ Some i)
    (takes : TakesItem (IsPut Same Used Uses Stands Apart) item base db) (k : HaveOwn Used Apart base) where
  -- what comes is the item's data set
  pub only_takes : OnlyTakes item (bodies_with was_of base) (bodies_with read_of db)
  only_takes uid body h =
      let it = is_read read_of db uid body h in
      elim (takes uid it.cell it.there) [
        | inl was ↦ inl (moved read_of was_of db base uid it.cell body it.there was (sym (alike it.cell (k.used uid it.cell was))) (back it.cell was) h)
        | inr new ↦ inr (new.0, inside body item.body (sym it.reads ∙ stood it.cell item.body new.1.1))
      ]
    where
      back : (cell : List ℕ) → map.get (bodies_of base) uid ≡ Some cell → (i : Instance) → map.get (items_of db) uid ≡ Some i → map.get (items_of base) uid ≡ Some i
      back cell was i is =
          let had = has_item base uid cell was in
          had.1 ∙ ap Some (inside had.0 i (sym (stay uid had.0 had.1) ∙ is))

  took : ((cell other : List ℕ) → Apart cell other → Apart other cell) → Left Uses Apart was_of read_of base db
  took swaps = record {
    own = record {
      used = λ uid cell h. elim (takes uid cell h) [ inl was ↦ (keeps cell (k.used uid cell was)).0 | inr new ↦ new.1.0 ];
      apart = λ uid other cell beside differ h there. elim (takes uid cell h) [
        | inl was ↦ elim (takes other beside there) [ inl had ↦ k.apart uid other cell beside differ was had | inr new ↦ swaps beside cell (new.1.2 cell (k.used uid cell was)) ]
        | inr new ↦ elim (takes other beside there) [ inl had ↦ new.1.2 beside (k.used other beside had) | inr too ↦ absurd (differ (new.0 ∙ sym too.0)) ]
      ];
    };
    none_lost = lost;
  }
    where
      lost : LosesNoCell was_of read_of base db
      lost uid cell h had = elim (takes uid cell h) [
        | inl was ↦ elim had [
          | inl there ↦ (there.0, moved was_of read_of base db uid cell there.0 was h (alike cell (k.used uid cell was)) (stay uid) there.1)
          | inr none ↦ absurd (nothing_is cell (map.get (bodies_of base) uid) was none)
        ]
        | inr new ↦ (
          item.body,
          read_is read_of db uid item.body (record {
            cell = cell;
            there = h;
            reads = stood cell item.body new.1.1;
            item = item;
            is_item = new.2;
            same = refl;
            known = ap (map.get (items_of db)) new.0 ∙ new.3;
          }),
        )
      ]

module _ {Used : List ℕ → Type 0} {Stood : List ℕ → List ℕ → Type 0} {Uses : List ℕ → Type 0} {Stands Apart : List ℕ → List ℕ → Type 0} {was_of read_of : List ℕ → Option (List ℕ)} (keeps : KeepsCells Used Stood Uses Stands) (alike : ReadsAsBefore Used was_of read_of)
    (stood : (cell bytes : List ℕ) → Stands cell bytes → read_of cell ≡ Some bytes) (swaps : (cell other : List ℕ) → Apart cell other → Apart other cell) (Same : Type 0) (part : Part) (caller : Text) (item : Job) (base db : Trees) where
  pub arrived : (r : Result Arrived LedgerFault) → AnswersTo (IsPut Same Used Uses Stands Apart) part caller item r base db → HaveOwn Used Apart base → Left Uses Apart was_of read_of base db
  arrived r it k = took keeps alike stood Same item base db (items_stay (site_routing part) caller (instance_of item) (book_of base) r (book_of db) it.0) it.1 k swaps

  pub arrived_only : (r : Result Arrived LedgerFault) → AnswersTo (IsPut Same Used Uses Stands Apart) part caller item r base db → HaveOwn Used Apart base → OnlyTakes item (bodies_with was_of base) (bodies_with read_of db)
  arrived_only r it k = only_takes keeps alike stood Same item base db (items_stay (site_routing part) caller (instance_of item) (book_of base) r (book_of db) it.0) it.1 k

  -- nothing came upon these tables, but for a cell that no row has
  untouched : HaveOwn Used Apart base → Left Uses Apart was_of read_of base base
  untouched k = record {
    own = record { used = λ uid cell h. (keeps cell (k.used uid cell h)).0; apart = k.apart };
    none_lost = lose_none {Used = Used} {was_of = was_of} {read_of = read_of} base base alike k.used (λ uid cell h. h) (same_items base base refl);
  }

  -- what a crash leaves of an arrival
  pub left_by_arrival : (db ≡ base) ⊎ AcceptsItem (IsPut Same Used Uses Stands Apart) part caller item base db → HaveOwn Used Apart base → Left Uses Apart was_of read_of base db
  left_by_arrival (inl same) k = subst (Left Uses Apart was_of read_of base) (sym same) (untouched k)
  left_by_arrival (inr made) k = took keeps alike stood Same item base db (items_stay (site_routing part) caller (instance_of item) (book_of base) (Ok made.0.0) (book_of db) made.0.1) made.1 k swaps
