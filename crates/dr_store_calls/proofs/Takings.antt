-- Arrivals that are taken.
use Rattle.std.proofs.Common.{◌≡◌, ◌≢◌, ◌⊎◌, ◌==◌, inl, inr, ℕ, pos, ◌+◌, ◌≤◌, ◌^◌, Bool, true, false, cond, not, ◌&&◌, List, [], ◌∷◌, Contains, Option, Some, None, IsSome, Ok, Err, Result, refl, sym, ap, subst, ◌∙◌, true≢false, arith, ne_eqb}
use Rattle.std.specs.FinMap as map
use Rattle.std.specs.FinSet as set
use Rattle.sqlite.specs.Tree.{Trees}
use Rattle.dr_base.specs.Texts.{Text}
use Rattle.dr_plan_model.proofs.WalksAlike.{local_never_sent_to}
use Rattle.dr_route.specs.declared.key.Key.{Key}
use Rattle.dr_route.specs.Routes.{local}
use Rattle.dr_site.specs.Parts.{Part}
use Rattle.dr_site.specs.Routing.{HasLineFor, SendsFrom}
use Rattle.dr_site.specs.Sites.{IsSite}
use Rattle.dr_site.proofs.AsPlanned.{sends_as_planned}
use Rattle.dr_ledger.specs.declared.content.Job.{Job}
use Rattle.dr_ledger.specs.declared.fault.LedgerFault.{LedgerFault}
use Rattle.dr_ledger.specs.declared.fault.LedgerFault.TheVariants as fault
use Rattle.dr_ledger.specs.declared.item.Arrived.{Arrived}
use Rattle.dr_ledger.specs.declared.item.Arrived.TheVariants.{New, Again}
use Rattle.dr_ledger.specs.declared.item.Instance.{Instance}
use Rattle.dr_ledger.specs.Bodies.{Bodies}
use Rattle.dr_ledger.specs.Books.{Book, Line, Arrival, Repeat, after}
use Rattle.dr_ledger.specs.Items.{IsItem, instance_of}
use Rattle.dr_ledger.specs.Replies.{Arrives, IsAdmitted, IsLastingFault}
use Rattle.dr_ledger.specs.SiteRoutes.{site_routing}
use Rattle.dr_ledger.proofs.Growing.{inside}
use Rattle.dr_ledger.proofs.Maps.{filled_is, get_new, got, texts}
use Rattle.dr_ledger_past.proofs.Goings.{arrivals_go_on}
use Rattle.dr_store_schema.specs.Books.{AreBelow, arrivals_in, bodies_of, book_of, items_of, names_in, rows_of}
use Rattle.dr_store_writes.specs.Effects.{arrived_line}
use Rattle.dr_store_changes.specs.declared.first.Taking.{Taking}
use Rattle.dr_store_changes.specs.declared.first.Taking.TheVariants as taking
use Rattle.dr_store_changes.specs.Bringing.{AreTargets, Brings, GoNowhere, HasCells, IsKnownFor, bodies_taken, given_up, missing, names_for}
use Rattle.dr_store_changes.specs.Changes.{AddsOnlyLine, with_names}
use Rattle.dr_store_changes.proofs.Bookings.{repeats_repeat}
use Rattle.dr_store_changes.proofs.Joins.{arrivals_arrive, data_sets_come}
use Rattle.dr_store_changes.proofs.Together.{untouched}
use Rattle.sqlite.specs.State.{State}
use Rattle.dr_store_calls.specs.declared.bringing.Delivery.{Delivery}
use Rattle.dr_store_calls.specs.Calling.{Called, IsLedgerOf, IsOwnFault, Looked, Nothing, advanced}
use Rattle.dr_store_calls.specs.Knowing.{FitsTables, IsThere}
use Rattle.dr_store_calls.specs.Receiving.{AcceptsAs, AcceptsOne, AnswersWith, ComesNone, IsAccounted, IsCellTaken, IsDelivered, Receives, ReceivesAs, TakesOn}
use Rattle.dr_store_calls.proofs.Calls.{asked_as, looked_failed, looked_then, own_lasts, said_as, still_called}
use Rattle.dr_store_calls.proofs.Ledgers.{one_line_more, still_counted, still_owned}

-- ---- a first arrival

cell_came : (how : Taking) (uid : Text) (cell : List ℕ) (bodies : Bodies) (other : Text) (there : List ℕ) → map.get (bodies_taken how bodies uid cell) other ≡ Some there
    → (map.get bodies other ≡ Some there) ⊎ ((other ≡ uid) × IsCellTaken how cell (Some there))
cell_came taking.New uid cell bodies other there h = elim (got texts bodies uid cell other there h) [ inl new ↦ inr (new.0, (refl, new.1)) | inr was ↦ inl was.1 ]
cell_came taking.Bare uid cell bodies other there h = inl h
cell_came taking.Again uid cell bodies other there h = elim (got texts bodies uid cell other there h) [ inl new ↦ inr (new.0, (refl, new.1)) | inr was ↦ inl was.1 ]
cell_came taking.Nothing uid cell bodies other there h = inl h

-- a cell comes, or none does
came_or_not : (how : Taking) (uid : Text) (cell : List ℕ) (bodies new : Bodies) → new ≡ bodies_taken how bodies uid cell
    → IsCellTaken how cell None ⊎ ((there : List ℕ) × (map.get new uid ≡ Some there) × IsCellTaken how cell (Some there))
came_or_not taking.New uid cell bodies new is = inr (cell, ap (λ x. map.get x uid) is ∙ get_new texts bodies uid cell, (refl, refl))
came_or_not taking.Bare uid cell bodies new is = inl refl
came_or_not taking.Again uid cell bodies new is = inr (cell, ap (λ x. map.get x uid) is ∙ get_new texts bodies uid cell, (refl, refl))
came_or_not taking.Nothing uid cell bodies new is = inl refl

-- an item's size is one that a row can tell
pub is_small : (item : Job) (instance : Instance) → IsItem item → instance ≡ instance_of item → instance.size ≤ 2 ^ 62
is_small item instance is same =
    let P : Instance → Type 0 = λ i. i.size ≤ 2 ^ 62 in
    let fits = is.fits in
    subst P (sym same) (omega (arith, fits))

known_same : (how : Taking) (item : Instance) (found : Option Instance) → IsKnownFor how item found → (held : Instance) → found ≡ Some held → held ≡ item
known_same taking.New item found known held is = absurd (let e : None ≡ Some held = sym known ∙ is in cc)
known_same taking.Bare item found known held is = absurd (let e : None ≡ Some held = sym known ∙ is in cc)
known_same taking.Again item found known held is = sym (inside item held (sym known ∙ is))
known_same taking.Nothing item found known held is = sym (inside item held (sym known ∙ is))

module _ {past : List Line} (n : ℕ) (moment : Option ℕ) (part : Part) (how : Taking) (caller : Text) (instance : Instance) (cell : List ℕ) (to : List Text) (keep : Bool) (again dests : List Text) (keeps : Bool) (base db : Trees)
    (line : HasLineFor part caller instance.key) (to_is : to ≡ (site_routing part).targets caller instance.key) (keep_is : keep ≡ (site_routing part).keeps caller instance.key) (names : AreTargets to)
    (below : AreBelow n (base 11)) (l : IsLedgerOf past n part base) (f : FitsTables how caller instance to keep again dests keeps base)
    (w : Brings how caller instance cell again dests keeps (names_for keep to) n moment base db) where
  book : book_of db ≡ after (Arrival caller instance to keep) (book_of base)
  book =
      let P : List Text → List Text → Bool → Type 0 = λ again' ds ks. Brings how caller instance cell again' ds ks (names_for keep to) n moment base db in
      arrivals_arrive how base db n moment caller instance cell to keep below l.ahead f.known names
      (subst (λ ks. P (given_up (rows_of base) instance.uid to) (missing (rows_of base) instance.uid to) ks) f.keeps_is
      (subst (λ ds. P (given_up (rows_of base) instance.uid to) ds keeps) f.missing_are (subst (λ again'. P again' dests keeps) f.again_are w)))

  same : (held : Instance) → map.get (items_of base) instance.uid ≡ Some held → held ≡ instance
  same held is = known_same how instance (map.get (items_of base) instance.uid) f.known held is

  answer : Arrives (site_routing part) caller instance (book_of base) (Ok New) (book_of db)
  answer = (record { line = line; same = same }, f.first, book ∙ (λ i. after (Arrival caller instance (to_is i) (keep_is i)) (book_of base)))

  bodied : HasCells (book_of db) (bodies_of db)
  bodied =
      subst (λ b. HasCells b (bodies_of db)) (sym book)
      (subst (λ x. HasCells (after (Arrival caller instance to keep) (book_of base)) x) (sym w.bodies) (data_sets_come how (book_of base) caller instance cell to keep (bodies_of base) l.bodied f.comes))

  -- the instance is the book's then
  has : map.get (items_of db) instance.uid ≡ Some instance
  has = ap (λ (b : Book). map.get b.items instance.uid) book ∙ filled_is texts (items_of base) instance.uid instance same

  takes : TakesOn (IsCellTaken how cell) instance base db
  takes uid there h = elim (cell_came how instance.uid cell (bodies_of base) uid there (ap (λ x. map.get x uid) (sym w.bodies) ∙ h)) [
    | inl was ↦ inl was
    | inr new ↦ inr (new.0, new.1, has)
  ]

  accounted : IsAccounted (IsCellTaken how cell) (Ok New) instance.uid db
  accounted = came_or_not how instance.uid cell (bodies_of base) (bodies_of db) w.bodies

  ahead : GoNowhere (n + 1) db
  ahead m later =
      w.targets m ∙ ap (λ b. cond b (with_names (names_in (base 12) m) (names_for keep to)) (names_in (base 12) m)) (ne_eqb n m (λ e. omega (arith, e, later)))
      ∙ l.ahead m (omega (arith, later))

  pub arrives : IsLedgerOf past (n + 1) part db × (Arrives (site_routing part) caller instance (book_of base) (Ok New) (book_of db) × TakesOn (IsCellTaken how cell) instance base db × IsAccounted (IsCellTaken how cell) (Ok New) instance.uid db)
  arrives = (
    record { owned = still_owned part base db w.site l.owned; counted = still_counted past base db w.site l.counted; together = w.together l.together; numbered = one_line_more n (arrived_line n moment 0 caller instance) base db refl w.journal l.numbered; ahead = ahead; journalled = arrivals_go_on (site_routing part) past caller instance (book_of base) (book_of db) (Ok New) l.journalled answer; bodied = bodied },
    (answer, takes, accounted),
  )

-- ---- a repeat

pub repeats : {past : List Line} (n : ℕ) (moment : Option ℕ) (part : Part) (caller : Text) (instance : Instance) (whole : Bool) (base db : Trees) → HasLineFor part caller instance.key → AreBelow n (base 11) → IsLedgerOf past n part base
    → IsThere base instance whole → set.contains (arrivals_in (base 5)) (caller, instance.uid) ≡ true → AddsOnlyLine (arrived_line n moment 1 caller instance) base db
    → IsLedgerOf past (n + 1) part db × (Arrives (site_routing part) caller instance (book_of base) (Ok Again) (book_of db) × TakesOn ComesNone instance base db × IsAccounted ComesNone (Ok Again) instance.uid db)
repeats {past} n moment part caller instance whole base db line below l was again w =
    let made = repeats_repeat base db n moment caller instance below w in
    let answer : Arrives (site_routing part) caller instance (book_of base) (Ok Again) (book_of db) = (
      record { line = line; same = λ held is. sym (inside instance held (sym was.same ∙ is)) },
      again,
      made.0,
    ) in
    let has : HasCells (after (Repeat caller instance) (book_of base)) (bodies_of base) = record { there = l.bodied.there } in (
      record {
        owned = still_owned part base db w.site l.owned;
        counted = still_counted past base db w.site l.counted;
        together = untouched base db w.items w.prints l.together;
        numbered = one_line_more n (arrived_line n moment 1 caller instance) base db refl w.journal l.numbered;
        ahead = λ m later. ap (λ rows. names_in rows m) w.targets ∙ l.ahead m (omega (arith, later));
        journalled = arrivals_go_on (site_routing part) past caller instance (book_of base) (book_of db) (Ok Again) l.journalled answer;
        bodied = subst (λ b. HasCells b (bodies_of db)) (sym made.0) (subst (λ x. HasCells (after (Repeat caller instance) (book_of base)) x) (sym made.1) has);
      },
      (answer, λ q there h. inl (sym (ap (λ cells. map.get cells q) made.1) ∙ h), tt),
    )

-- ---- refusals

pub arrives_own : (part : Part) (caller : Text) (item : Instance) (b : Book) (e : LedgerFault) → HasLineFor part caller item.key → IsOwnFault e → Arrives (site_routing part) caller item b (Err e) b
arrives_own part caller item b e line (inl is) = subst (λ x. Arrives (site_routing part) caller item b (Err x) b) (sym is) (line, refl)
arrives_own part caller item b e line (inr is) = subst (λ x. Arrives (site_routing part) caller item b (Err x) b) (sym is) (line, refl)

pub takes_none : (Comes : Option (List ℕ) → Type 0) (instance : Instance) (db : Trees) → TakesOn Comes instance db db
takes_none Comes instance db uid there h = inl h

-- where more is new
pub takes_more : (One Other : Option (List ℕ) → Type 0) → ((came : Option (List ℕ)) → One came → Other came) → (instance : Instance) (base db : Trees) → TakesOn One instance base db → TakesOn Other instance base db
takes_more One Other more instance base db takes uid there h = elim (takes uid there h) [ inl was ↦ inl was | inr new ↦ inr (new.0, more (Some there) new.1, new.2) ]

pub accounted_more : (One Other : Option (List ℕ) → Type 0) → ((came : Option (List ℕ)) → One came → Other came) → (r : Result Arrived LedgerFault) (uid : Text) (db : Trees) → IsAccounted One r uid db → IsAccounted Other r uid db
accounted_more One Other more (Ok New) uid db is = elim is [ inl none ↦ inl (more None none) | inr came ↦ inr (came.0, came.1, more (Some came.0) came.2) ]
accounted_more One Other more (Ok Again) uid db is = more None is
accounted_more One Other more (Err fault.NoLine) uid db is = more None is
accounted_more One Other more (Err fault.Conflict) uid db is = more None is
accounted_more One Other more (Err fault.Store) uid db is = tt
accounted_more One Other more (Err fault.Memory) uid db is = tt
accounted_more One Other more (Err fault.NotWaiting) uid db is = tt
accounted_more One Other more (Err fault.NotHeld) uid db is = tt
accounted_more One Other more (Err fault.NotOver) uid db is = tt

-- of a fault of its own nothing is said
pub accounted_own : (Comes : Option (List ℕ) → Type 0) (e : LedgerFault) (uid : Text) (db : Trees) → IsOwnFault e → IsAccounted Comes (Err e) uid db
accounted_own Comes e uid db (inl is) = subst (λ x. IsAccounted Comes (Err x) uid db) (sym is) tt
accounted_own Comes e uid db (inr is) = subst (λ x. IsAccounted Comes (Err x) uid db) (sym is) tt

-- where none comes, none is put
pub from_none : (Comes : Option (List ℕ) → Type 0) → Comes None → (came : Option (List ℕ)) → ComesNone came → Comes came
from_none Comes none None is = none
from_none Comes none (Some there) is = absurd is

-- ---- a site sends nothing to the local caller

pub not_to_local : (part : Part) (caller : Text) (key : Key) → IsSite part → SendsFrom part caller key local → ⊥
not_to_local part caller key site sends =
    let some = site.some in
    local_never_sent_to some.0 some.2.formed part.name caller key ((sends_as_planned some.0 some.1 part some.3 caller key local).0 sends)

-- ---- what is said of an arrival, whatever the tables have of it

pub refused : (Comes : Option (List ℕ) → Type 0) (part : Part) (caller : Text) (instance : Instance) (e : LedgerFault) → HasLineFor part caller instance.key → IsOwnFault e → (db : Trees) → AnswersWith Comes part caller instance (Err e) db db
refused Comes part caller instance e line own db = (arrives_own part caller instance (book_of db) e line own, takes_none Comes instance db, accounted_own Comes e instance.uid db own)

module _ (Comes : Option (List ℕ) → Type 0) (came : Delivery) (old new : State) where
  abbrev Answers : Result Arrived LedgerFault → Trees → Trees → Type 0
  Answers r = AnswersWith Comes came.site.now came.caller.now came.instance.now r

  abbrev Makes : Trees → Trees → Type 0
  Makes = AcceptsOne Comes came.site.now came.caller.now came.instance.now

  -- where what is known couldn't be read
  pub not_read : {A : Type 0} (Shows : Trees → A → Type 0) (e : LedgerFault) (Asks : Trees → Type 0) → IsDelivered came → Looked came.n came.site.now (Err e) old new Shows → Receives Comes came (Err e) old new Asks
  not_read Shows e Asks is l =
      looked_failed {B = Arrived} came.n came.site.now old new Shows e Asks (Answers (Err e)) Makes l
      (λ base asks own. refused Comes came.site.now came.caller.now came.instance.now e is.line own base)

  -- what is known by reading helps a call that takes it
  pub read_then : {A : Type 0} (mid : State) (Shows : Trees → A → Type 0) (a : A) (r : Result Arrived LedgerFault) (Asks Given : Trees → Type 0) → Looked came.n came.site.now (Ok a) old mid Shows → Receives Comes came r mid new Given
      → ((db : Trees) → Asks db → Shows db a → Given db) → Receives Comes came r old new Asks
  read_then mid Shows a r Asks Given l c gives =
      looked_then came.n (advanced r came.n) came.site.now old mid new Shows a r Asks Given (Answers r) Makes (Answers r) Makes l c (λ past db l asks shown. gives db asks shown) (λ base db asks shown it. it) (λ base db asks shown it. it)

  -- a call that asks for less
  pub received : (r : Result Arrived LedgerFault) (Asks More : Trees → Type 0) → ((db : Trees) → More db → Asks db) → Receives Comes came r old new Asks → Receives Comes came r old new More
  received r Asks More gives c =
      asked_as came.n (advanced r came.n) came.site.now r old new Asks More (Answers r) Makes (λ past db l more. gives db more) c

  -- a call with one answer, by which less is new
  pub received_as : (One : Option (List ℕ) → Type 0) → ((came : Option (List ℕ)) → One came → Comes came) → (which : Arrived) (r : Result Arrived LedgerFault) (Asks More : Trees → Type 0) → ((past : List Line) (db : Trees) → IsLedgerOf past came.n came.site.now db → More db → Asks db)
      → ReceivesAs One which came r old new Asks → Receives Comes came r old new More
  received_as One more which r Asks More gives c =
      said_as came.n (advanced r came.n) came.site.now r old new Asks More (AnswersWith One came.site.now came.caller.now came.instance.now r) (Answers r)
      (AcceptsAs One came.site.now came.caller.now came.instance.now which) Makes gives
      (λ base db it. (it.0, takes_more One Comes more came.instance.now base db it.1, accounted_more One Comes more r came.instance.now.uid db it.2))
      (λ base db it. ((which, it.0), takes_more One Comes more came.instance.now base db it.1)) c

  -- the same with the one answer still
  pub brought_as : (One : Option (List ℕ) → Type 0) → ((came : Option (List ℕ)) → One came → Comes came) → (which : Arrived) (r : Result Arrived LedgerFault) (Asks : Trees → Type 0) → ReceivesAs One which came r old new Asks
      → ReceivesAs Comes which came r old new Asks
  brought_as One more which r Asks c =
      said_as came.n (advanced r came.n) came.site.now r old new Asks Asks (AnswersWith One came.site.now came.caller.now came.instance.now r) (Answers r)
      (AcceptsAs One came.site.now came.caller.now came.instance.now which) (AcceptsAs Comes came.site.now came.caller.now came.instance.now which) (λ past db l asks. asks)
      (λ base db it. (it.0, takes_more One Comes more came.instance.now base db it.1, accounted_more One Comes more r came.instance.now.uid db it.2))
      (λ base db it. (it.0, takes_more One Comes more came.instance.now base db it.1)) c

module _ (Comes : Option (List ℕ) → Type 0) (came : Delivery) (s : State) (Asks : Trees → Type 0) where
  -- where nothing is done
  pub not_received : (e : LedgerFault) → ((db : Trees) → Asks db → AnswersWith Comes came.site.now came.caller.now came.instance.now (Err e) db db) → ((P : Type 0) → P → IsLastingFault e P) → Receives Comes came (Err e) s s Asks
  not_received e answers lasts =
      still_called {A = Arrived} came.n came.site.now (Err e) s Asks (AnswersWith Comes came.site.now came.caller.now came.instance.now (Err e)) (AcceptsOne Comes came.site.now came.caller.now came.instance.now) answers lasts

  -- where there is no memory
  pub no_memory : IsDelivered came → Receives Comes came (Err fault.Memory) s s Asks
  no_memory is = not_received fault.Memory (λ db asks. refused Comes came.site.now came.caller.now came.instance.now fault.Memory is.line (inr refl) db) (λ P h. tt)

  -- a first arrival that failed before anything of it was written
  pub not_brought : (which : Arrived) (e : LedgerFault) → IsDelivered came → IsOwnFault e → ReceivesAs Comes which came (Err e) s s Asks
  not_brought which e is own =
      still_called {A = Arrived} came.n came.site.now (Err e) s Asks (AnswersWith Comes came.site.now came.caller.now came.instance.now (Err e)) (AcceptsAs Comes came.site.now came.caller.now came.instance.now which)
      (λ db asks. refused Comes came.site.now came.caller.now came.instance.now e is.line own db) (λ P p. own_lasts e P own)
