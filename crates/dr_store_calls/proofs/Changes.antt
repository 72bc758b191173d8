-- An adoption as one transaction.
use Rattle.std.proofs.Common.{◌≡◌, ◌≤◌, ◌+◌, ◌⊎◌, inl, inr, ℕ, pos, false, IsTrue, List, Option, Result, Ok, Err, IfErr, refl, sym, ap, subst, ◌∙◌, arith}
use Rattle.sqlite.specs.declared.types.Value.TheVariants.{Int}
use Rattle.sqlite.specs.Effect.{Database}
use Rattle.sqlite.specs.State.{State, HasCleanDisk}
use Rattle.sqlite.specs.Tree.{Trees, put_row}
use Rattle.dr_site.specs.Parts.{Part}
use Rattle.dr_ledger.specs.declared.fault.LedgerFault.{LedgerFault}
use Rattle.dr_ledger.specs.declared.fault.LedgerFault.TheVariants as fault
use Rattle.dr_ledger.specs.Adopting.{Adopting}
use Rattle.dr_ledger.specs.Books.{Book, Line, not_over}
use Rattle.dr_ledger.specs.Replies.{Reads}
use Rattle.dr_store_schema.specs.Books.{bodies_of, book_of, rows_in}
use Rattle.dr_store_writes.specs.Effects.{AddsRow, DropsArrivals, DropsOver, GoesOn, HasSite, IsSiteOf, SetsPlan, adopted_line}
use Rattle.dr_store_changes.specs.Writing.{IsMade, IsReady, Written}
use Rattle.dr_store_changes.proofs.Movements.{goes_over}
use Rattle.dr_store_calls.specs.Calling.{Called, IsKept, IsLedgerOf, IsLeftLedger, IsOwnFault, Looked, Nothing}
use Rattle.dr_store_calls.proofs.Calls.{below_of, looked_failed, own_lasts, still_called}
use Rattle.dr_store_calls.specs.Adoptions.{Adopted, AdoptsPlan, AnswersAdoption, Clears, IsAdopted, NotesPlan}
use Rattle.dr_store_calls.specs.Owners.{IsOwnedSo, IsPlanWith, seal_in}
use Rattle.dr_store_calls.proofs.Adoptions.{adopted_ledgers_are_of_the_next, adoptions_adopt}
use Rattle.dr_store_calls.proofs.Owners.{seals_are_read}

-- ---- the statements

pub cleared : (old mid new : State) → DropsArrivals old mid → DropsOver mid new → GoesOn old new × Clears old.now.trees new.now.trees
cleared old mid new a d =
    let x = a.others in
    let y = d.others in (
      goes_over old mid new a.goes_on d.goes_on,
      record {
        arrivals = y.arrivals (omega arith) ∙ a.rows;
        rows = d.rows ∙ ap (λ rows. not_over (rows_in rows)) (x.queue (omega arith));
        site = y.site (omega arith) ∙ x.site (omega arith);
        items = y.items (omega arith) ∙ x.items (omega arith);
        prints = y.prints (omega arith) ∙ x.prints (omega arith);
        kept = y.kept (omega arith) ∙ x.kept (omega arith);
        journal = y.journal (omega arith) ∙ x.journal (omega arith);
        targets = y.targets (omega arith) ∙ x.targets (omega arith);
      },
    )

pub noted : (plan : List ℕ) (n : ℕ) (moment : Option ℕ) (old mid new : State) → SetsPlan plan old mid → AddsRow 11 (adopted_line n moment) mid new → GoesOn old new × NotesPlan plan n moment old.now.trees new.now.trees
noted plan n moment old mid new s a =
    let x = s.others in
    let y = a.others in (
      goes_over old mid new s.goes_on a.goes_on,
      record {
        site = λ node was is. y.site (omega arith) ∙ s.site node was is;
        journal = a.rows ∙ ap (put_row (adopted_line n moment)) (x.journal (omega arith));
        items = y.items (omega arith) ∙ x.items (omega arith);
        prints = y.prints (omega arith) ∙ x.prints (omega arith);
        arrivals = y.arrivals (omega arith) ∙ x.arrivals (omega arith);
        kept = y.kept (omega arith) ∙ x.kept (omega arith);
        queue = y.queue (omega arith) ∙ x.queue (omega arith);
        targets = y.targets (omega arith) ∙ x.targets (omega arith);
      },
    )

-- the owner is there still
pub owned_still : (old mid : State) → HasSite old.now.trees → GoesOn old mid × Clears old.now.trees mid.now.trees → GoesOn old mid × HasSite mid.now.trees
owned_still old mid owned c = (c.0, (owned.0, owned.1, c.1.site ∙ owned.2))

pub adopts : (plan : List ℕ) (n : ℕ) (moment : Option ℕ) (old mid new : State) → GoesOn old mid × Clears old.now.trees mid.now.trees → GoesOn mid new × NotesPlan plan n moment mid.now.trees new.now.trees → IsMade n (AdoptsPlan plan n moment) old new
adopts plan n moment old mid new one two =
    let c = one.1 in
    let p = two.1 in
    let journal : new.now.trees 11 ≡ put_row (adopted_line n moment) (old.now.trees 11) = p.journal ∙ ap (put_row (adopted_line n moment)) c.journal in
    record {
      goes_on = goes_over old mid new one.0 two.0;
      line = record { row = adopted_line n moment; numbered = refl; journal = journal };
      made = record {
        site = λ node was is. p.site node was (c.site ∙ is);
        items = p.items ∙ c.items;
        prints = p.prints ∙ c.prints;
        arrivals = p.arrivals ∙ c.arrivals;
        kept = p.kept ∙ c.kept;
        rows = ap rows_in p.queue ∙ c.rows;
        journal = journal;
        targets = p.targets ∙ c.targets;
      };
    }

-- ---- the call

pub adopting_own : (e : LedgerFault) (b : Book) → IsOwnFault e → Adopting b (Err e) b
adopting_own e b (inl is) = subst (λ x. Adopting b (Err x) b) (sym is) refl
adopting_own e b (inr is) = subst (λ x. Adopting b (Err x) b) (sym is) refl

-- nothing of the tables has changed
abbrev pub Stood : Trees → Trees → Type 0
Stood base db = db ≡ base

-- and a crash leaves nothing else
abbrev pub Never : Trees → Trees → Type 0
Never base db = ⊥

-- of tables that stayed as they were
pub stood_so : (next : Part) (e : LedgerFault) (base db : Trees) → IsOwnFault e → Stood base db → AnswersAdoption next (Err e) base db
stood_so next e base db own same = record {
  reply = subst (λ t. Adopting (book_of base) (Err e) (book_of t)) (sym same) (adopting_own e (book_of base) own);
  bodies = ap bodies_of same;
  owner = tt;
  same = same;
}

module _ (n : ℕ) (part next : Part) (old new : State) (Asks : Trees → Type 0) where
  -- a call that was refused, and made nothing of the tables
  pub refused_adopted : (e : LedgerFault) → ((past : List Line) → HasCleanDisk new → IsTrue new.is_open → IsKept past n part old → IsOwnFault e) → Called {A = Unit {0}} n n part (Err e) old new Asks Stood Never → Adopted n part next (Err e) old new Asks
  refused_adopted e own c = record {
    clean = c.clean;
    was_open = c.was_open;
    idle = c.idle;
    lasts = λ {past} clean k asks. c.lasts clean k asks;
    kept = λ {past} clean is_open k asks. c.kept clean is_open k asks;
    answers = λ {past} clean is_open k asks. stood_so next e old.committed.trees new.committed.trees (own past clean is_open k) (c.answers clean is_open k asks);
    crash = λ {past} clean k asks db left. elim (c.crash clean k asks db left) [ inl h ↦ inl h | inr none ↦ absurd none.1 ];
  }

-- what was written, where the tables had this owner: its cell has the mark and the seal that the next one gets
module _ (n : ℕ) (part next : Part) (old new : State) (still : old.in_transaction ≡ false → new.in_transaction ≡ false) (mark seal digest was cell : List ℕ) (had : IsPlanWith mark seal digest was) (has : IsPlanWith mark seal next.digest cell) (moment : Option ℕ) where
  -- the site whose the tables were
  abbrev last : Part
  last = record {
    name = next.name;
    max_pdu = next.max_pdu;
    digest = digest;
    rules = next.rules;
    accepts = next.accepts;
    flows = next.flows;
    lines = next.lines;
    hops = next.hops;
    literals = next.literals;
  }

  adopted_so : {past : List Line} → IsReady n old → IsLedgerOf past n part old.committed.trees → IsSiteOf next.name was old.committed.trees → (db : Trees) → AdoptsPlan cell n moment old.committed.trees db → IsLedgerOf past (n + 1) next db × IsAdopted next old.committed.trees db
  adopted_so {past} ready l asks db w =
      let it = adoptions_adopt old.committed.trees db cell n moment (below_of n old ready) w in
      let owns : IsOwnedSo mark seal next db = (cell, has, w.site next.name was asks) in
      let owned : IsOwnedSo mark seal last old.committed.trees = (was, had, asks) in
      let same : seal_in db ≡ seal_in old.committed.trees = seals_are_read mark seal next db owns ∙ sym (seals_are_read mark seal last old.committed.trees owned) in (
        adopted_ledgers_are_of_the_next past part next old.committed.trees db cell n moment (below_of n old ready) l w (mark, (seal, owns)) same,
        record {
          book = it.0;
          bodies = it.1;
          owner = record {
            was = last;
            node = refl;
            mark = mark;
            seal = seal;
            owned = owned;
            owns = owns;
          };
        },
      )

  before : {past : List Line} → IsKept past n part old → IsSiteOf next.name was old.committed.trees → HasSite old.now.trees
  before k asks = subst (λ (d : Database). HasSite d.trees) (sym k.ready.settled) (next.name, was, asks)

  -- what a crash leaves, whatever was answered
  may_be : {past : List Line} (r : Result (Unit {0}) LedgerFault) → Written {E = LedgerFault} n HasSite (AdoptsPlan cell n moment) r old new
      → HasCleanDisk new → IsKept past n part old → IsSiteOf next.name was old.committed.trees → (db : Trees) → new.may_leave db
      → old.may_leave db ⊎ (IsLeftLedger past (n + 1) next db × IsAdopted next old.committed.trees db)
  may_be r w clean k asks db left = elim ((w.crash k.ready (before k asks)).crash clean db left) [
    | inl h ↦ inl h
    | inr made ↦ inr (let it = adopted_so k.ready k.ledger asks db made.1 in (record { whole = made.0; ledger = it.0 }, it.1))
  ]

  pub written_adopted : (r : Result (Unit {0}) LedgerFault) → IfErr r IsOwnFault → Written {E = LedgerFault} n HasSite (AdoptsPlan cell n moment) r old new → Adopted n part next r old new (IsSiteOf next.name was)
  written_adopted (Ok done) own w = record {
    clean = w.clean;
    was_open = w.was_open;
    idle = still;
    lasts = λ {past} clean k asks. (w.ok clean k.ready (before k asks)).0.is_open;
    kept = λ {past} clean is_open k asks.
        let it = w.ok clean k.ready (before k asks) in
        record { ready = it.0; ledger = (adopted_so k.ready k.ledger asks new.committed.trees it.1).0 };
    answers = λ {past} clean is_open k asks.
        let it = (adopted_so k.ready k.ledger asks new.committed.trees (w.ok clean k.ready (before k asks)).1).1 in
        record { reply = it.book; bodies = it.bodies; owner = it.owner; same = tt };
    crash = λ {past} clean k asks db left. may_be (Ok done) w clean k asks db left;
  }
  written_adopted (Err e) own w = record {
    clean = w.clean;
    was_open = w.was_open;
    idle = still;
    lasts = λ {past} clean k asks. own_lasts e (IsTrue new.is_open) own;
    kept = λ {past} clean is_open k asks. record {
      ready = w.ready clean is_open k.ready (before k asks);
      ledger = subst (λ (d : Database). IsLedgerOf past n part d.trees) (sym (w.err clean is_open)) k.ledger;
    };
    answers = λ {past} clean is_open k asks. stood_so next e old.committed.trees new.committed.trees own (ap (λ (d : Database). d.trees) (w.err clean is_open));
    crash = λ {past} clean k asks db left. may_be (Err e) w clean k asks db left;
  }

-- where nothing is tried
pub not_adopted : (n : ℕ) (part next : Part) (s : State) (Asks : Trees → Type 0) (e : LedgerFault) → IsOwnFault e → Adopted n part next (Err e) s s Asks
not_adopted n part next s Asks e own = refused_adopted n part next s s Asks e (λ past clean is_open k. own)
    (still_called {A = Unit {0}} n part (Err e) s Asks Stood Never (λ db asks. refl) (λ P h. own_lasts e P own))

-- where a fault is Store
pub not_stored : (n : ℕ) (part next : Part) (s : State) (Asks : Trees → Type 0) → Adopted n part next (Err fault.Store) s s Asks
not_stored n part next s Asks = not_adopted n part next s Asks fault.Store (inl refl)

-- what is asked of the tables is the same
pub adopted_where : (n : ℕ) (part next : Part) (r : Result (Unit {0}) LedgerFault) (old new : State) (Asks More : Trees → Type 0) → ((db : Trees) → More db → Asks db) → Adopted n part next r old new Asks → Adopted n part next r old new More
adopted_where n part next r old new Asks More gives c = record {
  clean = c.clean;
  was_open = c.was_open;
  idle = c.idle;
  lasts = λ {past} clean k asks. c.lasts clean k (gives old.committed.trees asks);
  kept = λ {past} clean is_open k asks. c.kept clean is_open k (gives old.committed.trees asks);
  answers = λ {past} clean is_open k asks. c.answers clean is_open k (gives old.committed.trees asks);
  crash = λ {past} clean k asks db left. c.crash clean k (gives old.committed.trees asks) db left;
}

-- the owner was read, and then it was adopted
module _ {A : Type 0} (n : ℕ) (part next : Part) (old mid new : State) (Shows : Trees → A → Type 0) where
  pub looked_adopted : (a : A) (r : Result (Unit {0}) LedgerFault) (Given : Trees → Type 0) → Looked n part (Ok a) old mid Shows → Adopted n part next r mid new Given
      → ((db : Trees) → Shows db a → Given db) → Adopted n part next r old new Nothing
  looked_adopted a r Given l c gives = record {
    clean = omega (arith, l.clean, c.clean);
    was_open = λ clean is_open. l.was_open (early clean) (c.was_open clean is_open);
    idle = λ h. c.idle (l.idle h);
    lasts = λ {past} clean k any. c.lasts clean (middle clean k) (given clean k);
    kept = λ {past} clean is_open k any. c.kept clean is_open (middle clean k) (given clean k);
    answers = λ {past} clean is_open k any. subst (λ base. AnswersAdoption next r base new.committed.trees) (shown clean k).0 (c.answers clean is_open (middle clean k) (given clean k));
    crash = λ {past} clean k any db left. elim (c.crash clean (middle clean k) (given clean k) db left) [
      | inl before ↦ elim (l.crash (early clean) k tt db before) [ inl h ↦ inl h | inr none ↦ absurd none.1 ]
      | inr made ↦ inr (made.0, subst (λ base. IsAdopted next base db) (shown clean k).0 made.1)
    ];
  }
    where
      early : HasCleanDisk new → HasCleanDisk mid
      early clean = omega (arith, c.clean, clean)

      middle : {past : List Line} → HasCleanDisk new → IsKept past n part old → IsKept past n part mid
      middle clean k = l.kept (early clean) (l.lasts (early clean) k tt) k tt

      shown : {past : List Line} → HasCleanDisk new → IsKept past n part old → (mid.committed.trees ≡ old.committed.trees) × Shows old.committed.trees a
      shown clean k = l.answers (early clean) (l.lasts (early clean) k tt) k tt

      given : {past : List Line} → HasCleanDisk new → IsKept past n part old → Given mid.committed.trees
      given clean k = subst Given (sym (shown clean k).0) (gives old.committed.trees (shown clean k).1)

-- the owner was read, and it wasn't tried
pub looked_only : {A : Type 0} (n : ℕ) (part next : Part) (old new : State) (Shows : Trees → A → Type 0) (a : A) → Looked n part (Ok a) old new Shows → Adopted n part next (Err fault.Store) old new Nothing
looked_only n part next old new Shows a l = looked_adopted n part next old new new Shows a (Err fault.Store) Nothing l (not_stored n part next new Nothing) (λ db shown. tt)

own_of : {A : Type 0} (e : LedgerFault) (Shows : A → Type 0) → Reads (Err e) Shows → IsOwnFault e
own_of fault.Store Shows h = inl refl
own_of fault.Memory Shows h = inr refl
own_of fault.NoLine Shows h = absurd h
own_of fault.Conflict Shows h = absurd h
own_of fault.NotWaiting Shows h = absurd h
own_of fault.NotHeld Shows h = absurd h
own_of fault.NotOver Shows h = absurd h

-- the owner couldn't be read
pub looked_none : {A : Type 0} (n : ℕ) (part next : Part) (old new : State) (Shows : Trees → A → Type 0) (e : LedgerFault) → Looked n part (Err e) old new Shows → Adopted n part next (Err e) old new Nothing
looked_none n part next old new Shows e l =
    refused_adopted n part next old new Nothing e (λ past clean is_open k. own_of e (Shows old.committed.trees) (l.answers clean is_open k tt).1)
    (looked_failed {B = Unit {0}} n part old new Shows e Nothing Stood Never l (λ base any own. refl))
