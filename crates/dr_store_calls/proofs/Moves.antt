-- Rows that move on.
use Rattle.std.proofs.Common.{◌≡◌, ◌≢◌, ◌⊎◌, ◌↔◌, inl, inr, ℕ, pos, ◌+◌, ◌≤◌, ◌^◌, Bool, true, false, cond, not, IsTrue, is_some, List, Option, Some, None, IsSome, Ok, Err, Result, refl, sym, ap, subst, ◌∙◌, true≢false, arith}
use Rattle.std.specs.FinMap as map
use Rattle.std.specs.FinSet as set
use Rattle.std.specs.Ordering.{eq_by_cmp}
use Rattle.sqlite.specs.Order.{Row}
use Rattle.sqlite.specs.Tree.{Trees}
use Rattle.sqlite_trees.proofs.ListLemmas.{all_weaker}
use Rattle.dr_base.specs.Texts.{Text}
use Rattle.dr_site.specs.Parts.{Part}
use Rattle.dr_ledger.specs.declared.fault.LedgerFault.{LedgerFault}
use Rattle.dr_ledger.specs.declared.fault.LedgerFault.TheVariants as fault
use Rattle.dr_ledger.specs.declared.item.Cause.{Cause}
use Rattle.dr_ledger.specs.declared.item.Outcome.{Outcome}
use Rattle.dr_ledger.specs.declared.item.Progress.{Progress}
use Rattle.dr_ledger.specs.declared.item.Progress.TheVariants.{Waiting, Held, Done, Dropped}
use Rattle.dr_ledger.specs.Bodies.{Bodies, IsNeeded, OnlyLetsGo}
use Rattle.dr_ledger.specs.Books.{Book, Line, is_queued, row_after}
use Rattle.dr_ledger.specs.Histories.{IsJournalled}
use Rattle.dr_ledger.specs.Pairs.{Pair, pair_cmp}
use Rattle.dr_ledger.specs.Replies.{Drops, Requeues, Settles}
use Rattle.dr_ledger.specs.SiteRoutes.{site_routing}
use Rattle.dr_ledger.proofs.Maps.{get_new, get_other, got, text_pairs, ties_itself, same_or_not}
use Rattle.dr_ledger.proofs.Wholes.{settled_fits}
use Rattle.dr_ledger_past.proofs.Goings.{droppings_go_on, requeuings_go_on, settlings_go_on}
use Rattle.dr_store_schema.specs.Books.{AreBelow, all_kept_in, bodies_by, bodies_of, book_of, contents_in, is_whole, names_in, rows_in, rows_of, wholes_in}
use Rattle.dr_store_schema.specs.Cells.{due_of}
use Rattle.dr_store_writes.specs.Effects.{HasRow, dropped_line, requeued_line, settled_line}
use Rattle.dr_store_changes.specs.Bringing.{GoNowhere, HasCells}
use Rattle.dr_store_changes.specs.Changes.{AsksForRow, GivesUp, HasBoth, MovesOn}
use Rattle.dr_store_changes.specs.Laws.{GoesWhereNeededNoMore}
use Rattle.dr_store_changes.specs.Writing.{IsReady}
use Rattle.dr_store_changes.proofs.Bookings.{body_was, requeuings_requeue, settlings_settle, what_is_needed_stays}
use Rattle.dr_store_changes.proofs.Dropped.{but_arrivals, droppings_drop, goes_as_well, moves_on, what_is_needed_stays_at_a_dropping}
use Rattle.dr_store_changes.proofs.LettingGo.{body_at}
use Rattle.dr_store_reads.specs.Queries.{IsOpenElsewhere}
use Rattle.dr_store_calls.specs.Calling.{IsLedgerOf}
use Rattle.dr_store_calls.specs.LettingGo.{GoesWith}
use Rattle.dr_store_calls.specs.Needs.{IsKeptIn, IsNeededStill}
use Rattle.dr_store_calls.proofs.Ledgers.{one_line_more, still_counted, still_owned}

-- ---- what is needed

pub split : {A : Type 0} (b : Bool) (o : Option A) (x : A) → cond b o None ≡ Some x → (b ≡ true) × (o ≡ Some x)
split true o x h = (refl, h)
split false o x h = absurd (let e = h in cc)

there_whole : (o : Option ℕ) → is_whole o ≡ true → IsSome o
there_whole None h = absurd (true≢false (sym h))
there_whole (Some n) h = refl

-- an item whose data set is needed is there with its print
pub both_there : (db : Trees) (uid : Text) → HasCells (book_of db) (bodies_of db) → IsNeeded (book_of db) uid → HasBoth uid db
both_there db uid has needed =
    let body = (has.there uid).1 needed in
    let parts = split (is_whole (map.get (wholes_in (db 3)) uid)) (map.get (contents_in (db 1)) uid) body.0 (sym (body_at (contents_in (db 1)) (wholes_in (db 3)) uid) ∙ body.1) in
    (ap is_some parts.1, there_whole (map.get (wholes_in (db 3)) uid) parts.0)

row_needed : (db : Trees) (uid dest : Text) (row : Progress) → map.get (rows_of db) (uid, dest) ≡ Some row → is_queued row ≡ true → IsNeeded (book_of db) uid
row_needed db uid dest row there unfinished = inr (dest, row, there, unfinished)

-- an open row may move on
pub row_asks : (db : Trees) (uid dest : Text) (row : Progress) → HasCells (book_of db) (bodies_of db) → map.get (rows_of db) (uid, dest) ≡ Some row → is_queued row ≡ true → AsksForRow (uid, dest) db
row_asks db uid dest row has there unfinished = (ap is_some there, both_there db uid has (row_needed db uid dest row there unfinished))

module _ (base db : Trees) (uid dest : Text) (to : Progress) (line : Row) (lets_go : Bool) (w : MovesOn (uid, dest) to line lets_go base db) where
  at : Pair
  at = (uid, dest)

  other_pair : (other : Text) → (other ≡ dest → ⊥) → eq_by_cmp pair_cmp (uid, other) (uid, dest) ≡ false
  other_pair other apart = elim (same_or_not text_pairs (uid, other) (uid, dest)) [ inl e ↦ absurd (apart (ap (λ (p : Pair). p.1) e)) | inr f ↦ f ]

  still_needed : IsNeededStill base uid dest to → IsNeeded (book_of db) uid
  still_needed (inl unfinished) = inr (dest, to, ap (λ rows. map.get rows (uid, dest)) w.rows ∙ get_new text_pairs (rows_of base) (uid, dest) to, unfinished)
  still_needed (inr (inl e)) =
      inr (e.0, e.1, ap (λ rows. map.get rows (uid, e.0)) w.rows ∙ get_other text_pairs (rows_of base) (uid, dest) to (uid, e.0) (other_pair e.0 e.2) ∙ e.3, e.4)
  still_needed (inr (inr kept)) = inl (ap (λ rows. set.contains (all_kept_in rows) uid) w.kept ∙ kept)

  only_needed : IsNeeded (book_of db) uid → IsNeededStill base uid dest to
  only_needed (inl kept) = inr (inr (sym (ap (λ rows. set.contains (all_kept_in rows) uid) w.kept) ∙ kept))
  only_needed (inr row) = elim (got text_pairs (rows_of base) (uid, dest) to (uid, row.0) row.1 (sym (ap (λ rows. map.get rows (uid, row.0)) w.rows) ∙ row.2)) [
    | inl is ↦ inl (ap is_queued (sym is.1) ∙ row.3)
    | inr was ↦ inr (inl (row.0, row.1, (λ same. true≢false (sym (ties_itself text_pairs (uid, dest)) ∙ ap (λ d. eq_by_cmp pair_cmp (uid, d) (uid, dest)) (sym same) ∙ was.0)), was.1, row.3))
  ]

  goes : (needed : Bool) → (IsTrue needed ↔ IsNeededStill base uid dest to) → GoesWhereNeededNoMore (not needed) db uid
  goes true says = still_needed (says.0 refl)
  goes false says = λ needed. true≢false (sym (says.1 (only_needed needed)))

  moved_ahead : (n : ℕ) → GoNowhere n base → GoNowhere (n + 1) db
  moved_ahead n ahead m later = ap (λ rows. names_in rows m) w.targets ∙ ahead m (omega (arith, later))

-- what goes is the data set that was needed before
goes_with : (base db : Trees) (uid : Text) (needed : Bool) → ((cell : List ℕ) × (map.get (bodies_of base) uid ≡ Some cell)) → bodies_of db ≡ cond (not needed) (map.remove (bodies_of base) uid) (bodies_of base)
    → GoesWith (Ok (not needed)) uid base db
goes_with base db uid true there goes = goes
goes_with base db uid false there goes = (there, goes)

pub settles : {past : List Line} (n : ℕ) (part : Part) (base db : Trees) (uid dest : Text) (tries due : ℕ) (to : Progress) (what : Outcome) (now : ℕ) (needed : Bool) → now ≤ 2 ^ 62 → AreBelow n (base 11) → IsLedgerOf past n part base
    → map.get (rows_of base) (uid, dest) ≡ Some (Waiting tries due) → to ≡ row_after tries what now → (IsTrue needed ↔ IsNeededStill base uid dest to)
    → MovesOn (uid, dest) to (settled_line n uid dest what now) (not needed) base db
    → IsLedgerOf past (n + 1) part db × (Settles uid dest what now (book_of base) (Ok tt) (book_of db) × OnlyLetsGo (bodies_of base) (bodies_of db) × GoesWith (Ok (not needed)) uid base db)
settles {past} n part base db uid dest tries due to what now needed early below l waits is says w =
    let line : Row = settled_line n uid dest what now in
    let P : Progress → Type 0 = λ p. MovesOn (uid, dest) p line (not needed) base db in
    let book = settlings_settle base db n uid dest tries due what now (not needed) below waits (subst P is w) in
    let answer : Settles uid dest what now (book_of base) (Ok tt) (book_of db) = ((tries, due, waits), book) in
    let unfinished : is_queued (Waiting tries due) ≡ true = refl in (
      record {
        owned = still_owned part base db w.site l.owned;
        counted = still_counted past base db w.site l.counted;
        together = w.together l.together;
        numbered = one_line_more n line base db refl w.journal l.numbered;
        ahead = moved_ahead base db uid dest to line (not needed) w n l.ahead;
        journalled = settlings_go_on (site_routing part) past uid dest what now (book_of base) (book_of db) (Ok tt) early l.journalled answer;
        bodied = what_is_needed_stays base db uid dest (Waiting tries due) to line (not needed) l.bodied (row_needed base uid dest (Waiting tries due) waits unfinished) w (goes base db uid dest to line (not needed) w needed says);
      },
      (
        answer,
        λ q body h. body_was base db (uid, dest) to line (not needed) q body w h,
        goes_with base db uid needed ((l.bodied.there uid).1 (row_needed base uid dest (Waiting tries due) waits unfinished)) w.bodies,
      ),
    )

pub requeues : {past : List Line} (n : ℕ) (moment : Option ℕ) (part : Part) (base db : Trees) (uid dest : Text) (why : Cause) → AreBelow n (base 11) → IsLedgerOf past n part base → map.get (rows_of base) (uid, dest) ≡ Some (Held why)
    → MovesOn (uid, dest) (Waiting 0 0) (requeued_line n moment uid dest) false base db
    → IsLedgerOf past (n + 1) part db × (Requeues uid dest (book_of base) (Ok tt) (book_of db) × OnlyLetsGo (bodies_of base) (bodies_of db))
requeues {past} n moment part base db uid dest why below l held w =
    let line : Row = requeued_line n moment uid dest in
    let book = requeuings_requeue base db n moment uid dest why false below held w in
    let answer : Requeues uid dest (book_of base) (Ok tt) (book_of db) = ((why, held), book) in
    let unfinished : is_queued (Held why) ≡ true = refl in
    let again : is_queued (Waiting 0 0) ≡ true = refl in (
      record {
        owned = still_owned part base db w.site l.owned;
        counted = still_counted past base db w.site l.counted;
        together = w.together l.together;
        numbered = one_line_more n line base db refl w.journal l.numbered;
        ahead = moved_ahead base db uid dest (Waiting 0 0) line false w n l.ahead;
        journalled = requeuings_go_on (site_routing part) past uid dest (book_of base) (book_of db) (Ok tt) l.journalled answer;
        bodied = what_is_needed_stays base db uid dest (Held why) (Waiting 0 0) line false l.bodied (row_needed base uid dest (Held why) held unfinished) w (still_needed base db uid dest (Waiting 0 0) line false w (inl again));
      },
      (answer, λ q body h. body_was base db (uid, dest) (Waiting 0 0) line false q body w h),
    )

pub drops : {past : List Line} (n : ℕ) (part : Part) (base db : Trees) (uid dest : Text) (why : Cause) (now : ℕ) (needed : Bool) → now ≤ 2 ^ 62 → AreBelow n (base 11) → IsLedgerOf past n part base
    → map.get (rows_of base) (uid, dest) ≡ Some (Held why) → (IsTrue needed ↔ IsNeededStill base uid dest Dropped) → GivesUp uid dest now n (not needed) base db
    → IsLedgerOf past (n + 1) part db × (Drops uid dest now (book_of base) (Ok tt) (book_of db) × OnlyLetsGo (bodies_of base) (bodies_of db) × GoesWith (Ok (not needed)) uid base db)
drops {past} n part base db uid dest why now needed early below l held says w =
    let line : Row = dropped_line n uid dest now in
    let mid = but_arrivals base db in
    let m = moves_on uid dest now n (not needed) base db w in
    let book = droppings_drop base db n uid dest why now (not needed) below held w in
    let answer : Drops uid dest now (book_of base) (Ok tt) (book_of db) = ((why, held), book) in (
      record {
        owned = still_owned part base db w.site l.owned;
        counted = still_counted past base db w.site l.counted;
        together = w.together l.together;
        numbered = one_line_more n line base db refl w.journal l.numbered;
        ahead = moved_ahead base mid uid dest Dropped line (not needed) m n l.ahead;
        journalled = droppings_go_on (site_routing part) past uid dest now (book_of base) (book_of db) (Ok tt) early l.journalled answer;
        bodied = what_is_needed_stays_at_a_dropping base db n uid dest now (not needed) l.bodied (row_needed base uid dest (Held why) held refl) w
            (goes_as_well base db uid (not needed) (goes base mid uid dest Dropped line (not needed) m needed says));
      },
      (
        answer,
        λ q body h. body_was base mid (uid, dest) Dropped line (not needed) q body m h,
        goes_with base db uid needed ((l.bodied.there uid).1 (row_needed base uid dest (Held why) held refl)) w.bodies,
      ),
    )

-- ---- how late a row is due

due_low : (p : Progress) → ((tries due : ℕ) → p ≡ Waiting tries due → (tries ≤ 1000000) × (due ≤ 2 ^ 62 + 300000)) → due_of p ≤ 2 ^ 62 + 300000
due_low (Waiting tries due) f = (f tries due refl).1
due_low (Held why) f = omega arith
due_low Done f = omega arith
due_low Dropped f = omega arith

pub moved_low : (tries : ℕ) (what : Outcome) (now : ℕ) → now ≤ 2 ^ 62 → due_of (row_after tries what now) ≤ 2 ^ 62 + 300000
moved_low tries what now early = due_low (row_after tries what now) (λ t d is. settled_fits tries what now early t d is)

-- ---- refusals

pub settles_own : (e : LedgerFault) (uid dest : Text) (what : Outcome) (now : ℕ) (b : Book) → (e ≡ fault.Store) ⊎ (e ≡ fault.Memory) → Settles uid dest what now b (Err e) b
settles_own e uid dest what now b (inl is) = subst (λ x. Settles uid dest what now b (Err x) b) (sym is) refl
settles_own e uid dest what now b (inr is) = subst (λ x. Settles uid dest what now b (Err x) b) (sym is) refl

pub requeues_own : (e : LedgerFault) (uid dest : Text) (b : Book) → (e ≡ fault.Store) ⊎ (e ≡ fault.Memory) → Requeues uid dest b (Err e) b
requeues_own e uid dest b (inl is) = subst (λ x. Requeues uid dest b (Err x) b) (sym is) refl
requeues_own e uid dest b (inr is) = subst (λ x. Requeues uid dest b (Err x) b) (sym is) refl

pub drops_own : (e : LedgerFault) (uid dest : Text) (now : ℕ) (b : Book) → (e ≡ fault.Store) ⊎ (e ≡ fault.Memory) → Drops uid dest now b (Err e) b
drops_own e uid dest now b (inl is) = subst (λ x. Drops uid dest now b (Err x) b) (sym is) refl
drops_own e uid dest now b (inr is) = subst (λ x. Drops uid dest now b (Err x) b) (sym is) refl

pub all_stay : (bodies : Bodies) → OnlyLetsGo bodies bodies
all_stay bodies uid body h = h
