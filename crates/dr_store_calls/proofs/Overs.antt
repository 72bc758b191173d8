-- Instances that are over, and forgettings.
use Rattle.std.proofs.Common.{◌≡◌, ◌≢◌, ◌⊎◌, ◌↔◌, inl, inr, ℕ, ◌+◌, Bool, true, false, not, IsTrue, is_some, List, Option, Some, None, option_map, Ok, Err, Result, refl, sym, ap, subst, ◌∙◌, true≢false, arith}
use Rattle.std.specs.FinMap as map
use Rattle.std.specs.FinSet as set
use Rattle.sqlite.specs.State.{State}
use Rattle.sqlite.specs.Tree.{Trees}
use Rattle.dr_base.specs.Texts.{Text}
use Rattle.dr_route.specs.declared.key.Key.{Key}
use Rattle.dr_site.specs.Parts.{Part}
use Rattle.dr_ledger.specs.declared.fault.LedgerFault.{LedgerFault}
use Rattle.dr_ledger.specs.declared.item.Instance.{Instance}
use Rattle.dr_ledger.specs.Bodies.{Bodies, OnlyLetsGo}
use Rattle.dr_ledger.specs.Books.{Book, Forgetting, Line, after, is_queued}
use Rattle.dr_ledger.specs.Replies.{Forgets, IsOver}
use Rattle.dr_ledger.specs.SiteRoutes.{site_routing}
use Rattle.dr_ledger.proofs.Needs.{forgettings_need_the_same}
use Rattle.dr_ledger_past.proofs.Goings.{forgettings_go_on}
use Rattle.dr_store_schema.specs.Books.{AreBelow, all_kept_in, bodies_of, book_of, instance_by, items_of, names_in, prints_of}
use Rattle.dr_store_changes.specs.Bringing.{HasCells}
use Rattle.dr_store_changes.specs.Changes.{TakesOut}
use Rattle.dr_store_changes.proofs.Forgotten.{forgettings_forget, forgettings_let_no_data_set_go, forgettings_take_both}
use Rattle.dr_store_writes.specs.Effects.{forgotten_line}
use Rattle.dr_store_reads.specs.Queries.{HasOpen, IsKeyOf}
use Rattle.dr_store_calls.specs.Calling.{IsLedgerOf, IsOwnFault, Looked}
use Rattle.dr_store_calls.specs.Needs.{IsKeptIn}
use Rattle.dr_store_calls.proofs.Reading.{reads_as}
use Rattle.dr_store_calls.proofs.Ledgers.{one_line_more, still_counted, still_owned}

-- ---- what is over

is_not : (b : Bool) → (b ≡ true → ⊥) → b ≡ false
is_not true h = absurd (h refl)
is_not false h = refl

found_there : (found : Option Instance) (key : Option Key) (by : Key → Instance) → found ≡ option_map by key → is_some key ≡ true → (item : Instance) × (found ≡ Some item)
found_there found None by is there = absurd (true≢false (sym there))
found_there found (Some key) by is there = (by key, is)

there_found : (found : Option Instance) (key : Option Key) (by : Key → Instance) (item : Instance) → found ≡ option_map by key → found ≡ Some item → is_some key ≡ true
there_found found None by item is there = absurd (let e : None ≡ Some item = sym is ∙ there in cc)
there_found found (Some key) by item is there = refl

-- it is over where it is there, isn't kept, and has no open row
pub over_by : (base : Trees) (uid : Text) (key : Option Key) (past : Bool) → IsKeyOf uid base key
    → (IsTrue past ↔ ((is_some key ≡ true) × (IsKeptIn base uid → ⊥) × (HasOpen base uid → ⊥))) → (IsTrue past ↔ IsOver (book_of base) uid)
over_by base uid key past shown says = (
  λ h.
      let it = says.0 h in
      record {
        there = found_there (map.get (items_of base) uid) key (instance_by (prints_of base) uid) shown it.0;
        unkept = is_not (set.contains (all_kept_in (base 7)) uid) it.1;
        unqueued = λ dest row at. is_not (is_queued row) (λ queued. it.2 (dest, row, at, queued));
      },
  λ over. says.1 (
    there_found (map.get (items_of base) uid) key (instance_by (prints_of base) uid) over.there.0 shown over.there.1,
    λ kept. true≢false (sym kept ∙ over.unkept),
    λ row. true≢false (sym row.3 ∙ over.unqueued row.0 row.1 row.2),
  ),
)

-- what isn't kept, by whether it is
pub past_by : (base : Trees) (uid : Text) (kept past : Bool) → kept ≡ set.contains (all_kept_in (base 7)) uid → (IsTrue past ↔ ((kept ≡ false) × (HasOpen base uid → ⊥)))
    → (IsTrue past ↔ ((IsKeptIn base uid → ⊥) × (HasOpen base uid → ⊥)))
past_by base uid kept past shown says = (
  λ h. let it = says.0 h in (λ yes_kept. true≢false (sym yes_kept ∙ sym shown ∙ it.0), it.1),
  λ h. says.1 (is_not kept (λ yes_kept. h.0 (sym shown ∙ yes_kept)), h.1),
)

-- all are done where none is open
pub done_by : (kept undone : Bool) (Undone : Type 0) → kept ≡ false → (IsTrue undone ↔ Undone) → (IsTrue (not undone) ↔ ((kept ≡ false) × (Undone → ⊥)))
done_by kept true Undone unkept says = (λ h. absurd (true≢false (sym h)), λ h. absurd (h.1 (says.0 refl)))
done_by kept false Undone unkept says = (λ h. (unkept, λ more. true≢false (sym (says.1 more))), λ h. refl)

-- what is shown of a uid that is there
pub past_there : (there past : Bool) (Kept Undone : Type 0) → there ≡ true → (IsTrue past ↔ ((Kept → ⊥) × (Undone → ⊥))) → (IsTrue past ↔ ((there ≡ true) × (Kept → ⊥) × (Undone → ⊥)))
past_there there past Kept Undone is says = (λ h. let it = says.0 h in (is, it.0, it.1), λ h. says.1 (h.1, h.2))

-- what is read is read as something else
pub looked_as : {A : Type 0} (n : ℕ) (part : Part) (r : Result A LedgerFault) (old new : State) (Shows Says : Trees → A → Type 0) → Looked n part r old new Shows → ((base : Trees) (a : A) → Shows base a → Says base a)
    → Looked n part r old new Says
looked_as n part r old new Shows Says l f = record {
  clean = l.clean;
  was_open = l.was_open;
  idle = l.idle;
  lasts = λ {past} clean k asks. l.lasts clean k asks;
  kept = λ {past} clean is_open k asks. l.kept clean is_open k asks;
  answers = λ {past} clean is_open k any.
      let base = old.committed.trees in
      let it = l.answers clean is_open k any in
      (it.0, reads_as r (Shows base) (Says base) (f base) it.1);
  crash = λ {past} clean k asks db left. l.crash clean k asks db left;
}

-- ---- a forgetting

still_bodied : (b : Book) (bodies : Bodies) (uid : Text) → IsOver b uid → HasCells b bodies → HasCells (after (Forgetting uid) b) bodies
still_bodied b bodies uid over has = record {
  there = λ u. let same = forgettings_need_the_same b uid over u in (λ body. same.1 ((has.there u).0 body), λ needed. (has.there u).1 (same.0 needed));
}

pub forgets : {past : List Line} (n : ℕ) (moment : Option ℕ) (part : Part) (base db : Trees) (uid : Text) → AreBelow n (base 11) → IsLedgerOf past n part base → IsOver (book_of base) uid → TakesOut uid n moment base db
    → IsLedgerOf past (n + 1) part db × (Forgets uid (book_of base) (Ok tt) (book_of db) × OnlyLetsGo (bodies_of base) (bodies_of db))
forgets {past} n moment part base db uid below l over w =
    let book = forgettings_forget base db n moment uid below w in
    let bodies = forgettings_let_no_data_set_go base db n moment uid l.bodied over w in
    let answer : Forgets uid (book_of base) (Ok tt) (book_of db) = (over, book) in (
      record {
        owned = still_owned part base db w.site l.owned;
        counted = still_counted past base db w.site l.counted;
        together = forgettings_take_both base db n moment uid w l.together;
        numbered = one_line_more n (forgotten_line n moment uid) base db refl w.journal l.numbered;
        ahead = λ m later. ap (λ rows. names_in rows m) w.targets ∙ l.ahead m (omega (arith, later));
        journalled = forgettings_go_on (site_routing part) past uid (book_of base) (book_of db) (Ok tt) l.journalled answer;
        bodied = subst (λ (b : Book). HasCells b (bodies_of db)) (sym book) (subst (HasCells (after (Forgetting uid) (book_of base))) (sym bodies) (still_bodied (book_of base) (bodies_of base) uid over l.bodied));
      },
      (answer, λ q body h. ap (λ x. map.get x q) (sym bodies) ∙ h),
    )

pub forgets_own : (e : LedgerFault) (uid : Text) (b : Book) → IsOwnFault e → Forgets uid b (Err e) b
forgets_own e uid b (inl is) = subst (λ x. Forgets uid b (Err x) b) (sym is) refl
forgets_own e uid b (inr is) = subst (λ x. Forgets uid b (Err x) b) (sym is) refl
