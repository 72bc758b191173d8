-- What a forgetting takes out of the tables, and out of the book.
use Rattle.std.proofs.Common.{◌≡◌, inl, inr, ℕ, List, [], ◌∷◌, map as mapped, filter, Bool, true, false, cond, not, ◌&&◌, ◌||◌, Option, Some, None, option_map, refl, sym, ap, ◌∙◌, true≢false, arith}
use Rattle.std.specs.Cmp.{IsTotalOrder}
use Rattle.std.specs.Cmp.Lexicographic.{nat_list_cmp_total}
use Rattle.std.specs.declared.cmp.Ordering.{Ordering}
use Rattle.std.specs.FinMap as map
use Rattle.std.specs.FinMap.{IsAntisymmetric, find}
use Rattle.std.specs.FinSet as set
use Rattle.std.specs.List.{list_any}
use Rattle.std.specs.Ordering.{eq_by_cmp}
use Rattle.std.proofs.lemmas.Map.Lookups.{exact_bytes}
use Rattle.sqlite.specs.Order.{Row}
use Rattle.sqlite.specs.State.{State}
use Rattle.sqlite.specs.Tree.{Trees, put_row}
use Rattle.dr_base.specs.Texts.{Text, text_cmp}
use Rattle.dr_ledger.specs.Bodies.{IsNeeded}
use Rattle.dr_ledger.specs.Books.{Book, is_other}
use Rattle.dr_ledger.specs.Pairs.{Pair}
use Rattle.dr_ledger.specs.Replies.{IsOver}
use Rattle.dr_store_schema.specs.Books.{Print, all_kept_in, arrival_in, arrivals_in, bodies_by, bodies_of, book_of, content_in, contents_in, entry_in, instance_by, is_whole, items_of, lines_in, print_in, print_or_none, prints_in, rows_in, whole_in, wholes_in}
use Rattle.dr_store_writes.specs.Effects.{AddsRow, DropsOf, GoesOn, forgotten_line, is_of_other}
use Rattle.dr_store_writes.proofs.Keys.{pairs_exact, pairs_total}
use Rattle.dr_store_writes.proofs.Maps.{equal}
use Rattle.dr_store_changes.specs.Bringing.{Then}
use Rattle.dr_store_changes.specs.Changes.{DropsMoves, DropsStock, TakesOut}
use Rattle.dr_store_changes.specs.Laws.{ForgettingsForget, ForgettingsLetNoDataSetGo}
use Rattle.dr_store_changes.specs.Laws.{ForgettingsTakeBoth}
use Rattle.dr_store_changes.specs.Writing.{IsMade}
use Rattle.dr_store_changes.proofs.Arrivals.{item_at, keyed, keys_in}
use Rattle.dr_store_changes.proofs.FirstOnes.{none_left}
use Rattle.dr_store_changes.proofs.LettingGo.{body_at}
use Rattle.dr_store_changes.proofs.Movements.{goes_over}
use Rattle.dr_store_changes.proofs.Numbers.{lines_put}
use Rattle.dr_store_changes.proofs.Together.{both_left}

-- ---- rows that leave by their key

module _ {K : Type 0} {R : K → K → Ordering} (total : IsTotalOrder R) (exact : IsAntisymmetric R) (stays : K → Bool) where
  same_test : (q k : K) → eq_by_cmp R q k ≡ true → stays q ≡ stays k
  same_test q k is = ap stays (exact q k (equal _ is))

  module _ {V : Type 0} (entry : Row → K × V) where
    found_left : (q : K) (rows : List Row) → find R q (mapped entry (filter (λ r. stays (entry r).0) rows)) ≡ cond (stays q) (find R q (mapped entry rows)) None
    found_left q [] = either (stays q)
      where
        either : (b : Bool) → ◌≡◌ {A = Option V} None (cond b None None)
        either true = refl
        either false = refl
    found_left q (r ∷ rows) = go (eq_by_cmp R q (entry r).0) refl (stays (entry r).0) refl (found_left q rows)
      where
        go : (same : Bool) → eq_by_cmp R q (entry r).0 ≡ same → (kept : Bool) → stays (entry r).0 ≡ kept
            → find R q (mapped entry (filter (λ x. stays (entry x).0) rows)) ≡ cond (stays q) (find R q (mapped entry rows)) None
            → find R q (mapped entry (cond kept (r ∷ filter (λ x. stays (entry x).0) rows) (filter (λ x. stays (entry x).0) rows)))
            ≡ cond (stays q) (cond same (Some (entry r).1) (find R q (mapped entry rows))) None
        go true is true kept later =
            ap (λ b. cond b (Some (entry r).1) (find R q (mapped entry (filter (λ x. stays (entry x).0) rows)))) is
            ∙ sym (ap (λ b. cond b (Some (entry r).1) None) (same_test q (entry r).0 is ∙ kept))
        go true is false kept later =
            let none : stays q ≡ false = same_test q (entry r).0 is ∙ kept in
            later ∙ ap (λ b. cond b (find R q (mapped entry rows)) None) none ∙ sym (ap (λ b. cond b (Some (entry r).1) None) none)
        go false is true kept later = ap (λ b. cond b (Some (entry r).1) (find R q (mapped entry (filter (λ x. stays (entry x).0) rows)))) is ∙ later
        go false is false kept later = later

    -- the rows that stay are the map of the keys that stay
    pub map_left : (rows : List Row) → map.from_entries {R = R} (mapped entry (filter (λ r. stays (entry r).0) rows)) ≡ map.retain_keys (map.from_entries (mapped entry rows)) stays
    map_left rows = map.same_map total exact _ _ (λ q.
        map.get-from_entries total (mapped entry (filter (λ r. stays (entry r).0) rows)) q ∙ found_left q rows
        ∙ ap (λ f. cond (stays q) f None) (sym (map.get-from_entries total (mapped entry rows) q))
        ∙ sym (map.get-retain_keys (map.from_entries {R = R} (mapped entry rows)) stays q (λ x tie. ap stays (sym (exact q x tie)))))

  module _ (key : Row → K) where
    any_left : (q : K) (rows : List Row) → list_any (eq_by_cmp R q) (mapped key (filter (λ r. stays (key r)) rows)) ≡ (list_any (eq_by_cmp R q) (mapped key rows) && stays q)
    any_left q [] = refl
    any_left q (r ∷ rows) = go (eq_by_cmp R q (key r)) refl (stays (key r)) refl (any_left q rows)
      where
        none : (b : Bool) → (b && false) ≡ false
        none true = refl
        none false = refl

        go : (same : Bool) → eq_by_cmp R q (key r) ≡ same → (kept : Bool) → stays (key r) ≡ kept
            → list_any (eq_by_cmp R q) (mapped key (filter (λ x. stays (key x)) rows)) ≡ (list_any (eq_by_cmp R q) (mapped key rows) && stays q)
            → list_any (eq_by_cmp R q) (mapped key (cond kept (r ∷ filter (λ x. stays (key x)) rows) (filter (λ x. stays (key x)) rows))) ≡ ((same || list_any (eq_by_cmp R q) (mapped key rows)) && stays q)
        go true is true kept later =
            ap (λ b. b || list_any (eq_by_cmp R q) (mapped key (filter (λ x. stays (key x)) rows))) is ∙ sym (same_test q (key r) is ∙ kept)
        go true is false kept later =
            let no_more : stays q ≡ false = same_test q (key r) is ∙ kept in
            later ∙ ap (λ b. list_any (eq_by_cmp R q) (mapped key rows) && b) no_more ∙ none (list_any (eq_by_cmp R q) (mapped key rows)) ∙ sym no_more
        go false is true kept later = ap (λ b. b || list_any (eq_by_cmp R q) (mapped key (filter (λ x. stays (key x)) rows))) is ∙ later
        go false is false kept later = later

    pub set_left : (rows : List Row) → set.from_list {R = R} (mapped key (filter (λ r. stays (key r)) rows)) ≡ set.retain (set.from_list (mapped key rows)) stays
    set_left rows = set.same_set total exact _ _ (λ q.
        set.contains-from_list total (mapped key (filter (λ r. stays (key r)) rows)) q ∙ any_left q rows
        ∙ ap (λ b. b && stays q) (sym (set.contains-from_list total (mapped key rows) q))
        ∙ sym (set.contains-retain (set.from_list {R = R} (mapped key rows)) stays q (λ x tie. ap stays (sym (exact q x tie)))))

-- ---- one uid leaves

turned : {X : Type 0} (b : Bool) (x y : X) → cond (not b) x y ≡ cond b y x
turned true x y = refl
turned false x y = refl

uid_left : {V : Type 0} (entry : Row → Text × V) (uid : Text) (rows : List Row) → map.from_entries {R = text_cmp} (mapped entry (filter (λ r. is_other uid (entry r).0) rows)) ≡ map.remove (map.from_entries (mapped entry rows)) uid
uid_left entry uid rows =
    let whole = map.from_entries {R = text_cmp} (mapped entry rows) in
    map_left nat_list_cmp_total exact_bytes (is_other uid) entry rows ∙ map.same_map nat_list_cmp_total exact_bytes _ _ (λ q.
    map.get-retain_keys whole (is_other uid) q (λ x tie. ap (is_other uid) (sym (exact_bytes q x tie)))
    ∙ turned (eq_by_cmp text_cmp q uid) (map.get whole q) None ∙ sym (map.get-remove nat_list_cmp_total whole uid q))

module _ (uid : Text) (old new : Trees) (n : ℕ) (moment : Option ℕ) (w : TakesOut uid n moment old new) where
  contents_left : contents_in (new 1) ≡ map.remove (contents_in (old 1)) uid
  contents_left = ap contents_in w.items ∙ uid_left content_in uid (old 1)

  keys_left : keys_in (new 1) ≡ map.remove (keys_in (old 1)) uid
  keys_left = ap keys_in w.items ∙ uid_left keyed uid (old 1)

  prints_left : prints_in (new 3) ≡ map.remove (prints_in (old 3)) uid
  prints_left = ap prints_in w.prints ∙ uid_left print_in uid (old 3)

  wholes_left : wholes_in (new 3) ≡ map.remove (wholes_in (old 3)) uid
  wholes_left = ap wholes_in w.prints ∙ uid_left whole_in uid (old 3)

  one_left : (q : Text) (b : Bool) → eq_by_cmp text_cmp q uid ≡ b
      → option_map (λ key. instance_by (map.remove (prints_in (old 3)) uid) q key) (cond b None (map.get (keys_in (old 1)) q))
      ≡ cond b None (option_map (λ key. instance_by (prints_in (old 3)) q key) (map.get (keys_in (old 1)) q))
  one_left q true is = refl
  one_left q false is =
      let same : map.get (map.remove (prints_in (old 3)) uid) q ≡ map.get (prints_in (old 3)) q =
      map.get-remove nat_list_cmp_total (prints_in (old 3)) uid q ∙ ap (λ b. cond b None (map.get (prints_in (old 3)) q)) is in
      ap (λ (print : Option Print). option_map (λ key. record { uid = q; key = key; size = (print_or_none print).0; digest = (print_or_none print).1 }) (map.get (keys_in (old 1)) q)) same

  items_left : items_of new ≡ map.remove (items_of old) uid
  items_left = map.same_map nat_list_cmp_total exact_bytes _ _ (λ q.
      item_at (prints_in (new 3)) (new 1) q ∙ (λ i. option_map (λ key. instance_by (prints_left i) q key) (map.get (keys_left i) q))
      ∙ ap (option_map (λ key. instance_by (map.remove (prints_in (old 3)) uid) q key)) (map.get-remove nat_list_cmp_total (keys_in (old 1)) uid q)
      ∙ one_left q (eq_by_cmp text_cmp q uid) refl
      ∙ ap (λ got. cond (eq_by_cmp text_cmp q uid) None got) (sym (item_at (prints_in (old 3)) (old 1) q))
      ∙ sym (map.get-remove nat_list_cmp_total (items_of old) uid q))

  -- the data set of the uid goes, if there is one
  bodies_left : bodies_of new ≡ map.remove (bodies_of old) uid
  bodies_left = (λ i. bodies_by (contents_left i) (wholes_left i)) ∙ map.same_map nat_list_cmp_total exact_bytes _ _ (λ q.
      body_at (map.remove (contents_in (old 1)) uid) (map.remove (wholes_in (old 3)) uid) q
      ∙ ap (λ whole. cond (is_whole whole) (map.get (map.remove (contents_in (old 1)) uid) q) None) (map.get-remove nat_list_cmp_total (wholes_in (old 3)) uid q)
      ∙ ap (λ body. cond (is_whole (cond (eq_by_cmp text_cmp q uid) None (map.get (wholes_in (old 3)) q))) body None) (map.get-remove nat_list_cmp_total (contents_in (old 1)) uid q)
      ∙ at q (eq_by_cmp text_cmp q uid)
      ∙ ap (λ body. cond (eq_by_cmp text_cmp q uid) None body) (sym (body_at (contents_in (old 1)) (wholes_in (old 3)) q)) ∙ sym (map.get-remove nat_list_cmp_total (bodies_of old) uid q))
    where
      at : (q : Text) (b : Bool) → ◌≡◌ {A = Option (List ℕ)} (cond (is_whole (cond b None (map.get (wholes_in (old 3)) q))) (cond b None (map.get (contents_in (old 1)) q)) None)
          (cond b None (cond (is_whole (map.get (wholes_in (old 3)) q)) (map.get (contents_in (old 1)) q) None))
      at q true = refl
      at q false = refl

-- ---- items beside their prints

pub forgettings_take_both : ForgettingsTakeBoth
forgettings_take_both old new n moment uid w =
    both_left old new uid (contents_left uid old new n moment w) (wholes_left uid old new n moment w)

-- ---- the book

pub forgettings_forget : ForgettingsForget
forgettings_forget old new n moment uid below w = λ i. record {
  items = items_left uid old new n moment w i;
  arrivals = (ap arrivals_in w.arrivals ∙ set_left pairs_total pairs_exact (λ (at : Pair). is_other uid at.1) arrival_in (old 5)) i;
  kept = all_kept_in (w.kept i);
  rows = (ap rows_in w.rows ∙ map_left pairs_total pairs_exact (λ (at : Pair). is_other uid at.0) entry_in (old 9)) i;
  lines = ((λ j. lines_in (w.targets j) (w.journal j)) ∙ lines_put (old 12) n _ (old 11) below) i;
}

-- ---- the data sets

pub not_needed : (b : Book) (uid : Text) → IsOver b uid → IsNeeded b uid → ⊥
not_needed b uid over needed = elim needed [
  | inl kept ↦ true≢false (sym kept ∙ over.unkept)
  | inr open_row ↦ true≢false (sym open_row.3 ∙ over.unqueued open_row.0 open_row.1 open_row.2)
]

pub forgettings_let_no_data_set_go : ForgettingsLetNoDataSetGo
forgettings_let_no_data_set_go old new n moment uid has over w = bodies_left uid old new n moment w ∙ none_left (bodies_of old) uid (none (map.get (bodies_of old) uid) refl)
  where
    none : (o : Option (List ℕ)) → map.get (bodies_of old) uid ≡ o → map.get (bodies_of old) uid ≡ None
    none None is = is
    none (Some body) is = absurd (not_needed (book_of old) uid over ((has.there uid).0 (body, is)))

-- ---- the statements

pub moves_left : (uid : Text) (old mid new : State) → DropsOf 9 1 uid old mid → DropsOf 5 2 uid mid new → GoesOn old new × DropsMoves uid old.now.trees new.now.trees
moves_left uid old mid new rows arrivals =
    let r = rows.others in
    let a = arrivals.others in (
      goes_over old mid new rows.goes_on arrivals.goes_on,
      record {
        arrivals = arrivals.rows ∙ ap (filter (is_of_other 2 uid)) (r.arrivals (omega arith));
        rows = a.queue (omega arith) ∙ rows.rows;
        site = a.site (omega arith) ∙ r.site (omega arith);
        items = a.items (omega arith) ∙ r.items (omega arith);
        prints = a.prints (omega arith) ∙ r.prints (omega arith);
        kept = a.kept (omega arith) ∙ r.kept (omega arith);
        journal = a.journal (omega arith) ∙ r.journal (omega arith);
        targets = a.targets (omega arith) ∙ r.targets (omega arith);
      },
    )

pub stock_left : (uid : Text) (old mid new : State) → DropsOf 3 1 uid old mid → DropsOf 1 1 uid mid new → GoesOn old new × DropsStock uid old.now.trees new.now.trees
stock_left uid old mid new prints items =
    let p = prints.others in
    let i = items.others in (
      goes_over old mid new prints.goes_on items.goes_on,
      record {
        items = items.rows ∙ ap (filter (is_of_other 1 uid)) (p.items (omega arith));
        prints = i.prints (omega arith) ∙ prints.rows;
        site = i.site (omega arith) ∙ p.site (omega arith);
        arrivals = i.arrivals (omega arith) ∙ p.arrivals (omega arith);
        kept = i.kept (omega arith) ∙ p.kept (omega arith);
        queue = i.queue (omega arith) ∙ p.queue (omega arith);
        journal = i.journal (omega arith) ∙ p.journal (omega arith);
        targets = i.targets (omega arith) ∙ p.targets (omega arith);
      },
    )

pub forgotten : (uid : Text) (n : ℕ) (moment : Option ℕ) (old mid new : State) → GoesOn old mid × Then (DropsMoves uid) (DropsStock uid) old.now.trees mid.now.trees → AddsRow 11 (forgotten_line n moment uid) mid new → IsMade n (TakesOut uid n moment) old new
forgotten uid n moment old mid new dropped adds =
    let m = dropped.1.1 in
    let s = dropped.1.2 in
    let l = adds.others in
    let line : Row = forgotten_line n moment uid in
    let journal : new.now.trees 11 ≡ put_row line (old.now.trees 11) = adds.rows ∙ ap (put_row line) (s.journal ∙ m.journal) in
    record {
      goes_on = goes_over old mid new dropped.0 adds.goes_on;
      line = record { row = line; numbered = refl; journal = journal };
      made = record {
        items = l.items (omega arith) ∙ s.items ∙ ap (filter (is_of_other 1 uid)) m.items;
        prints = l.prints (omega arith) ∙ s.prints ∙ ap (filter (is_of_other 1 uid)) m.prints;
        arrivals = l.arrivals (omega arith) ∙ s.arrivals ∙ m.arrivals;
        rows = l.queue (omega arith) ∙ s.queue ∙ m.rows;
        journal = journal;
        site = l.site (omega arith) ∙ s.site ∙ m.site;
        kept = l.kept (omega arith) ∙ s.kept ∙ m.kept;
        targets = l.targets (omega arith) ∙ s.targets ∙ m.targets;
      };
    }
