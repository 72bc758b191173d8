-- Tables that are a ledger's pass each test.
use Rattle.std.proofs.Common.{◌≡◌, ◌≤◌, ◌<◌, ◌⊎◌, ◌++◌, ℕ, zero, suc, List, [], ◌∷◌, length, Contains, Bool, true, false, T, Option, None, Some, is_some, cond, leb, leb-false, leb-true, option_map, unwrap_or, refl, sym, ap, subst, ◌∙◌, arith, true≢false}
use Rattle.std.specs.Prelude.{◌↔◌, All, Err, slice_index_or}
use Rattle.std.specs.declared.cmp.Ordering.{Ordering}
use Rattle.std.specs.declared.cmp.Ordering.TheVariants.{Less, Equal, Greater}
use Rattle.std.specs.Ordering.{eq_by_cmp, is_lt, nat_cmp, ordering_then}
use Rattle.std.specs.FinMap as map
use Rattle.std.specs.FinMap.{FinMap, find, is_sorted}
use Rattle.std.specs.FinMap.Entries.{below_all, is_some-find, same_entries}
use Rattle.std.specs.FinSet as set
use Rattle.std.specs.FinSet.{FinSet}
use Rattle.std.specs.List.{AllByRecursion, list_any}
use Rattle.std.specs.List.Sorted.{IsStrictlySortedBy}
use Rattle.std.specs.Map.{keys_of as fields_of}
use Rattle.std.proofs.lemmas.Cmp.{ranked}
use Rattle.std.proofs.lemmas.List.Elements.{All-from_recursion}
use Rattle.sqlite.specs.Tree.{Trees}
use Rattle.dr_base.specs.Texts.{Text, text_cmp}
use Rattle.dr_route.specs.declared.key.Key.{Key}
use Rattle.dr_site.specs.Parts.{Part}
use Rattle.dr_plan_model.proofs.Gathered.{Contains-here, Contains-there}
use Rattle.dr_ledger.specs.declared.item.Instance.{Instance}
use Rattle.dr_ledger.specs.declared.item.Progress.{Progress}
use Rattle.dr_ledger.specs.Books.{Fold, Line}
use Rattle.dr_ledger.specs.Pairs.{Pair, pair_cmp}
use Rattle.dr_ledger.specs.SiteRoutes.{site_routing}
use Rattle.dr_ledger.proofs.Maps.{IsExact, text_pairs, texts}
use Rattle.dr_ledger_history.specs.Contents.{AreListsInOrder, Content, all_of, content_of}
use Rattle.dr_ledger_past.specs.Pasts.{with_past}
use Rattle.dr_store_schema.specs.Books.{book_of, contents_in, is_whole, lines_of, names_in, rows_of, wholes_in}
use Rattle.dr_store_changes.proofs.LettingGo.{body_at}
use Rattle.dr_store_reads.specs.declared.finding.Print.{Print}
use Rattle.dr_store_lists.specs.declared.listing.JournalRow.{JournalRow}
use Rattle.dr_store_lists.specs.Lists.{Goal, goal_cmp, keys_of, whole_prints_of}
use Rattle.dr_store_lists.proofs.Alike.{goals_are_names}
use Rattle.dr_store_lists.proofs.Orders.{both_T, first_T, its_less, second_T}
use Rattle.dr_store_audit.specs.Found.{AgreesAs, AreListsOf, HoldTogether}
use Rattle.dr_store_audit.specs.declared.fault.FindingFault.{FindingFault}
use Rattle.dr_store_audit.specs.declared.fault.FindingFault.TheVariants as finding
use Rattle.dr_store_audit.specs.Goals.{AreByLine}
use Rattle.dr_store_audit.specs.Journal.{lines_told}
use Rattle.dr_store_audit.specs.Needs.{IsOpenIn}
use Rattle.dr_store_audit.specs.Stock.{Stocks}
use Rattle.dr_store_audit.specs.Telling.{IsNoJournal, IsToldJournal}
use Rattle.dr_store_audit.proofs.Found.{listed_is, same_bool}
use Rattle.dr_store_audit.proofs.Journals.{lines_are}
use Rattle.dr_store_audit.proofs.Needed.{both_parts, content_there, listed_found, needed_so, needs, value_of, whole_is}

-- ---- goals

all_at : {X : Type 0} (P : X → Type 0) (xs : List X) (k : ℕ) (d : X) → AllByRecursion P xs → k < length xs → P (slice_index_or xs k d)
all_at P [] k d all low = absurd (omega (arith, low))
all_at P (x ∷ xs) zero d all low = all.0
all_at P (x ∷ xs) (suc k) d all low = all_at P xs k d all.1 (omega (arith, low))

line_rises : (g x : Goal) → goal_cmp g x ≡ Less → g.0 ≤ x.0
line_rises g x less = by_case (nat_cmp g.0 x.0) refl
  where
    by_case : (r : Ordering) → nat_cmp g.0 x.0 ≡ r → g.0 ≤ x.0
    by_case Less e = let low : g.0 < x.0 = ranked g.0 x.0 Less (sym e) in omega (arith, low)
    by_case Equal e = let same : g.0 ≡ x.0 = ranked g.0 x.0 Equal (sym e) in omega (arith, same)
    by_case Greater e = absurd (let l : ordering_then Greater (text_cmp g.1 x.1) ≡ Less = sym (ap (λ o. ordering_then o (text_cmp g.1 x.1)) e) ∙ less in cc)

pub by_line : (goals : List Goal) → IsStrictlySortedBy goal_cmp goals → AreByLine goals
unfolding IsStrictlySortedBy
by_line [] sorted i j d le low = absurd (omega (arith, low))
by_line (g ∷ goals) sorted zero zero d le low = omega arith
by_line (g ∷ goals) sorted zero (suc j) d le low = all_at (λ (x : Goal). g.0 ≤ x.0) goals j d (each goals sorted.0) (omega (arith, low))
  where
    each : (xs : List Goal) → AllByRecursion (λ x. goal_cmp g x ≡ Less) xs → AllByRecursion (λ (x : Goal). g.0 ≤ x.0) xs
    each [] h = tt
    each (x ∷ xs) h = (line_rises g x h.0, each xs h.1)
by_line (g ∷ goals) sorted (suc i) zero d le low = absurd (omega (arith, le))
by_line (g ∷ goals) sorted (suc i) (suc j) d le low = by_line goals sorted.1 i j d (omega (arith, le)) (omega (arith, low))

-- ---- keys of maps

one_unit : (a b : Option (Unit {0})) → is_some a ≡ is_some b → a ≡ b
one_unit None None h = refl
one_unit (Some x) (Some y) h = refl
one_unit None (Some y) h = absurd (true≢false (sym h))
one_unit (Some x) None h = absurd (true≢false h)

module _ {K : Type 0} {R : K → K → Ordering} (x : IsExact R) where
  abbrev bare : {V : Type 0} → List (K × V) → List (K × Unit {0})
  bare [] = []
  bare (e ∷ es) = (e.0, tt) ∷ bare es

  keys_bare : {V : Type 0} (es : List (K × V)) → fields_of (bare es) ≡ fields_of es
  keys_bare [] = refl
  keys_bare (e ∷ es) = ap (λ rest. e.0 ∷ rest) (keys_bare es)

  below_bare : {V : Type 0} (k : K) (es : List (K × V)) → T (below_all R k es) → T (below_all R k (bare es))
  below_bare k [] h = tt
  below_bare k (e ∷ es) h = both_T (is_lt (R k e.0)) (below_all R k (bare es)) (first_T (is_lt (R k e.0)) (below_all R k es) h) (below_bare k es (second_T (is_lt (R k e.0)) (below_all R k es) h))

  sorted_bare : {V : Type 0} (es : List (K × V)) → T (is_sorted R es) → T (is_sorted R (bare es))
  sorted_bare [] h = tt
  sorted_bare (e ∷ es) h = both_T (below_all R e.0 (bare es)) (is_sorted R (bare es)) (below_bare e.0 es (first_T (below_all R e.0 es) (is_sorted R es) h)) (sorted_bare es (second_T (below_all R e.0 es) (is_sorted R es) h))

  found_bare : {V : Type 0} (q : K) (es : List (K × V)) → is_some (find R q (bare es)) ≡ is_some (find R q es)
  found_bare q es = is_some-find R q (bare es) ∙ ap (list_any (eq_by_cmp R q)) (keys_bare es) ∙ sym (is_some-find R q es)

  -- two maps with the same keys list the same
  pub same_keys_listed : {V W : Type 0} (m : FinMap R V) (n : FinMap R W) → ((q : K) → is_some (map.get m q) ≡ is_some (map.get n q)) → fields_of (map.entries m) ≡ fields_of (map.entries n)
  same_keys_listed m n both = sym (keys_bare (map.entries m)) ∙ ap fields_of bares ∙ keys_bare (map.entries n)
    where
      bares : bare (map.entries m) ≡ bare (map.entries n)
      bares = same_entries R x.total x.exact (bare (map.entries m)) (bare (map.entries n)) (sorted_bare (map.entries m) (map.entries_sorted m)) (sorted_bare (map.entries n) (map.entries_sorted n))
          (λ q. one_unit _ _ (found_bare q (map.entries m) ∙ ap is_some (sym (map.get-entries m q)) ∙ both q ∙ ap is_some (map.get-entries n q) ∙ sym (found_bare q (map.entries n))))

  above : {V : Type 0} (k : K) (es : List (K × V)) → T (below_all R k es) → AllByRecursion (λ y. R k y ≡ Less) (fields_of es)
  above k [] h = tt
  above k (e ∷ es) h = (its_less (R k e.0) (first_T (is_lt (R k e.0)) (below_all R k es) h), above k es (second_T (is_lt (R k e.0)) (below_all R k es) h))

  -- the keys of a map's entries rise
  pub entries_rise : {V : Type 0} (es : List (K × V)) → T (is_sorted R es) → IsStrictlySortedBy R (fields_of es)
  unfolding IsStrictlySortedBy
  entries_rise [] h = tt
  entries_rise (e ∷ es) h = (above e.0 es (first_T (below_all R e.0 es) (is_sorted R es) h), entries_rise es (second_T (below_all R e.0 es) (is_sorted R es) h))

-- ---- all of a list

pub every_one : {X : Type 0} (P : X → Type 0) (xs : List X) → ((x : X) → Contains xs x → P x) → AllByRecursion P xs
every_one P [] each = tt
every_one P (x ∷ xs) each = (each x (Contains-here x xs), every_one P xs (λ y there. each y (Contains-there x xs y there)))

pub refused : (fault : FindingFault) (P : Type 0) → (fault ≡ finding.OtherSite → P → ⊥) → AgreesAs (Err fault) P
refused finding.OtherSite P not = not refl
refused finding.Memory P not = tt

-- ---- each test

module _ (past : List Line) (n : ℕ) (part : Part) (db : Trees) (keys : List (Text × Key)) (prints : List (Text × Print)) (arrivals : List Pair) (kept : List Text) (rows : List (Pair × Progress)) (notes : List (ℕ × JournalRow)) (goals : List Goal)
    (are : AreListsOf db keys prints arrivals kept rows notes goals) (agreed : HoldTogether past n part db notes) where
  pub goals_by_line : AreByLine goals
  goals_by_line = by_line goals are.goals_are.ordered

  pub one_order : fields_of keys ≡ fields_of prints
  one_order = ap fields_of are.keys_are ∙ same_keys_listed texts (keys_of db) (whole_prints_of db) agreed.together ∙ ap fields_of (sym are.prints_are)

  all_lines : past ++ lines_of db ≡ past ++ lines_told goals notes
  all_lines = ap (λ lines. past ++ lines) (lines_are db goals are.goals_are notes are.notes_are)

  pub is_a_journal : IsNoJournal (site_routing part) (past ++ lines_told goals notes) → ⊥
  is_a_journal none = none (with_past past (book_of db)) agreed.found.journalled all_lines

  pub in_order : AreListsInOrder arrivals kept rows
  in_order = record {
    arrivals_rise = are.arrivals_are.ordered;
    kept_rise = are.kept_are.ordered;
    rows_rise = subst (λ es. IsStrictlySortedBy pair_cmp (fields_of es)) (sym are.rows_are) (entries_rise text_pairs (map.entries (rows_of db)) (map.entries_sorted (rows_of db)));
  }

  pub told_is_listed : (items : FinMap text_cmp Instance) (c : Content) → Stocks map.empty keys prints items → IsToldJournal (site_routing part) (past ++ lines_told goals notes) c → c ≡ all_of items arrivals kept rows
  told_is_listed items c stocks told =
      let book : Fold (past ++ lines_told goals notes) ≡ with_past past (book_of db) = ap Fold (sym all_lines) ∙ sym agreed.found.journalled.1.fold in
      told.fold ∙ ap content_of book ∙ sym (listed_is db keys prints arrivals kept rows notes goals are items stocks)

  pub lines_before : All (λ (goal : Goal). goal.0 < n) goals
  lines_before = All-from_recursion (λ (goal : Goal). goal.0 < n) goals (every_one (λ (goal : Goal). goal.0 < n) goals (λ goal there. by_case goal there (leb n goal.0) refl))
    where
      none : (m : ℕ) (q : Text) → map.contains_key (names_in (db 12) m) q ≡ true → n ≤ m → ⊥
      none m q has late = true≢false (sym has ∙ ap (λ names. is_some (map.get names q)) (agreed.found.ahead m late) ∙ ap is_some (map.get-empty text_cmp q))

      by_case : (goal : Goal) → Contains goals goal → (b : Bool) → leb n goal.0 ≡ b → goal.0 < n
      by_case goal there true e = absurd (none goal.0 goal.1 (sym (goals_are_names db goal.0 goal.1) ∙ (are.goals_are.each goal).0 there) (leb-true _ _ e))
      by_case goal there false e = leb-false _ _ e

  module _ (uids : FinSet text_cmp) (are_needed : (q : Text) → (set.contains uids q ≡ true) ↔ (Contains kept q ⊎ IsOpenIn rows q)) where
    pub just_the_needed : AllByRecursion (λ (p : Text × Print). p.1.whole ≡ set.contains uids p.0) prints
    just_the_needed = every_one (λ (p : Text × Print). p.1.whole ≡ set.contains uids p.0) prints (λ p there. same_bool p.1.whole (set.contains uids p.0) (needed_if p there) (whole_if p there))
      where
        print_at : (p : Text × Print) → Contains prints p → map.get (whole_prints_of db) p.0 ≡ Some p.1
        print_at p there = map.get-entries (whole_prints_of db) p.0 ∙ listed_found texts (map.entries (whole_prints_of db)) (map.entries_sorted (whole_prints_of db)) p.0 p.1 (subst (λ xs. Contains xs p) are.prints_are there)

        needed_if : (p : Text × Print) → Contains prints p → p.1.whole ≡ true → set.contains uids p.0 ≡ true
        needed_if p there whole =
            let at = print_at p there in
            let w = whole_is db p.0 ∙ ap (λ o. unwrap_or (option_map (λ (y : Print). y.whole) o) false) at ∙ whole in
            let b = value_of (map.get (contents_in (db 1)) p.0) (content_there db p.0 ∙ (agreed.together p.0 ∙ ap is_some at)) in
            let body = body_at (contents_in (db 1)) (wholes_in (db 3)) p.0 ∙ ap (λ x. cond x (map.get (contents_in (db 1)) p.0) None) w ∙ b.1 in
            (are_needed p.0).1 (needed_so db kept rows are.kept_are are.rows_are p.0 ((agreed.found.there p.0).0 (b.0, body)))

        whole_if : (p : Text × Print) → Contains prints p → set.contains uids p.0 ≡ true → p.1.whole ≡ true
        whole_if p there has =
            let at = print_at p there in
            let body = (agreed.found.there p.0).1 (needs db kept rows are.kept_are are.rows_are p.0 ((are_needed p.0).0 has)) in
            let is = both_parts (is_whole (map.get (wholes_in (db 3)) p.0)) (map.get (contents_in (db 1)) p.0) body.0 (sym (body_at (contents_in (db 1)) (wholes_in (db 3)) p.0) ∙ body.1) in
            sym (ap (λ o. unwrap_or (option_map (λ (y : Print). y.whole) o) false) at) ∙ sym (whole_is db p.0) ∙ is
