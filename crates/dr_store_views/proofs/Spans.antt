-- The rows of a table whose numbers lie in a span.
use Rattle.std.proofs.Common.{◌≡◌, ℕ, ◌+◌, pos, negsuc, ◌<◌, ◌≤◌, List, [], ◌∷◌, map, filter, flat_map, Bool, true, false, ◌&&◌, cond, T, Option, Some, None, refl, sym, ap, subst, ◌∙◌, arith, true≢false}
use Rattle.std.specs.declared.cmp.Ordering.{Ordering}
use Rattle.std.specs.Ordering.{eq_by_cmp, is_gt, is_le, is_lt, nat_cmp}
use Rattle.std.specs.Cmp.{IsTotalOrder, nat_cmp_total}
use Rattle.std.specs.FinMap as fin
use Rattle.std.specs.FinMap.{IsAntisymmetric, entries, entries_sorted, find, from_entries, get-entries, get-from_entries}
use Rattle.std.specs.FinMap.Entries.{below_all, is_sorted, same_entries}
use Rattle.std.specs.FinSet as set
use Rattle.std.specs.List.{AllByRecursion}
use Rattle.std.specs.List.Sorted.{IsPermutation, IsStrictlySortedBy}
use Rattle.std.proofs.lemmas.Bool.{eqb-true}
use Rattle.std.proofs.lemmas.Cmp.{eq_by_cmp_equiv}
use Rattle.std.proofs.lemmas.List.Sorted.{Contains-permutation, IsPermutation-map, IsPermutation-sym}
use Rattle.std.proofs.lemmas.Map.Views.{Contains-from_any, list_any-from_Contains}
use Rattle.sqlite.specs.declared.types.Value.{Value}
use Rattle.sqlite.specs.declared.types.Value.TheVariants.{Blob, Int, Null, Real, Text as TextCell}
use Rattle.sqlite.specs.Order.{Row, column}
use Rattle.sqlite.specs.Program.{overlay}
use Rattle.sqlite.specs.Query.{IsAnswer, Output, output}
use Rattle.sqlite.specs.State.{State, Shown}
use Rattle.sqlite.specs.Term.{Term}
use Rattle.sqlite.specs.Tree.{Trees, rowid}
use Rattle.sqlite.proofs.Callers.{reads_as}
use Rattle.sqlite_sql.specs.declared.ops.CompareOp.TheVariants.{Gt, Le}
use Rattle.sqlite_value.specs.declared.keys.Key.{Key as SortKey}
use Rattle.dr_ledger.specs.Books.{Line}
use Rattle.dr_ledger.specs.Replies.{Lists}
use Rattle.dr_ledger_views.specs.Numbers.{is_within}
use Rattle.dr_ledger_views.proofs.Numbered.{lies_within, within}
use Rattle.dr_ledger_views.proofs.Ordered.{sorted_filtered}
use Rattle.dr_store_schema.specs.Books.{is_of_line, numbered_line}
use Rattle.dr_store_schema.specs.Cells.{number_in}
use Rattle.dr_store_schema.specs.Ledgers.{IsLedger}
use Rattle.dr_store_schema.specs.Tables.{tables}
use Rattle.dr_store_writes.proofs.Keys.{int_test}
use Rattle.dr_store_writes.proofs.Maps as maps
use Rattle.dr_store_writes.proofs.Updated.{hits, matched}
use Rattle.dr_store_lists.specs.Lists.{goal_cmp, line_of, note_in, shown_goal, shown_note, shown_note_entry}
use Rattle.dr_store_lists.specs.declared.listing.JournalRow.{JournalRow}
use Rattle.dr_store_lists.proofs.Apart.{apart_as_listed}
use Rattle.dr_store_lists.proofs.Lists.{goals_exact, goals_total, notes_are_lines}
use Rattle.dr_store_lists.proofs.Orders.{all_entries, both_T, first_T, second_T}
use Rattle.dr_store_lists.proofs.Wholes.{all_lines_order, all_lines_shown, all_targets_order, all_targets_shown}
use Rattle.dr_store_reads.proofs.Points.{map_twice}
use Rattle.dr_store_views.specs.Spans.{AreGoalsWithin, AreNotesWithin, CountsUp}
use Rattle.dr_store_views.specs.Statements as text
use Rattle.dr_store_views.proofs.Rows.{int_of_nat}
use Rattle.dr_store_views.proofs.Selects as select

-- ---- entries whose keys pass a test

none_both : {V : Type 0} (b : Bool) → ◌≡◌ {A = Option V} (cond b None None) None
none_both true = refl
none_both false = refl

same_key : {K : Type 0} {R : K → K → Ordering} → IsAntisymmetric R → (a b : K) → eq_by_cmp R a b ≡ true → a ≡ b
same_key {R = R} exact a b h = exact a b (maps.equal (R a b) h)

module _ {K V : Type 0} {R : K → K → Ordering} (total : IsTotalOrder R) (exact : IsAntisymmetric R) (p : K → Bool) where
  abbrev passing : List (K × V) → List (K × V)
  passing es = filter (λ (e : K × V). p e.0) es

  found_passing : (q : K) (es : List (K × V)) → find R q (passing es) ≡ cond (p q) (find R q es) None
  found_passing q [] = sym (none_both (p q))
  found_passing q (e ∷ es) = go (p e.0) refl (eq_by_cmp R q e.0) refl (found_passing q es)
    where
      go : (b : Bool) → p e.0 ≡ b → (c : Bool) → eq_by_cmp R q e.0 ≡ c → find R q (passing es) ≡ cond (p q) (find R q es) None
          → find R q (cond b (e ∷ passing es) (passing es)) ≡ cond (p q) (cond c (Some e.1) (find R q es)) None
      go true is true ties later =
          ap (λ b. cond b (Some e.1) (find R q (passing es))) ties ∙ sym (ap (λ b. cond b (Some e.1) None) (ap p (same_key exact q e.0 ties) ∙ is))
      go true is false other later = ap (λ b. cond b (Some e.1) (find R q (passing es))) other ∙ later
      go false is true ties later =
          let out : p q ≡ false = ap p (same_key exact q e.0 ties) ∙ is in
          later ∙ ap (λ b. cond b (find R q es) None) out ∙ sym (ap (λ b. cond b (Some e.1) None) out)
      go false is false other later = later

  found_none : (q : K) (es : List (K × V)) → AllByRecursion (λ e. p e.0 ≡ true) es → p q ≡ false → find R q es ≡ None
  found_none q [] all out = refl
  found_none q (e ∷ es) all out = go (eq_by_cmp R q e.0) refl (found_none q es all.1 out)
    where
      go : (b : Bool) → eq_by_cmp R q e.0 ≡ b → find R q es ≡ None → cond b (Some e.1) (find R q es) ≡ None
      go true ties later = absurd (true≢false (sym all.0 ∙ ap p (sym (same_key exact q e.0 ties)) ∙ out))
      go false other later = later

  -- a key is found among the rows that are hit, if each row of it is hit
  found_hit : {X : Type 0} (hit : X → Bool) (g : X → K × V) (q : K) (xs : List X) → ((x : X) → q ≡ (g x).0 → hit x ≡ true) → find R q (map g (filter hit xs)) ≡ find R q (map g xs)
  found_hit hit g q [] each = refl
  found_hit hit g q (x ∷ xs) each = go (hit x) refl (eq_by_cmp R q (g x).0) refl (found_hit hit g q xs each)
    where
      go : (b : Bool) → hit x ≡ b → (c : Bool) → eq_by_cmp R q (g x).0 ≡ c → find R q (map g (filter hit xs)) ≡ find R q (map g xs)
          → find R q (map g (cond b (x ∷ filter hit xs) (filter hit xs))) ≡ cond c (Some (g x).1) (find R q (map g xs))
      go true is c ties later = ap (λ b. cond b (Some (g x).1) (find R q (map g (filter hit xs)))) ties ∙ ap (cond c (Some (g x).1)) later
      go false is true ties later = absurd (true≢false (sym (each x (same_key exact q (g x).0 ties)) ∙ is))
      go false is false other later = later

  -- The entries of the rows that are hit are those of all rows whose keys pass, if each row of such
  -- a key is hit, and the keys of these entries pass.
  pub passing_entries : {X : Type 0} (hit : X → Bool) (g : X → K × V) (table : List X) (es : List (K × V)) → ((x : X) → p (g x).0 ≡ true → hit x ≡ true)
      → es ≡ entries (from_entries {R = R} (map g (filter hit table))) → AllByRecursion (λ e. p e.0 ≡ true) es
      → es ≡ passing (entries (from_entries {R = R} (map g table)))
  passing_entries hit g table es each is all =
      same_entries R total exact es (passing whole) (subst (λ xs. T (is_sorted R xs)) (sym is) (entries_sorted (from_entries {R = R} (map g (filter hit table)))))
      (sorted_filtered total exact (λ (e : K × V). p e.0) whole (entries_sorted (from_entries {R = R} (map g table)))) (λ q. go q (p q) refl)
    where
      whole : List (K × V)
      whole = entries (from_entries {R = R} (map g table))

      found : (xs : List (K × V)) (q : K) → find R q (entries (from_entries {R = R} xs)) ≡ find R q xs
      found xs q = sym (get-entries (from_entries {R = R} xs) q) ∙ get-from_entries total xs q

      go : (q : K) (b : Bool) → p q ≡ b → find R q es ≡ find R q (passing whole)
      go q true passes =
          ap (find R q) is ∙ found (map g (filter hit table)) q ∙ found_hit hit g q table (λ x same. each x (ap p (sym same) ∙ passes))
          ∙ sym (found (map g table) q) ∙ sym (found_passing q whole ∙ ap (λ b. cond b (find R q whole) None) passes)
      go q false out = found_none q es all out ∙ sym (found_passing q whole ∙ ap (λ b. cond b (find R q whole) None) out)

-- ---- the rows that a query shows

both_of : (a b : Bool) → (a && b) ≡ true → (a && (b && true)) ≡ true
both_of true true h = refl
both_of true false h = absurd (true≢false (sym h))
both_of false b h = absurd (true≢false (sym h))

-- a number above 0 is that of a cell that has it
int_at : (v : Value) (n : ℕ) → number_in v ≡ n → 0 < n → v ≡ Int (pos n)
int_at Null n is some = absurd (omega (arith, is, some))
int_at (Int (pos m)) n is some = ap (λ k. Int (pos k)) is
int_at (Int (negsuc m)) n is some = absurd (omega (arith, is, some))
int_at (Real x) n is some = absurd (omega (arith, is, some))
int_at (TextCell t) n is some = absurd (omega (arith, is, some))
int_at (Blob b) n is some = absurd (omega (arith, is, some))

module _ (place after last : ℕ) (from to : Value) (begins : after ≤ last → from ≡ Int (pos after)) (ends : to ≡ Int (pos last)) where
  abbrev pub span_params : Row
  span_params = from ∷ to ∷ []

  abbrev pub in_span : Row → Bool
  in_span = hits (select.in_span place) span_params

  span_test : (row : Row) (m : ℕ) → from ≡ Int (pos after) → column row place ≡ Int (pos m) → in_span row ≡ (is_gt (nat_cmp m after) && (is_le (nat_cmp m last) && true))
  span_test row m from_is at = rw (at, from_is, ends, int_test Gt (pos m) (pos after), int_test Le (pos m) (pos last), int_of_nat m after, int_of_nat m last)

  -- a row is hit whose number lies in the span
  pub is_hit : (row : Row) → is_within after last (number_in (column row place)) ≡ true → in_span row ≡ true
  is_hit row is =
      let n = number_in (column row place) in
      let lies = lies_within after last n is in
      let one = lies.0 in
      let two = lies.1 in
      let low : after ≤ last = omega (arith, one, two) in
      span_test row n (begins low) (int_at (column row place) n refl (omega (arith, one))) ∙ both_of (is_gt (nat_cmp n after)) (is_le (nat_cmp n last)) is

  module _ (tree : ℕ) (shown : List Term) (order : List (Term × SortKey)) (db : Trees) (rows : List Row) (answer : IsAnswer (select.spanned tree place shown order) (overlay db []) span_params rows)
      (grouped : answer.staged ≡ flat_map (λ r. cond (in_span r) ((span_params ∷ r ∷ []) ∷ []) []) (db tree)) where
    abbrev some : List Row
    some = filter in_span (db tree)

    abbrev pub listed : Row → Row
    listed r = (output (select.spanned tree place shown order) (span_params ∷ r ∷ [])).1

    -- each of the rows that are hit is shown once, in some order
    all_listed : IsPermutation (map listed some) rows
    all_listed =
        let q = select.spanned tree place shown order in
        let kept : answer.kept ≡ map (λ r. output q (span_params ∷ r ∷ [])) some =
        answer.distinct ∙ ap (map (output q)) (grouped ∙ matched in_span (λ r. span_params ∷ r ∷ []) (db tree)) ∙ map_twice (λ r. span_params ∷ r ∷ []) (output q) some in
        let shown_ones : map (λ (o : Output). o.1) answer.kept ≡ map listed some = ap (map (λ (o : Output). o.1)) kept ∙ map_twice (λ r. output q (span_params ∷ r ∷ [])) (λ (o : Output). o.1) some in
        subst (λ xs. IsPermutation xs rows) shown_ones
        (subst (λ xs. IsPermutation (map (λ (o : Output). o.1) answer.kept) xs) (sym answer.shown) (IsPermutation-map (λ (o : Output). o.1) answer.kept answer.ordered answer.same))

    -- where keys rise, the entries of a map are shown
    pub lists_entries : {K V : Type 0} {R : K → K → Ordering} → IsTotalOrder R → IsAntisymmetric R → (f : Row → K × V) → T (is_sorted R (map f rows))
        → map f rows ≡ entries (from_entries {R = R} (map (λ r. f (listed r)) some))
    lists_entries {R = R} total exact f sorted =
        let apart = apart_as_listed total exact f (map listed some) rows all_listed sorted in
        all_entries total exact f (map listed some) rows apart all_listed sorted ∙ ap (λ es. entries (from_entries {R = R} es)) (map_twice listed f some)

    -- and the elements of a set
    pub lists_set : {K : Type 0} {R : K → K → Ordering} → IsTotalOrder R → IsAntisymmetric R → (f : Row → K) → IsStrictlySortedBy R (map f rows)
        → Lists R (set.from_list (map (λ r. f (listed r)) some)) (map f rows)
    lists_set {K} {R} total exact f sorted = record {
      ordered = sorted;
      each = λ x. (
        λ there. set.contains-from_list total (map (λ r. f (listed r)) some) x
            ∙ list_any-from_Contains (eq_by_cmp_equiv total) x (map (λ r. f (listed r)) some) (Contains-permutation (map f rows) (map (λ r. f (listed r)) some) x (IsPermutation-sym _ _ same) there),
        λ has. Contains-permutation (map (λ r. f (listed r)) some) (map f rows) x same
            (Contains-from_any (λ a b tied. exact a b (maps.equal (R a b) tied)) x (map (λ r. f (listed r)) some) (sym (set.contains-from_list total (map (λ r. f (listed r)) some) x) ∙ has)),
      );
    }
      where
        same : IsPermutation (map (λ r. f (listed r)) some) (map f rows)
        same = subst (λ xs. IsPermutation xs (map f rows)) (map_twice listed f some) (IsPermutation-map f (map listed some) rows all_listed)

-- ---- the journal

-- whether keys rise is seen at the keys alone
same_below : {V W : Type 0} (k : ℕ) (es : List (ℕ × V)) (f : ℕ × V → W) → T (below_all nat_cmp k es) → T (below_all nat_cmp k (map (λ (e : ℕ × V). (e.0, f e)) es))
same_below k [] f h = tt
same_below k (e ∷ es) f h = both_T (is_lt (nat_cmp k e.0)) _ (first_T (is_lt (nat_cmp k e.0)) _ h) (same_below k es f (second_T (is_lt (nat_cmp k e.0)) _ h))

same_order : {V W : Type 0} (es : List (ℕ × V)) (f : ℕ × V → W) → T (is_sorted nat_cmp es) → T (is_sorted nat_cmp (map (λ (e : ℕ × V). (e.0, f e)) es))
same_order [] f h = tt
same_order (e ∷ es) f h =
    both_T (below_all nat_cmp e.0 (map (λ x. (x.0, f x)) es)) _ (same_below e.0 es f (first_T (below_all nat_cmp e.0 es) _ h)) (same_order es f (second_T (below_all nat_cmp e.0 es) _ h))

same_map : {X Y : Type 0} (f g : X → Y) → ((x : X) → f x ≡ g x) → (xs : List X) → map f xs ≡ map g xs
same_map f g is [] = refl
same_map f g is (x ∷ xs) = λ i. is x i ∷ same_map f g is xs i

-- the numbers that count up lie in the span
all_within : (after last n : ℕ) (notes : List (ℕ × JournalRow)) (f : ℕ × JournalRow → Line) → after ≤ n → CountsUp n last notes
    → AllByRecursion (λ (e : ℕ × Line). is_within after last e.0 ≡ true) (map (λ e. (e.0, f e)) notes)
all_within after last n [] f le h = tt
all_within after last n (e ∷ notes) f le h =
    let is : e.0 ≡ n + 1 = h.1 in
    let low : n < last = h.0 in
    (within after last e.0 (omega (arith, is, le)) (omega (arith, is, low)), all_within after last (n + 1) notes f (omega (arith, le)) h.2)

module _ (after last : ℕ) (from to : Value) (begins : after ≤ last → from ≡ Int (pos after)) (ends : to ≡ Int (pos last)) (old new : State) (rows : List Row) (has : IsLedger old.now) where
  abbrev params : Row
  params = from ∷ to ∷ []

  pub notes_found : Shown text.lines_behind params old new rows → T (is_sorted nat_cmp (map shown_note_entry rows)) → CountsUp after last (map shown_note_entry rows)
      → AreNotesWithin old.now.trees after last (map shown_note_entry rows)
  notes_found h sorted up = record {
    up = up;
    lines = λ targets.
        let told : Row → ℕ × Line = λ r. (number_in (column r 0), line_of targets (number_in (column r 0)) (shown_note r)) in
        let noted : Row → ℕ × Line = λ r. (number_in (rowid r), line_of targets (number_in (rowid r)) (note_in r)) in
        let f : ℕ × JournalRow → Line = λ e. line_of targets e.0 e.1 in
        let es : List (ℕ × Line) = map (λ (e : ℕ × JournalRow). (e.0, f e)) (map shown_note_entry rows) in
        let twice : es ≡ map told rows = map_twice shown_note_entry (λ (e : ℕ × JournalRow). (e.0, f e)) rows in
        let rising : T (is_sorted nat_cmp (map told rows)) = subst (λ xs. T (is_sorted nat_cmp xs)) twice (same_order (map shown_note_entry rows) f sorted) in
        let some = filter (in_span 0 after last from to begins ends) (old.now.trees 11) in
        let listed_ones : map told rows ≡ entries (from_entries {R = nat_cmp} (map noted some)) =
        lists_entries 0 after last from to begins ends 11 all_lines_shown all_lines_order old.now.trees rows answer answer.grouped nat_cmp_total fin.nat_cmp-IsAntisymmetric told rising in
        let own : map noted some ≡ map (numbered_line targets) some = same_map noted (numbered_line targets) (λ r. ap (λ l. (number_in (rowid r), l)) (sym (notes_are_lines targets r))) some in
        passing_entries nat_cmp_total fin.nat_cmp-IsAntisymmetric (is_within after last) (in_span 0 after last from to begins ends) (numbered_line targets) (old.now.trees 11) es
        (λ r is. is_hit 0 after last from to begins ends r is)
        (twice ∙ listed_ones ∙ ap (λ xs. entries (from_entries {R = nat_cmp} xs)) own)
        (all_within after last after (map shown_note_entry rows) f (omega arith) up);
  }
    where
      answer : IsAnswer (select.spanned 11 0 all_lines_shown all_lines_order) (overlay old.now.trees []) params rows
      answer = (reads_as text.lines_behind params old new tables has.schema _ select.lines_behind.command select.lines_behind.plain select.lines_behind.listing rows h).answer Null

  -- ---- where they go on to

  line_hit : (n : ℕ) → is_within after last n ≡ true → (row : Row) → is_of_line n row ≡ true → in_span 1 after last from to begins ends row ≡ true
  line_hit n lies row is = is_hit 1 after last from to begins ends row (ap (is_within after last) (eqb-true (number_in (column row 1)) n is) ∙ lies)

  filtered_twice : (n : ℕ) (hit : Row → Bool) (xs : List Row) → ((row : Row) → is_of_line n row ≡ true → hit row ≡ true) → filter (is_of_line n) (filter hit xs) ≡ filter (is_of_line n) xs
  filtered_twice n hit [] each = refl
  filtered_twice n hit (x ∷ xs) each = go (hit x) refl (is_of_line n x) refl (filtered_twice n hit xs each)
    where
      go : (b : Bool) → hit x ≡ b → (c : Bool) → is_of_line n x ≡ c → filter (is_of_line n) (filter hit xs) ≡ filter (is_of_line n) xs
          → filter (is_of_line n) (cond b (x ∷ filter hit xs) (filter hit xs)) ≡ cond c (x ∷ filter (is_of_line n) xs) (filter (is_of_line n) xs)
      go true is true ours later = ap (λ b. cond b (x ∷ filter (is_of_line n) (filter hit xs)) (filter (is_of_line n) (filter hit xs))) ours ∙ ap (λ ys. x ∷ ys) later
      go true is false other later = ap (λ b. cond b (x ∷ filter (is_of_line n) (filter hit xs)) (filter (is_of_line n) (filter hit xs))) other ∙ later
      go false is true ours later = absurd (true≢false (sym (each x ours) ∙ is))
      go false is false other later = later

  pub goals_found : Shown text.targets_behind params old new rows → IsStrictlySortedBy goal_cmp (map shown_goal rows) → AreGoalsWithin old.now.trees after last (map shown_goal rows)
  goals_found h sorted = record {
    some = filter (in_span 1 after last from to begins ends) (old.now.trees 12);
    lists = lists_set 1 after last from to begins ends 12 all_targets_shown all_targets_order old.now.trees rows answer answer.grouped goals_total goals_exact shown_goal sorted;
    whole = λ n lies. filtered_twice n (in_span 1 after last from to begins ends) (old.now.trees 12) (line_hit n lies);
  }
    where
      answer : IsAnswer (select.spanned 12 1 all_targets_shown all_targets_order) (overlay old.now.trees []) params rows
      answer = (reads_as text.targets_behind params old new tables has.schema _ select.targets_behind.command select.targets_behind.plain select.targets_behind.listing rows h).answer Null
