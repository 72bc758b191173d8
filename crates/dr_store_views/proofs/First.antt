-- The first moment at which a row that waits is due.
use Rattle.std.proofs.Common.{◌≡◌, ◌<◌, ◌≤◌, inl, inr, ℕ, zero, suc, pos, List, [], ◌∷◌, map, filter, Contains, All, get_or, Bool, true, false, ◌&&◌, cond, Option, None, Some, refl, sym, ap, subst, ◌∙◌, arith, true≢false}
use Rattle.std.specs.declared.cmp.Ordering.{Ordering}
use Rattle.std.specs.declared.cmp.Ordering.TheVariants.{Less, Equal, Greater}
use Rattle.std.specs.Ordering.{is_eq, is_lt, nat_cmp, ordering_reverse}
use Rattle.std.specs.Cmp.{IsStrictWeakOrder, IsTotalOrder, ranked}
use Rattle.std.specs.Cmp.Lexicographic.{slice_cmp}
use Rattle.std.specs.FinMap.{entries}
use Rattle.std.specs.List.{AllByRecursion}
use Rattle.std.specs.List.Sorted.{IsSorted}
use Rattle.std.specs.Str.{bytes_eq}
use Rattle.std.proofs.lemmas.List.Elements.{All-contains, Contains-get_or}
use Rattle.std.proofs.lemmas.List.Sorted.{IsPermutation-sym, sorted_far}
use Rattle.std.proofs.lemmas.Map.Text.{is_eq-slice_cmp}
use Rattle.sqlite.specs.declared.types.Value.TheVariants.{Null, Text as TextCell}
use Rattle.sqlite.specs.Order.{Row, column}
use Rattle.sqlite.specs.Program.{overlay}
use Rattle.sqlite.specs.Query.{IsAnswer, Output, output, output_cmp, page}
use Rattle.sqlite.specs.State.{State, Shown}
use Rattle.sqlite.proofs.Callers.{reads_as}
use Rattle.sqlite_sql.specs.declared.ops.CompareOp.TheVariants.{Eq}
use Rattle.sqlite_sql.proofs.QueryLemmas.{output_cmp_total}
use Rattle.sqlite_trees.proofs.TreeLemmas.{above, not_true}
use Rattle.sqlite_value.proofs.OrderLemmas.{value_cmp-Int, then-Equal}
use Rattle.dr_base.specs.Texts.{Text}
use Rattle.dr_ledger.specs.Books.{Row as Entry}
use Rattle.dr_ledger.specs.declared.item.Cause.{Cause}
use Rattle.dr_ledger.specs.Pairs.{Pair}
use Rattle.dr_ledger_views.specs.Views.{IsLeast, due_for, due_of, dues}
use Rattle.dr_ledger_views.proofs.Asked.{Has, of_row, to_moment}
use Rattle.dr_ledger_views.proofs.Ordered.{filtered_has, has_contains, has_filtered, has_permuted}
use Rattle.dr_store_schema.specs.Books.{entry_in, rows_of}
use Rattle.dr_store_schema.specs.Cells.{number_in, progress_by}
use Rattle.dr_store_schema.specs.Ledgers.{IsLedger}
use Rattle.dr_store_schema.specs.Tables.{tables}
use Rattle.dr_store_writes.proofs.Keys.{int_test, key_of, same_text}
use Rattle.dr_store_writes.proofs.Updated.{hits, matched}
use Rattle.dr_store_reads.proofs.Points.{map_twice}
use Rattle.dr_store_views.specs.Statements as text
use Rattle.dr_store_views.proofs.Counted.{number_first}
use Rattle.dr_store_views.proofs.Rows.{IsOurs, all_rows, are_ours, int_of_nat, progress_of}
use Rattle.dr_store_views.proofs.Selects as select

-- ---- lists

pub all_of : {X : Type 0} (P : X → Type 0) (xs : List X) (x : X) → AllByRecursion P xs → Has xs x → P x
all_of P [] x all h = absurd h
all_of P (y ∷ ys) x all (inl same) = subst P (sym same) all.0
all_of P (y ∷ ys) x all (inr later) = all_of P ys x all.1 later

pub has_mapped : {X Y : Type 0} (f : X → Y) (xs : List X) (x : X) → Has xs x → Has (map f xs) (f x)
has_mapped f [] x h = absurd h
has_mapped f (y ∷ ys) x (inl same) = inl (ap f same)
has_mapped f (y ∷ ys) x (inr later) = inr (has_mapped f ys x later)

pub mapped_has : {X Y : Type 0} (f : X → Y) (xs : List X) (y : Y) → Has (map f xs) y → (x : X) × Has xs x × (y ≡ f x)
mapped_has f [] y h = absurd h
mapped_has f (x ∷ xs) y (inl same) = (x, inl refl, same)
mapped_has f (x ∷ xs) y (inr later) = let it = mapped_has f xs y later in (it.0, inr it.1, it.2)

inside : {X : Type 0} (x y : X) → Some x ≡ Some y → x ≡ y
inside x y e = cc

less : (o : Ordering) → is_lt o ≡ true → o ≡ Less
less Less h = refl
less Equal h = absurd cc
less Greater h = absurd cc

weak_order : {K : Type 0} {R : K → K → Ordering} → IsTotalOrder R → IsStrictWeakOrder (λ a b. is_lt (R a b))
weak_order {K} {R} total = record { one_way = λ x y h. ap is_lt (total.antisymm y x ∙ ap ordering_reverse (less (R x y) h)); chain = λ x y z a b. chained x y z (R x y) refl a b }
  where
    chained : (x y z : K) (o : Ordering) → R x y ≡ o → is_lt (R x y) ≡ false → is_lt (R y z) ≡ false → is_lt (R x z) ≡ false
    chained x y z Less e a b = absurd (true≢false (sym (ap is_lt e) ∙ a))
    chained x y z Equal e a b = ap is_lt (total.congr x y z e) ∙ b
    chained x y z Greater e a b = not_true (is_lt (R x z)) (λ h. true≢false (sym (ap is_lt (total.trans y x z (above total x y e) (less (R x z) h))) ∙ b))

no_less : (m n : ℕ) → is_lt (nat_cmp m n) ≡ false → n ≤ m
no_less m n h = go (nat_cmp m n) refl h
  where
    go : (r : Ordering) → r ≡ nat_cmp m n → is_lt r ≡ false → n ≤ m
    go Less e h = absurd cc
    go Equal e h = let same = ranked m n Equal e in omega (arith, same)
    go Greater e h = let high = ranked m n Greater e in omega (arith, high)

-- ---- moments

due_by : (state tries due : ℕ) (why : Cause) → state < 4 → due_of (progress_by state tries due why) ≡ cond (is_eq (nat_cmp state 0)) (Some due) None
due_by zero tries due why known = refl
due_by (suc zero) tries due why known = refl
due_by (suc (suc zero)) tries due why known = refl
due_by (suc (suc (suc zero))) tries due why known = refl
due_by (suc (suc (suc (suc more)))) tries due why known = absurd (omega (arith, known))

nested : (a b : Bool) (x : Option ℕ) → cond a (cond b x None) None ≡ cond (a && (b && true)) x None
nested true true x = refl
nested true false x = refl
nested false b x = refl

where_some : (b : Bool) (due d : ℕ) → cond b (Some due) None ≡ Some d → (b ≡ true) × (due ≡ d)
where_some true due d h = (refl, inside due d h)
where_some false due d h = absurd cc

module _ (dest : Text) where
  abbrev pub first_params : Row
  first_params = TextCell dest ∷ []

  abbrev hit : Row → Bool
  hit = hits select.waiting first_params

  abbrev out : Row → Output
  out r = output select.first_query (first_params ∷ r ∷ [])

  hit_test : (row : Row) (is : IsOurs row) → hit row ≡ (is_eq (slice_cmp nat_cmp is.queue.at.1 dest) && (is_eq (nat_cmp is.counted.state 0) && true))
  hit_test row is =
      rw (is.queue.dest, is.counted.state_is, same_text is.queue.at.1 dest, int_test Eq (pos is.counted.state) (pos 0), int_of_nat is.counted.state 0)

  -- a row's moment
  moment_of : (row : Row) (is : IsOurs row) → due_for dest (entry_in row) ≡ cond (hit row) (Some is.counted.due) None
  moment_of row is =
      let to : bytes_eq (entry_in row).0.1 dest ≡ is_eq (slice_cmp nat_cmp is.queue.at.1 dest) =
      ap (λ (k : Pair). bytes_eq k.1 dest) (key_of row is.queue) ∙ sym (is_eq-slice_cmp is.queue.at.1 dest) in
      let due : due_of (entry_in row).1 ≡ cond (is_eq (nat_cmp is.counted.state 0)) (Some is.counted.due) None =
      ap due_of (progress_of row is) ∙ due_by is.counted.state _ _ _ is.counted.known in
      (λ i. cond (to i) (due i) None) ∙ nested _ _ (Some is.counted.due) ∙ ap (λ b. cond b (Some is.counted.due) None) (sym (hit_test row is))

  order_is : (a b : Row) (p : IsOurs a) (q : IsOurs b) → output_cmp select.first_query (out a) (out b) ≡ nat_cmp p.counted.due q.counted.due
  order_is a b p q = rw (p.counted.due_is, q.counted.due_is, value_cmp-Int (pos p.counted.due) (pos q.counted.due), then-Equal, int_of_nat p.counted.due q.counted.due)

  module _ (old new : State) (has : IsLedger old.now) where
    abbrev table : List Row
    table = old.now.trees 9

    abbrev all : List Entry
    all = entries (rows_of old.now.trees)

    ours : (row : Row) → Has table row → IsOurs row
    ours row there = all_of IsOurs table row (are_ours old.now has) there

    -- a moment is that of a row that is found
    row_of : (d : ℕ) → Contains (dues all dest) d → (row : Row) × (there : Has table row) × (hit row ≡ true) × ((ours row there).counted.due ≡ d)
    row_of d h =
        let it = of_row all dest d h in
        let from = mapped_has entry_in table it.0 (has_permuted all (map entry_in table) it.0 (IsPermutation-sym _ _ (all_rows old.now has)) it.1) in
        let is = ours from.0 from.1 in
        let told = where_some (hit from.0) is.counted.due d (sym (moment_of from.0 is) ∙ sym (ap (due_for dest) from.2) ∙ it.2) in
        (from.0, from.1, told.0, told.1)

    -- and a row that is found has its moment among them
    moment_there : (row : Row) (there : Has table row) → hit row ≡ true → Contains (dues all dest) (ours row there).counted.due
    moment_there row there found =
        let is = ours row there in
        to_moment all dest (entry_in row) is.counted.due (has_permuted (map entry_in table) all (entry_in row) (all_rows old.now has) (has_mapped entry_in table row there))
        (moment_of row is ∙ ap (λ b. cond b (Some is.counted.due) None) found)

    module _ (rows : List Row) (answer : IsAnswer select.first_query (overlay old.now.trees []) first_params rows) (kept : answer.kept ≡ map out (filter hit table)) where
      among : (row : Row) → Has table row → hit row ≡ true → Has answer.ordered (out row)
      among row there found =
          has_permuted answer.kept answer.ordered (out row) answer.same (subst (λ os. Has os (out row)) (sym kept) (has_mapped out (filter hit table) row (has_filtered hit table row there found)))

      none : answer.ordered ≡ [] → IsLeast (dues all dest) (number_first rows)
      none e =
          let empty : rows ≡ [] = answer.shown ∙ ap (λ os. page select.first_query first_params (map (λ (o : Output). o.1) os)) e in
          subst (λ rs. IsLeast (dues all dest) (number_first rs)) (sym empty) (nothing (dues all dest) (λ d h. let it = row_of d h in subst (λ os. Has os (out it.0)) e (among it.0 it.1 it.2)))
        where
          nothing : (ms : List ℕ) → ((d : ℕ) → Contains ms d → ⊥) → ms ≡ []
          nothing [] h = refl
          nothing (m ∷ ms) h = absurd (h m (0, omega arith, refl))

      some : (y : Output) (more : List Output) → answer.ordered ≡ y ∷ more → IsLeast (dues all dest) (number_first rows)
      some y more e =
          let one : rows ≡ y.1 ∷ [] = answer.shown ∙ ap (λ os. page select.first_query first_params (map (λ (o : Output). o.1) os)) e in
          let mine = mapped_has out (filter hit table) y
          (subst (λ os. Has os y) kept (has_permuted answer.ordered answer.kept y (IsPermutation-sym _ _ answer.same) (subst (λ os. Has os y) (sym e) (inl refl)))) in
          let from = filtered_has hit table mine.0 mine.1 in
          let is = ours mine.0 from.0 in
          let due = is.counted.due in
          let shows : number_first rows ≡ Some due = ap number_first one ∙ ap (λ (o : Output). Some (number_in (column o.1 0))) mine.2 ∙ ap (λ v. Some (number_in v)) is.counted.due_is in
          let far : All (λ z. is_lt (output_cmp select.first_query z y) ≡ false) answer.ordered =
          rw e (λ j d low. sorted_far (λ a b. is_lt (output_cmp select.first_query a b)) (weak_order (output_cmp_total select.first_query)) (y ∷ more) (subst (IsSorted (output_cmp select.first_query)) e answer.sorted) 0 j d (omega arith) low) in
          subst (IsLeast (dues all dest)) (sym shows) (
            moment_there mine.0 from.0 from.1,
            λ k d low.
                let m = get_or (dues all dest) k d in
                let it = row_of m (Contains-get_or (dues all dest) k d low) in
                let its = ours it.0 it.1 in
                let behind = All-contains (λ z. is_lt (output_cmp select.first_query z y) ≡ false) answer.ordered (out it.0) far (has_contains answer.ordered (out it.0) (among it.0 it.1 it.2)) in
                let order : is_lt (nat_cmp its.counted.due due) ≡ false = sym (ap is_lt (order_is it.0 mine.0 its is)) ∙ ap (λ z. is_lt (output_cmp select.first_query (out it.0) z)) (sym mine.2) ∙ behind in
                subst (λ n. due ≤ n) it.3 (no_less its.counted.due due order),
          )

    pub first_found : (rows : List Row) → Shown text.first_moment first_params old new rows → IsLeast (dues all dest) (number_first rows)
    first_found rows h =
        let answer : IsAnswer select.first_query (overlay old.now.trees []) first_params rows =
        (reads_as text.first_moment first_params old new tables has.schema _ select.first_moment.command select.first_moment.plain select.first_moment.listing rows h).answer Null in
        let kept : answer.kept ≡ map out (filter hit table) =
        answer.distinct ∙ ap (map (output select.first_query)) (answer.grouped ∙ matched hit (λ r. first_params ∷ r ∷ []) table)
        ∙ map_twice (λ r. first_params ∷ r ∷ []) (output select.first_query) (filter hit table) in
        go rows answer kept answer.ordered refl
      where
        go : (rows : List Row) (answer : IsAnswer select.first_query (overlay old.now.trees []) first_params rows) → answer.kept ≡ map out (filter hit table)
            → (ordered : List Output) → answer.ordered ≡ ordered → IsLeast (dues all dest) (number_first rows)
        go rows answer kept [] e = none rows answer kept e
        go rows answer kept (y ∷ more) e = some rows answer kept y more e
