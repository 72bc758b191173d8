-- The data sets that are there are those that are needed.
use Rattle.std.proofs.Common.{◌≡◌, ◌==◌, ◌⊎◌, inl, inr, ℕ, List, [], ◌∷◌, map as mapped, Contains, Bool, true, false, not, cond, T, Option, None, Some, is_some, option_map, unwrap_or, refl, sym, ap, subst, ◌∙◌, true≢false}
use Rattle.std.specs.Prelude.{◌↔◌}
use Rattle.std.specs.declared.cmp.Ordering.{Ordering}
use Rattle.std.specs.declared.cmp.Ordering.TheVariants.{Less, Equal}
use Rattle.std.specs.Ordering.{eq_by_cmp, is_lt}
use Rattle.std.specs.Cmp.Lexicographic.{nat_list_cmp_total}
use Rattle.std.specs.FinMap as map
use Rattle.std.specs.FinMap.{find}
use Rattle.std.specs.FinMap.Entries.{below_all, is_sorted}
use Rattle.std.specs.FinSet as set
use Rattle.std.specs.FinSet.{FinSet}
use Rattle.std.proofs.lemmas.Cmp.{tied_itself}
use Rattle.std.specs.List.{AllByRecursion}
use Rattle.std.proofs.lemmas.List.Elements.{All-contains, All-from_recursion}
use Rattle.sqlite.specs.Order.{Row, column}
use Rattle.sqlite.specs.Tree.{Trees}
use Rattle.dr_base.specs.Texts.{Text, text_cmp}
use Rattle.dr_plan_model.proofs.Gathered.{Contains-cons_cases, Contains-here, Contains-there, nothing_in_nil}
use Rattle.dr_ledger.specs.declared.item.Instance.{Instance}
use Rattle.dr_ledger.specs.declared.item.Progress.{Progress}
use Rattle.dr_ledger.specs.Bodies.{IsNeeded}
use Rattle.dr_ledger.specs.Histories.{IsSolid}
use Rattle.dr_ledger.specs.Pairs.{Pair}
use Rattle.dr_ledger.specs.Replies.{Lists}
use Rattle.dr_ledger.proofs.Maps.{IsExact, same_or_not, text_pairs, texts, ties_itself}
use Rattle.dr_store_schema.specs.Books.{all_kept_in, bodies_of, book_of, content_in, contents_in, instance_by, is_whole, items_of, key_in, prints_of, rows_of, wholes_in}
use Rattle.dr_store_schema.specs.Cells.{bytes_in, text_in}
use Rattle.dr_store_changes.proofs.LettingGo.{body_at}
use Rattle.dr_store_reads.specs.declared.finding.Print.{Print}
use Rattle.dr_store_lists.specs.Lists.{keys_of, whole_prints_of}
use Rattle.dr_store_lists.proofs.Alike.{keys_and_prints}
use Rattle.dr_store_lists.proofs.Orders.{first_T, its_less, second_T}
use Rattle.dr_store_audit.specs.Needs.{IsOpenIn}

inside : {X : Type 0} (x y : X) → Some x ≡ Some y → x ≡ y
inside x y e = cc

pub value_of : {X : Type 0} (o : Option X) → is_some o ≡ true → (x : X) × (o ≡ Some x)
value_of None h = absurd (true≢false (sym h))
value_of (Some x) h = (x, refl)

-- ---- lists whose keys rise

module _ {K V : Type 0} {R : K → K → Ordering} (x : IsExact R) where
  -- what is found at a key is in the list
  pub found_listed : (k : K) (es : List (K × V)) (v : V) → find R k es ≡ Some v → Contains es (k, v)
  found_listed k [] v h = absurd (let e = h in cc)
  found_listed k (e ∷ es) v h = elim (same_or_not x k e.0) [
    | inl same ↦ (
        let hit : eq_by_cmp R k e.0 ≡ true = ap (eq_by_cmp R k) (sym same) ∙ ties_itself x k in
        let value : e.1 ≡ v = inside e.1 v (sym (ap (λ b. cond b (Some e.1) (find R k es)) hit) ∙ h) in
        subst (λ (y : K × V). Contains (e ∷ es) y) (λ i. (sym same i, value i)) (Contains-here e es)
        )
    | inr other ↦ Contains-there e es (k, v) (found_listed k es v (sym (ap (λ b. cond b (Some e.1) (find R k es)) other) ∙ h))
  ]

  low_of : (k : K) (es : List (K × V)) (q : K) (v : V) → T (below_all R k es) → Contains es (q, v) → R k q ≡ Less
  low_of k [] q v low there = absurd (nothing_in_nil (q, v) there)
  low_of k (e ∷ es) q v low there = elim (Contains-cons_cases e es (q, v) there) [
    | inl same ↦ sym (ap (λ (y : K × V). R k y.0) same) ∙ its_less _ (first_T (is_lt (R k e.0)) _ low)
    | inr later ↦ low_of k es q v (second_T (is_lt (R k e.0)) _ low) later
  ]

  -- and what is in the list is found at its key
  pub listed_found : (es : List (K × V)) → T (is_sorted R es) → (k : K) (v : V) → Contains es (k, v) → find R k es ≡ Some v
  listed_found [] sorted k v there = absurd (nothing_in_nil (k, v) there)
  listed_found (e ∷ es) sorted k v there = elim (Contains-cons_cases e es (k, v) there) [
    | inl same ↦ (
        let hit : eq_by_cmp R k e.0 ≡ true = ap (λ (y : K × V). eq_by_cmp R k y.0) same ∙ ties_itself x k in
        ap (λ b. cond b (Some e.1) (find R k es)) hit ∙ ap (λ (y : K × V). Some y.1) same
        )
    | inr later ↦ elim (same_or_not x k e.0) [
      | inl tie ↦ (
          let low : R e.0 k ≡ Less = low_of e.0 es k v (first_T (below_all R e.0 es) _ sorted) later in
          let equal : Less ≡ Equal = sym low ∙ ap (λ q. R q k) (sym tie) ∙ tied_itself x.total k in
          absurd cc
          )
      | inr other ↦ ap (λ b. cond b (Some e.1) (find R k es)) other ∙ listed_found es (second_T (below_all R e.0 es) _ sorted) k v later
    ]
  ]

-- ---- what is there

-- whether a key is found doesn't depend on the values
same_keys : {V W : Type 0} (key : Row → Text) (f : Row → V) (g : Row → W) (q : Text) (rows : List Row) → is_some (find text_cmp q (mapped (λ r. (key r, f r)) rows)) ≡ is_some (find text_cmp q (mapped (λ r. (key r, g r)) rows))
same_keys key f g q [] = refl
same_keys key f g q (r ∷ rows) = go (eq_by_cmp text_cmp q (key r)) (same_keys key f g q rows)
  where
    go : (b : Bool) → is_some (find text_cmp q (mapped (λ x. (key x, f x)) rows)) ≡ is_some (find text_cmp q (mapped (λ x. (key x, g x)) rows))
        → is_some (cond b (Some (f r)) (find text_cmp q (mapped (λ x. (key x, f x)) rows))) ≡ is_some (cond b (Some (g r)) (find text_cmp q (mapped (λ x. (key x, g x)) rows)))
    go true later = refl
    go false later = later

pub content_there : (db : Trees) (q : Text) → is_some (map.get (contents_in (db 1)) q) ≡ is_some (map.get (keys_of db) q)
content_there db q =
    ap is_some (map.get-from_entries nat_list_cmp_total (mapped content_in (db 1)) q)
    ∙ same_keys (λ r. text_in (column r 1)) (λ r. bytes_in (column r 6)) key_in q (db 1)
    ∙ ap is_some (sym (map.get-from_entries nat_list_cmp_total (mapped (λ (r : Row). (text_in (column r 1), key_in r)) (db 1)) q))

whole_by : (o : Option ℕ) → is_whole o ≡ unwrap_or (option_map (λ n. not (n == 0)) o) false
whole_by None = refl
whole_by (Some n) = refl

pub whole_is : (db : Trees) (q : Text) → is_whole (map.get (wholes_in (db 3)) q) ≡ unwrap_or (option_map (λ (p : Print). p.whole) (map.get (whole_prints_of db) q)) false
whole_is db q = whole_by (map.get (wholes_in (db 3)) q) ∙ ap (λ o. unwrap_or o false) ((keys_and_prints db).wholes q)

pub whole_print : (o : Option Print) → unwrap_or (option_map (λ (p : Print). p.whole) o) false ≡ true → (p : Print) × (o ≡ Some p) × (p.whole ≡ true)
whole_print None h = absurd (true≢false (sym h))
whole_print (Some p) h = (p, refl, h)

pub both_parts : {X : Type 0} (b : Bool) (o : Option X) (x : X) → cond b o None ≡ Some x → b ≡ true
both_parts true o x h = refl
both_parts false o x h = absurd (let e = h in cc)

some_inner : {X Y : Type 0} (f : X → Y) (o : Option X) (y : Y) → Some y ≡ option_map f o → is_some o ≡ true
some_inner f None y h = absurd (let e = h in cc)
some_inner f (Some x) y h = refl

-- what the lists need is what the book needs
module _ (db : Trees) (kept : List Text) (rows : List (Pair × Progress)) (kept_are : Lists text_cmp (all_kept_in (db 7)) kept) (rows_are : rows ≡ map.entries (rows_of db)) where
  pub needs : (q : Text) → Contains kept q ⊎ IsOpenIn rows q → IsNeeded (book_of db) q
  needs q (inl k) = inl ((kept_are.each q).0 k)
  needs q (inr o) =
      inr (o.0, o.1, map.get-entries (rows_of db) (q, o.0) ∙ listed_found text_pairs (map.entries (rows_of db)) (map.entries_sorted (rows_of db)) (q, o.0) o.1 (subst (λ xs. Contains xs ((q, o.0), o.1)) rows_are o.2), o.3)

  pub needed_so : (q : Text) → IsNeeded (book_of db) q → Contains kept q ⊎ IsOpenIn rows q
  needed_so q (inl k) = inl ((kept_are.each q).1 k)
  needed_so q (inr o) =
      inr (o.0, o.1, subst (λ xs. Contains xs ((q, o.0), o.1)) (sym rows_are) (found_listed text_pairs (q, o.0) (map.entries (rows_of db)) o.1 (sym (map.get-entries (rows_of db) (q, o.0)) ∙ o.2)), o.3)

module _ (db : Trees) (prints : List (Text × Print)) (kept : List Text) (rows : List (Pair × Progress)) (uids : FinSet text_cmp) (prints_are : prints ≡ map.entries (whole_prints_of db))
    (kept_are : Lists text_cmp (all_kept_in (db 7)) kept) (rows_are : rows ≡ map.entries (rows_of db)) (both : (q : Text) → is_some (map.get (keys_of db) q) ≡ is_some (map.get (whole_prints_of db) q))
    (are_needed : (q : Text) → (set.contains uids q ≡ true) ↔ (Contains kept q ⊎ IsOpenIn rows q)) (whole : AllByRecursion (λ (p : Text × Print). p.1.whole ≡ set.contains uids p.0) prints) (solid : IsSolid (book_of db)) where
  -- a print says whether the data set is needed
  said : (q : Text) (p : Print) → map.get (whole_prints_of db) q ≡ Some p → p.whole ≡ set.contains uids q
  said q p there =
      All-contains (λ (e : Text × Print). e.1.whole ≡ set.contains uids e.0) prints (q, p) (All-from_recursion (λ (e : Text × Print). e.1.whole ≡ set.contains uids e.0) prints whole)
      (subst (λ xs. Contains xs (q, p)) (sym prints_are) (found_listed texts q (map.entries (whole_prints_of db)) p (sym (map.get-entries (whole_prints_of db) q) ∙ there)))

  item_there : (q : Text) → IsNeeded (book_of db) q → (i : Instance) × (map.get (items_of db) q ≡ Some i)
  item_there q (inl k) = solid.kept q k
  item_there q (inr o) = solid.rows q o.0 o.1 o.2

  pub there : (q : Text) → ((body : List ℕ) × (map.get (bodies_of db) q ≡ Some body)) ↔ IsNeeded (book_of db) q
  there q = (
    λ body.
        let is = both_parts (is_whole (map.get (wholes_in (db 3)) q)) (map.get (contents_in (db 1)) q) body.0 (sym (body_at (contents_in (db 1)) (wholes_in (db 3)) q) ∙ body.1) in
        let p = whole_print (map.get (whole_prints_of db) q) (sym (whole_is db q) ∙ is) in
        needs db kept rows kept_are rows_are q ((are_needed q).0 (sym (said q p.0 p.1) ∙ p.2)),
    λ needed.
        let i = item_there q needed in
        let key : is_some (map.get (keys_of db) q) ≡ true = some_inner (instance_by (prints_of db) q) (map.get (keys_of db) q) i.0 (sym i.1 ∙ (keys_and_prints db).items q) in
        let p = value_of (map.get (whole_prints_of db) q) (sym (both q) ∙ key) in
        let is : p.0.whole ≡ true = said q p.0 p.1 ∙ (are_needed q).1 (needed_so db kept rows kept_are rows_are q needed) in
        let w : is_whole (map.get (wholes_in (db 3)) q) ≡ true = whole_is db q ∙ ap (λ o. unwrap_or (option_map (λ (y : Print). y.whole) o) false) p.1 ∙ is in
        let b = value_of (map.get (contents_in (db 1)) q) (content_there db q ∙ key) in
        (b.0, body_at (contents_in (db 1)) (wholes_in (db 3)) q ∙ ap (λ x. cond x (map.get (contents_in (db 1)) q) None) w ∙ b.1),
  )
