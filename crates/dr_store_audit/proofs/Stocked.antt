-- The instances that keys and prints make are those of the tables.
use Rattle.std.proofs.Common.{◌≡◌, ◌<◌, inl, inr, ℕ, zero, suc, length, arith, slice_index_or, List, [], ◌∷◌, Bool, true, false, cond, T, Option, None, Some, is_some, option_map, refl, sym, ap, subst, ◌∙◌}
use Rattle.std.specs.declared.cmp.Ordering.TheVariants.{Less}
use Rattle.std.specs.Ordering.{eq_by_cmp, is_eq, is_lt}
use Rattle.std.specs.Cmp.Lexicographic.{nat_list_cmp_total}
use Rattle.std.specs.FinMap as map
use Rattle.std.specs.Map.{keys_of as fields_of}
use Rattle.std.specs.FinMap.{FinMap, find}
use Rattle.std.specs.FinMap.Entries.{below_all, is_sorted}
use Rattle.std.proofs.lemmas.Map.Lookups.{exact_bytes}
use Rattle.sqlite.specs.Tree.{Trees}
use Rattle.dr_base.specs.Texts.{Text, text_cmp}
use Rattle.dr_route.specs.declared.key.Key.{Key}
use Rattle.dr_ledger.specs.declared.item.Instance.{Instance}
use Rattle.dr_ledger.proofs.Maps.{same_or_not, texts, ties_itself}
use Rattle.dr_store_schema.specs.Books.{instance_by, items_of, print_or_none, prints_of}
use Rattle.dr_store_reads.specs.declared.finding.Print.{Print}
use Rattle.dr_store_lists.specs.Lists.{keys_of, whole_prints_of}
use Rattle.dr_store_lists.proofs.Alike.{keys_and_prints}
use Rattle.dr_store_lists.proofs.Orders.{first_T, its_less, second_T}
use Rattle.dr_store_audit.specs.Stock.{Stocks, instance_with}

-- what comes before all others stands at none of them
pub none_above : {V : Type 0} (k : Text) (es : List (Text × V)) → T (below_all text_cmp k es) → find text_cmp k es ≡ None
none_above k [] h = refl
none_above k (e ∷ es) h =
    let less : text_cmp k e.0 ≡ Less = its_less _ (first_T (is_lt (text_cmp k e.0)) _ h) in
    ap (λ o. cond (is_eq o) (Some e.1) (find text_cmp k es)) less ∙ none_above k es (second_T (is_lt (text_cmp k e.0)) _ h)

first_uid : (x y : Text) (xs ys : List Text) → x ∷ xs ≡ y ∷ ys → x ≡ y
first_uid x y xs ys e = cc

rest_uids : (x y : Text) (xs ys : List Text) → x ∷ xs ≡ y ∷ ys → xs ≡ ys
rest_uids x y xs ys e = cc

some_uids : (x : Text) (xs : List Text) → x ∷ xs ≡ [] → ⊥
some_uids x xs e = cc

-- two lists that go by the same uids have the same one in each place
pub uid_at : {V W : Type 0} (ks : List (Text × V)) (ps : List (Text × W)) (i : ℕ) (k : Text × V) (p : Text × W) → fields_of ks ≡ fields_of ps → i < length ks → (slice_index_or ks i k).0 ≡ (slice_index_or ps i p).0
uid_at [] ps i k p same low = absurd (omega (arith, low))
uid_at (x ∷ ks) [] i k p same low = absurd (some_uids x.0 (fields_of ks) same)
uid_at (x ∷ ks) (y ∷ ps) zero k p same low = first_uid x.0 y.0 (fields_of ks) (fields_of ps) same
uid_at (x ∷ ks) (y ∷ ps) (suc i) k p same low = uid_at ks ps i k p (rest_uids x.0 y.0 (fields_of ks) (fields_of ps) same) (omega (arith, low))

-- the instance of a key and a print
abbrev joined : Text → Option Key → Option Print → Option Instance
joined q (Some k) (Some p) = Some (instance_with q k p)
joined q (Some k) None = None
joined q None p = None

abbrev or_else : Option Instance → Option Instance → Option Instance
or_else (Some x) o = Some x
or_else None o = o

stocked_at : (before : FinMap text_cmp Instance) (keys : List (Text × Key)) (prints : List (Text × Print)) (after : FinMap text_cmp Instance) → T (is_sorted text_cmp keys) → Stocks before keys prints after → (q : Text)
    → map.get after q ≡ or_else (joined q (find text_cmp q keys) (find text_cmp q prints)) (map.get before q)
stocked_at before [] [] after sorted s q = ap (λ m. map.get m q) s
stocked_at before [] (p ∷ prints) after sorted s q = absurd s
stocked_at before (k ∷ keys) [] after sorted s q = absurd s
stocked_at before (k ∷ keys) (p ∷ prints) after sorted s q =
    stocked_at (map.insert before k.0 (instance_with k.0 k.1 p.1)) keys prints after (second_T (below_all text_cmp k.0 keys) _ sorted) s.1 q
    ∙ ap (or_else (joined q (find text_cmp q keys) (find text_cmp q prints))) (map.get-insert nat_list_cmp_total before k.0 (instance_with k.0 k.1 p.1) q)
    ∙ elim (same_or_not texts q k.0) [
      | inl same ↦ here same
      | inr other ↦ there other
    ]
  where
    i : Instance
    i = instance_with k.0 k.1 p.1

    Goal : Type 0
    Goal = or_else (joined q (find text_cmp q keys) (find text_cmp q prints)) (cond (eq_by_cmp text_cmp q k.0) (Some i) (map.get before q))
        ≡ or_else (joined q (cond (eq_by_cmp text_cmp q k.0) (Some k.1) (find text_cmp q keys)) (cond (eq_by_cmp text_cmp q p.0) (Some p.1) (find text_cmp q prints))) (map.get before q)

    here : q ≡ k.0 → Goal
    here same =
        let hit : eq_by_cmp text_cmp q k.0 ≡ true = ap (λ x. eq_by_cmp text_cmp x k.0) same ∙ ties_itself texts k.0 in
        let other : eq_by_cmp text_cmp q p.0 ≡ true = ap (eq_by_cmp text_cmp q) s.0 ∙ hit in
        let none : find text_cmp q keys ≡ None = ap (λ x. find text_cmp x keys) same ∙ none_above k.0 keys (first_T (below_all text_cmp k.0 keys) _ sorted) in
        ap (λ f. or_else (joined q f (find text_cmp q prints)) (cond (eq_by_cmp text_cmp q k.0) (Some i) (map.get before q))) none
        ∙ ap (λ b. cond b (Some i) (map.get before q)) hit
        ∙ ap (λ x. Some (instance_with x k.1 p.1)) (sym same)
        ∙ sym (
        ap (λ b. or_else (joined q (cond b (Some k.1) (find text_cmp q keys)) (cond (eq_by_cmp text_cmp q p.0) (Some p.1) (find text_cmp q prints))) (map.get before q)) hit
        ∙ ap (λ b. or_else (joined q (Some k.1) (cond b (Some p.1) (find text_cmp q prints))) (map.get before q)) other
        )

    there : eq_by_cmp text_cmp q k.0 ≡ false → Goal
    there miss =
        let other : eq_by_cmp text_cmp q p.0 ≡ false = ap (eq_by_cmp text_cmp q) s.0 ∙ miss in
        ap (λ b. or_else (joined q (find text_cmp q keys) (find text_cmp q prints)) (cond b (Some i) (map.get before q))) miss
        ∙ sym (
        ap (λ b. or_else (joined q (cond b (Some k.1) (find text_cmp q keys)) (cond (eq_by_cmp text_cmp q p.0) (Some p.1) (find text_cmp q prints))) (map.get before q)) miss
        ∙ ap (λ b. or_else (joined q (find text_cmp q keys) (cond b (Some p.1) (find text_cmp q prints))) (map.get before q)) other
        )

-- what has a key has a print
pub both_found : (before : FinMap text_cmp Instance) (keys : List (Text × Key)) (prints : List (Text × Print)) (after : FinMap text_cmp Instance) → Stocks before keys prints after → (q : Text)
    → is_some (find text_cmp q keys) ≡ is_some (find text_cmp q prints)
both_found before [] [] after s q = refl
both_found before [] (p ∷ prints) after s q = absurd s
both_found before (k ∷ keys) [] after s q = absurd s
both_found before (k ∷ keys) (p ∷ prints) after s q =
    some_if (eq_by_cmp text_cmp q k.0) k.1 (find text_cmp q keys) ∙ ap (cond (eq_by_cmp text_cmp q k.0) true) (both_found (map.insert before k.0 (instance_with k.0 k.1 p.1)) keys prints after s.1 q)
    ∙ sym (some_if (eq_by_cmp text_cmp q k.0) p.1 (find text_cmp q prints)) ∙ ap (λ x. is_some (cond (eq_by_cmp text_cmp q x) (Some p.1) (find text_cmp q prints))) (sym s.0)
  where
    some_if : {X : Type 0} (b : Bool) (x : X) (o : Option X) → is_some (cond b (Some x) o) ≡ cond b true (is_some o)
    some_if true x o = refl
    some_if false x o = refl

module _ (db : Trees) (keys : List (Text × Key)) (prints : List (Text × Print)) (after : FinMap text_cmp Instance) (keys_are : keys ≡ map.entries (keys_of db)) (prints_are : prints ≡ map.entries (whole_prints_of db))
    (s : Stocks map.empty keys prints after) where
  pub key_at : (q : Text) → find text_cmp q keys ≡ map.get (keys_of db) q
  key_at q = ap (find text_cmp q) keys_are ∙ sym (map.get-entries (keys_of db) q)

  pub print_at : (q : Text) → find text_cmp q prints ≡ map.get (whole_prints_of db) q
  print_at q = ap (find text_cmp q) prints_are ∙ sym (map.get-entries (whole_prints_of db) q)

  pub both_there : (q : Text) → is_some (map.get (keys_of db) q) ≡ is_some (map.get (whole_prints_of db) q)
  both_there q = ap is_some (sym (key_at q)) ∙ both_found map.empty keys prints after s q ∙ ap is_some (print_at q)

  by_both : (q : Text) (k : Option Key) (p : Option Print) → is_some k ≡ is_some p → map.get (prints_of db) q ≡ option_map (λ (x : Print). (x.size, x.digest)) p
      → or_else (joined q k p) None ≡ option_map (instance_by (prints_of db) q) k
  by_both q None p both is = refl
  by_both q (Some k) (Some p) both is = λ i. Some (record { uid = q; key = k; size = (print_or_none (sym is i)).0; digest = (print_or_none (sym is i)).1 })
  by_both q (Some k) None both is = absurd (let e : true ≡ false = both in cc)

  pub stocked : after ≡ items_of db
  stocked = map.same_map nat_list_cmp_total exact_bytes after (items_of db) (λ q.
      stocked_at map.empty keys prints after (subst (λ es. T (is_sorted text_cmp es)) (sym keys_are) (map.entries_sorted (keys_of db))) s q
      ∙ (λ i. or_else (joined q (key_at q i) (print_at q i)) (map.get-empty text_cmp q i))
      ∙ by_both q (map.get (keys_of db) q) (map.get (whole_prints_of db) q) (both_there q) ((keys_and_prints db).prints q) ∙ sym ((keys_and_prints db).items q))
