-- The lengths of what is kept.
use Rattle.std.proofs.Common.{◌≡◌, ℕ, ◌<◌, List, [], ◌∷◌, length, get_or, All, Contains, map as mapped, None, Some, Option, option_map, T, refl, sym, ap, subst, ◌∙◌}
use Rattle.std.specs.FinMap as map
use Rattle.std.specs.FinMap.{find, is_sorted}
use Rattle.std.proofs.lemmas.List.{get_or-map, length-map}
use Rattle.std.proofs.lemmas.List.Elements.{Contains-get_or}
use Rattle.sqlite.specs.Tree.{Trees}
use Rattle.dr_base.specs.Texts.{Text, text_cmp}
use Rattle.dr_route.specs.declared.key.Key.{Key}
use Rattle.dr_site.specs.Parts.{Part}
use Rattle.dr_ledger.specs.declared.item.Instance.{Instance}
use Rattle.dr_ledger.specs.Books.{Line}
use Rattle.dr_ledger.specs.Replies.{AreKept, Lists}
use Rattle.dr_ledger.specs.SiteRoutes.{site_routing}
use Rattle.dr_ledger.proofs.Growing.{inside}
use Rattle.dr_ledger_past.proofs.Goings.{journals_with_pasts_are_solid}
use Rattle.dr_store_schema.specs.Books.{all_kept_in, book_of, instance_by, items_of, print_or_none, prints_of}
use Rattle.dr_store_reads.specs.declared.finding.Print.{Print}
use Rattle.dr_store_lists.specs.Lists.{keys_of, whole_prints_of}
use Rattle.dr_store_lists.proofs.Alike.{keys_and_prints}
use Rattle.dr_store_calls.specs.Calling.{IsLedgerOf}
use Rattle.dr_store.specs.Listing.{AreSized, IsSize, IsSized}
use Rattle.dr_store.proofs.Zips.{zip_at}

names : (prints : List (Text × Print)) (kept : List Text) (all : List (Text × ℕ)) → AreSized prints kept all → mapped (λ (e : Text × ℕ). e.0) all ≡ kept
names prints [] [] z = refl
names prints [] (e ∷ all) z = absurd z
names prints (uid ∷ kept) [] z = absurd z
names prints (uid ∷ kept) (e ∷ all) z = λ i. z.0.0 i ∷ names prints kept all z.1 i

abbrev HasSize : Trees → Text × ℕ → Type 0
HasSize base e = (item : Instance) × (map.get (items_of base) e.0 ≡ Some item) × (item.size ≡ e.1)

size_in : (o : Option Key) (item : Instance) (by : Key → Instance) (n : ℕ) → ((k : Key) → (by k).size ≡ n) → option_map by o ≡ Some item → item.size ≡ n
size_in None item by n sized h = absurd (let f : ⊥ = cc in f)
size_in (Some k) item by n sized h = ap (λ (i : Instance). i.size) (sym (inside (by k) item h)) ∙ sized k

module _ {past : List Line} (n : ℕ) (part : Part) (base : Trees) (l : IsLedgerOf past n part base) where
  -- what a print says is the length of the instance
  pub size_by : (uid : Text) (item : Instance) (print : Print) → map.get (items_of base) uid ≡ Some item → find text_cmp uid (map.entries (whole_prints_of base)) ≡ Some print → item.size ≡ print.size
  size_by uid item print there found =
      let whole : map.get (whole_prints_of base) uid ≡ Some print = map.get-entries (whole_prints_of base) uid ∙ found in
      let known : map.get (prints_of base) uid ≡ Some (print.size, print.digest) = (keys_and_prints base).prints uid ∙ ap (option_map (λ (p : Print). (p.size, p.digest))) whole in
      size_in (map.get (keys_of base) uid) item (instance_by (prints_of base) uid) print.size (λ k. ap (λ o. (print_or_none o).0) known) (sym ((keys_and_prints base).items uid) ∙ there)

  pub sizes : (kept : List Text) (prints : List (Text × Print)) (all : List (Text × ℕ)) → prints ≡ map.entries (whole_prints_of base) → AreSized prints kept all → Lists text_cmp (all_kept_in (base 7)) kept → AreKept (book_of base) all
  sizes kept prints all is z listed = (
    subst (Lists text_cmp (all_kept_in (base 7))) (sym (names prints kept all z)) listed,
    λ i d within. sized (get_or all i d) (member i d within) (its i d within).1,
  )
    where
      member : (i : ℕ) (d : Text × ℕ) → i < length all → Contains kept (get_or all i d).0
      member i d within =
          let there : Contains (mapped (λ (e : Text × ℕ). e.0) all) (get_or (mapped (λ (e : Text × ℕ). e.0) all) i d.0) = Contains-get_or (mapped (λ (e : Text × ℕ). e.0) all) i d.0 (subst (λ k. i < k) (sym (length-map all (λ (e : Text × ℕ). e.0))) within) in
          subst (λ ks. Contains ks (get_or all i d).0) (names prints kept all z) (subst (Contains (mapped (λ (e : Text × ℕ). e.0) all)) (get_or-map (λ (e : Text × ℕ). e.0) all i d d.0 within) there)

      its : (i : ℕ) (d : Text × ℕ) → i < length all → IsSized prints (get_or kept i []) (get_or all i d)
      its i d within = zip_at (IsSized prints) kept all i [] d z within

      sized : (e : Text × ℕ) → Contains kept e.0 → (T (is_sorted text_cmp prints) → IsSize prints e) → HasSize base e
      sized e there h =
          let solid = journals_with_pasts_are_solid (site_routing part) past (book_of base) l.journalled in
          let item = solid.kept e.0 ((listed.each e.0).0 there) in
          let size = h (subst (λ ps. T (is_sorted text_cmp ps)) (sym is) (map.entries_sorted (whole_prints_of base))) in
          (item.0, item.1, size_by e.0 item.0 size.0 item.1 (subst (λ ps. find text_cmp e.0 ps ≡ Some size.0) is size.1) ∙ size.2)
