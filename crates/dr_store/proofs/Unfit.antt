-- The first unfit row of a book, by its rows and keys.
use Rattle.std.proofs.Common.{◌≡◌, ◌≢◌, ◌⊎◌, inl, inr, ℕ, ◌+◌, ◌<◌, List, length, get_or, take, All, None, Some, Option, option_map, Bool, true, false, T, Result, Ok, Err, get_or-take, length-take-le, refl, sym, ap, subst, ◌∙◌, true≢false, arith}
use Rattle.std.specs.declared.cmp.Ordering.{Ordering}
use Rattle.std.specs.declared.cmp.Ordering.TheVariants.{Less, Equal, Greater}
use Rattle.std.specs.FinMap as map
use Rattle.std.specs.FinMap.{find, is_sorted}
use Rattle.std.proofs.lemmas.Cmp.{tied_itself}
use Rattle.sqlite.specs.Tree.{Trees}
use Rattle.dr_base.specs.Texts.{Text, text_cmp}
use Rattle.dr_plan_model.specs.Networks.{Network}
use Rattle.dr_plan_model.specs.Walks.{IsReached}
use Rattle.dr_route.specs.declared.key.Key.{Key}
use Rattle.dr_ledger.specs.declared.fault.LedgerFault.{LedgerFault}
use Rattle.dr_ledger.specs.declared.fault.LedgerFault.TheVariants as fault
use Rattle.dr_ledger.specs.declared.item.Instance.{Instance}
use Rattle.dr_ledger.specs.declared.item.Progress.{Progress}
use Rattle.dr_ledger.specs.Books.{is_queued}
use Rattle.dr_ledger.specs.Adopting.{IsUnfit, Unfits}
use Rattle.dr_ledger.specs.Pairs.{Pair, pair_cmp}
use Rattle.dr_ledger.specs.Replies.{LastsAfter, Reads}
use Rattle.dr_ledger.proofs.Maps.{text_pairs, texts}
use Rattle.dr_ledger.proofs.Growing.{inside}
use Rattle.dr_store_schema.specs.Books.{book_of, instance_by, items_of, prints_of, rows_of}
use Rattle.dr_store_lists.specs.Lists.{keys_of}
use Rattle.dr_store_lists.proofs.Alike.{keys_and_prints}
use Rattle.dr_store_calls.proofs.Reading.{reads_as, same_fault}
use Rattle.dr_store.specs.Listing.{FitsAmong, IsOfKey, IsUnfitRow, UnfitsAmong, UnfitsOf}
use Rattle.dr_store.proofs.Among.{order_of, place_of, rise_at}
use Rattle.dr_ledger_views.proofs.Searching.{at_place}
use Rattle.dr_store.proofs.Looks.{lasts_any}

key_in : (o : Option Key) (key : Key) (item : Instance) (by : Key → Instance) → ((k : Key) → (by k).key ≡ k) → o ≡ Some key → option_map by o ≡ Some item → item.key ≡ key
key_in None key item by own is h = absurd (let f : ⊥ = cc in f)
key_in (Some k) key item by own is h = ap (λ (i : Instance). i.key) (sym (inside (by k) item h)) ∙ (own k ∙ inside k key is)

not_greater : (r : Ordering) → r ≡ Less → r ≢ Greater
not_greater r h e = let f : ⊥ = cc in f

not_above : (r : Ordering) → r ≡ Equal → r ≢ Greater
not_above r h e = let f : ⊥ = cc in f

module _ (next : Network) (name : Text) (base : Trees) where
  abbrev Rows : List (Pair × Progress)
  Rows = map.entries (rows_of base)

  abbrev Keys : List (Text × Key)
  Keys = map.entries (keys_of base)

  rows_sorted : T (is_sorted pair_cmp Rows)
  rows_sorted = map.entries_sorted (rows_of base)

  found_key : (uid : Text) (key : Key) → IsOfKey Keys uid key → map.get (keys_of base) uid ≡ Some key
  found_key uid key of = map.get-entries (keys_of base) uid ∙ of (map.entries_sorted (keys_of base))

  its_key : (uid : Text) (key : Key) (item : Instance) → IsOfKey Keys uid key → map.get (items_of base) uid ≡ Some item → item.key ≡ key
  its_key uid key item of there =
      key_in (map.get (keys_of base) uid) key item (instance_by (prints_of base) uid) (λ k. refl) (found_key uid key of) (sym ((keys_and_prints base).items uid) ∙ there)

  -- a row stands at a place
  stands : (at : Pair) (row : Progress) → map.get (rows_of base) at ≡ Some row → (i : ℕ) × ((i < length Rows) × ((d : Pair × Progress) → get_or Rows i d ≡ (at, row)))
  stands at row there = place_of text_pairs at row Rows (sym (map.get-entries (rows_of base) at) ∙ there)

  -- where the row at a place fits, the plan goes on with it
  goes_on : (at : Pair) (row : Progress) (item : Instance) → FitsAmong next name Keys (at, row) → is_queued row ≡ true → map.get (items_of base) at.0 ≡ Some item → IsReached next item.key name at.1
  goes_on at row item (inl over) queued there = absurd (true≢false (sym queued ∙ over))
  goes_on at row item (inr (key, (of, reached))) queued there = subst (λ k. IsReached next k name at.1) (sym (its_key at.0 key item of there)) reached

  none_unfit : All (FitsAmong next name Keys) Rows → Unfits next name (book_of base) None
  none_unfit all at row item there undone has =
      let place = stands at row there in
      goes_on at row item (subst (FitsAmong next name Keys) (place.1.1 (at, row)) (all place.0 (at, row) place.1.0)) undone has

  module _ (at : Pair) (u : UnfitsAmong next name Rows Keys (Some at)) where
    abbrev Place : ℕ
    Place = u.0

    abbrev Its : Progress
    Its = u.1.0

    within : Place < length Rows
    within = u.1.1.0

    here : (d : Pair × Progress) → get_or Rows Place d ≡ (at, Its)
    here = u.1.1.1.0

    before : All (FitsAmong next name Keys) (take Place Rows)
    before = u.1.1.1.1.0

    unfit : IsUnfitRow next name Keys (at, Its)
    unfit = u.1.1.1.1.1

    its_row : map.get (rows_of base) at ≡ Some Its
    its_row =
        let P : Pair × Progress → Type 0 = λ e. pair_cmp e.0 at ≡ Equal in
        map.get-entries (rows_of base) at ∙ ((at_place text_pairs.total at Rows Place (at, Its) rows_sorted within (subst P (sym (here (at, Its))) (tied_itself text_pairs.total at))).0 ∙ ap (λ (e : Pair × Progress). Some e.1) (here (at, Its)))

    its_item : map.get (items_of base) at.0 ≡ Some (instance_by (prints_of base) at.0 unfit.1.0)
    its_item = (keys_and_prints base).items at.0 ∙ ap (option_map (instance_by (prints_of base) at.0)) (found_key at.0 unfit.1.0 unfit.1.1.0)

    is_unfit : IsUnfit next name (book_of base) at
    is_unfit = (Its, instance_by (prints_of base) at.0 unfit.1.0, its_row, unfit.0, its_item, unfit.1.1.1)

    least : (other : Pair) → IsUnfit next name (book_of base) other → pair_cmp at other ≢ Greater
    least other v =
        let row = v.0 in
        let item = v.1 in
        let place = stands other row v.2 in
        go row item place.0 place.1.0 place.1.1 v.3 v.4 v.5
      where
        by_place : (row : Progress) (j : ℕ) → j < length Rows → ((d : Pair × Progress) → get_or Rows j d ≡ (other, row)) → (FitsAmong next name Keys (other, row) → ⊥) → (j < Place) ⊎ ((j ≡ Place) ⊎ (Place < j)) → pair_cmp at other ≢ Greater
        by_place row j lt is misfit (inl earlier) =
            (let first : get_or (take Place Rows) j (other, row) ≡ (other, row) = get_or-take Place Rows j (other, row) earlier ∙ is (other, row) in
            absurd (misfit (subst (FitsAmong next name Keys) first (before j (other, row) (let long = length-take-le Place Rows (omega (arith, within)) in omega (arith, earlier, long))))))
        by_place row j lt is misfit (inr (inl same)) = not_above (pair_cmp at other) (subst (λ p. pair_cmp at p ≡ Equal) (ap (λ (e : Pair × Progress). e.0) (sym (here (at, Its)) ∙ ap (λ n. get_or Rows n (at, Its)) (sym same) ∙ is (at, Its))) (tied_itself text_pairs.total at))
        by_place row j lt is misfit (inr (inr later)) = not_greater (pair_cmp at other) (subst (λ (e : Pair × Progress). pair_cmp at e.0 ≡ Less) (is (at, Its)) (subst (λ (e : Pair × Progress). pair_cmp e.0 (get_or Rows j (at, Its)).0 ≡ Less) (here (at, Its)) (rise_at pair_cmp Rows Place j (at, Its) rows_sorted later lt)))

        go : (row : Progress) (item : Instance) (j : ℕ) → j < length Rows → ((d : Pair × Progress) → get_or Rows j d ≡ (other, row)) → is_queued row ≡ true → map.get (items_of base) other.0 ≡ Some item → (IsReached next item.key name other.1 → ⊥) → pair_cmp at other ≢ Greater
        go row item j lt is undone there away = by_place row j lt is (λ fits. away (goes_on other row item fits undone there)) (order_of j Place)

    pub some_unfit : Unfits next name (book_of base) (Some at)
    some_unfit = (is_unfit, least)

  pub unfits : (at : Option Pair) → UnfitsAmong next name Rows Keys at → Unfits next name (book_of base) at
  unfits None all = none_unfit all
  unfits (Some at) u = some_unfit at u

-- what is answered where rows and keys were listed
module _ {L : Type 0} (rows : L → List (Pair × Progress)) (keys : L → List (Text × Key)) (next : Network) (name : Text) (base : Trees) where
  abbrev pub AreListed : L → Type 0
  AreListed listed = (rows listed ≡ map.entries (rows_of base)) × (keys listed ≡ map.entries (keys_of base))

  pub answers : (listed : Result L LedgerFault) (r : Result (Option Pair) LedgerFault) → UnfitsOf rows keys next name listed r → Reads listed AreListed → Reads r (Unfits next name (book_of base))
  answers (Ok listed) r u are = reads_as r (UnfitsAmong next name (rows listed) (keys listed)) (Unfits next name (book_of base)) (λ at h. unfits next name base at
      (subst (λ ks. UnfitsAmong next name (map.entries (rows_of base)) ks at) are.1 (subst (λ rs. UnfitsAmong next name rs (keys listed) at) are.0 h))) u
  answers (Err e) r u are = let P : Result (Option Pair) LedgerFault → Type 0 = λ x. Reads x (Unfits next name (book_of base)) in subst P (sym u) (same_fault e AreListed (Unfits next name (book_of base)) are)

  pub lasting : (listed : Result L LedgerFault) (r : Result (Option Pair) LedgerFault) (P : Type 0) → UnfitsOf rows keys next name listed r → LastsAfter listed P → LastsAfter r P
  lasting (Ok listed) r P u lasts = lasts_any r P lasts
  lasting (Err e) r P u lasts = let Q : Result (Option Pair) LedgerFault → Type 0 = λ x. LastsAfter x P in subst Q (sym u) lasts
