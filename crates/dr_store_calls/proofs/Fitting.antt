-- First arrivals fit the tables.
use Rattle.std.proofs.Common.{◌≡◌, ◌≢◌, ◌⊎◌, ◌↔◌, ◌==◌, inl, inr, ℕ, suc, Bool, true, false, cond, not, ◌&&◌, is_some, IsTrue, List, [], ◌∷◌, ◌++◌, Contains, length, Option, Some, None, arith, eqb-true, refl, sym, ap, subst, ◌∙◌, true≢false}
use Rattle.std.specs.Cmp.{both_ways}
use Rattle.std.specs.FinMap as map
use Rattle.std.specs.FinMap.{FinMap}
use Rattle.std.specs.FinSet as set
use Rattle.sqlite.specs.Tree.{Trees}
use Rattle.dr_base.specs.Texts.{IsInByteOrder, Text}
use Rattle.dr_plan_model.proofs.Gathered.{Contains-here, nothing_in_nil}
use Rattle.dr_route.specs.declared.key.Key.{Key}
use Rattle.dr_route.specs.declared.rule.Targets.{Targets}
use Rattle.dr_site.specs.Parts.{Part}
use Rattle.dr_site.specs.Routing.{KeepsAt, SendsFrom}
use Rattle.dr_site.proofs.AsPlanned.{keeps_by as keeps_one, kept_by}
use Rattle.dr_ledger.specs.declared.item.Instance.{Instance}
use Rattle.dr_ledger.specs.declared.item.Progress.{Progress}
use Rattle.dr_ledger.specs.declared.item.Progress.TheVariants.{Waiting, Held, Done, Dropped}
use Rattle.dr_ledger.specs.Bodies.{IsNeeded}
use Rattle.dr_ledger.specs.Books.{Book, Line, Arrival, after, is_queued}
use Rattle.dr_ledger.specs.Histories.{IsSolid}
use Rattle.dr_ledger.specs.Pairs.{pair_cmp}
use Rattle.dr_ledger.specs.PlanRoutes.{keeps_by, targets_by}
use Rattle.dr_ledger.specs.SiteRoutes.{site_routing}
use Rattle.dr_ledger.proofs.Growing.{inside, kept_from, now_kept}
use Rattle.dr_ledger.proofs.PlanRouting.{keeps_by_where_kept, one_list, targets_by_are_in_order, targets_by_are_sent_to}
use Rattle.dr_ledger_past.proofs.Goings.{journals_with_pasts_are_solid}
use Rattle.dr_store_schema.specs.Books.{all_kept_in, arrivals_in, bodies_of, book_of, items_of, rows_of}
use Rattle.dr_store_changes.specs.declared.first.Taking.TheVariants as taking
use Rattle.dr_store_changes.specs.Bringing.{given_up, is_dropped, missing}
use Rattle.dr_store_changes.specs.Changes.{HasBoth, HasNeither, HasRows}
use Rattle.dr_store_changes.proofs.Fresh.{ended_stays, row_came, waits_anew}
use Rattle.dr_store_calls.specs.Calling.{IsLedgerOf}
use Rattle.dr_store_calls.specs.Knowing.{FitsTables, IsThere, chosen, is_chosen, taking_absent, taking_there}
use Rattle.dr_store_calls.proofs.Knows.{no_item_there}

-- ---- what a site's targets are

pub targets_are : (part : Part) (caller : Text) (key : Key) (to : List Text) → ((t : Text) → Contains to t ↔ SendsFrom part caller key t) → IsInByteOrder to → to ≡ (site_routing part).targets caller key
targets_are part caller key to each ordered =
    let sent = targets_by_are_sent_to part.flows part.rules part.name caller key in
    one_list to (targets_by part.flows part.rules part.name caller key) ordered (targets_by_are_in_order part.flows part.rules part.name caller key) (λ x. (λ h. (sent x).1 ((each x).0 h), λ h. (each x).1 ((sent x).0 h)))

pub keep_is : (part : Part) (caller : Text) (key : Key) (keep : Bool) → (IsTrue keep ↔ KeepsAt part caller key) → keep ≡ (site_routing part).keeps caller key
keep_is part caller key keep h = let k = keeps_by_where_kept part.rules caller key in both_ways keep (keeps_by part.rules caller key) (λ t. k.1 (h.0 t)) (λ t. h.1 (k.0 t))

-- ---- rows that are missing

missing_all : (rows : FinMap pair_cmp Progress) (uid : Text) (to : List Text) → ((dest : Text) → map.get rows (uid, dest) ≡ None) → missing rows uid to ≡ to
missing_all rows uid [] none = refl
missing_all rows uid (dest ∷ more) none =
    ap (λ o. cond (not (is_some o)) (dest ∷ missing rows uid more) (missing rows uid more)) (none dest) ∙ ap (λ ds. dest ∷ ds) (missing_all rows uid more none)

-- each of them has no row, and is a target
missing_from : (rows : FinMap pair_cmp Progress) (uid dest : Text) (to : List Text) → Contains (missing rows uid to) dest → Contains to dest × (map.get rows (uid, dest) ≡ None)
missing_from rows uid dest to among =
    let it = kept_by (λ d. not (map.contains_key rows (uid, d))) to dest among in
    (it.0, no_row (map.get rows (uid, dest)) it.1)
  where
    no_row : (o : Option Progress) → not (is_some o) ≡ true → o ≡ None
    no_row None h = refl
    no_row (Some row) h = absurd (true≢false (sym h))

-- each of those that were dropped is a target, and has such a row
dropped_from : (rows : FinMap pair_cmp Progress) (uid dest : Text) (to : List Text) → Contains (given_up rows uid to) dest → Contains to dest × (map.get rows (uid, dest) ≡ Some Dropped)
dropped_from rows uid dest to among =
    let it = kept_by (λ d. is_dropped (map.get rows (uid, d))) to dest among in
    (it.0, gone (map.get rows (uid, dest)) it.1)
  where
    gone : (o : Option Progress) → is_dropped o ≡ true → o ≡ Some Dropped
    gone None h = absurd (true≢false (sym h))
    gone (Some (Waiting tries due)) h = absurd (true≢false (sym h))
    gone (Some (Held why)) h = absurd (true≢false (sym h))
    gone (Some Done) h = absurd (true≢false (sym h))
    gone (Some Dropped) h = refl

-- the rows that wait anew are there
pub rows_there : (db : Trees) (uid : Text) (to again : List Text) → again ≡ given_up (rows_of db) uid to → HasRows uid again db
rows_there db uid to again are dest goes = ap is_some (dropped_from (rows_of db) uid dest to (subst (λ ds. Contains ds dest) are goes)).1

-- where none was dropped, no target has such a row
dropped_none : (rows : FinMap pair_cmp Progress) (uid dest : Text) (to : List Text) → given_up rows uid to ≡ [] → Contains to dest → map.get rows (uid, dest) ≡ Some Dropped → ⊥
dropped_none rows uid dest to none among gone =
    nothing_in_nil dest (subst (λ ds. Contains ds dest) none (keeps_one (λ d. is_dropped (map.get rows (uid, d))) to dest among (ap is_dropped gone)))

-- where there is no row, none was dropped
none_dropped : (rows : FinMap pair_cmp Progress) (uid : Text) (to : List Text) → ((dest : Text) → map.get rows (uid, dest) ≡ None) → given_up rows uid to ≡ []
none_dropped rows uid [] none = refl
none_dropped rows uid (dest ∷ more) none =
    ap (λ o. cond (is_dropped o) (dest ∷ given_up rows uid more) (given_up rows uid more)) (none dest) ∙ none_dropped rows uid more none

-- and where none is missing, each target has a row
missing_none : (rows : FinMap pair_cmp Progress) (uid dest : Text) (to : List Text) → missing rows uid to ≡ [] → Contains to dest → map.get rows (uid, dest) ≡ None → ⊥
missing_none rows uid dest to none among absent =
    nothing_in_nil dest (subst (λ ds. Contains ds dest) none (in_missing rows uid dest to among absent))
  where
    in_missing : (rows : FinMap pair_cmp Progress) (uid dest : Text) (to : List Text) → Contains to dest → map.get rows (uid, dest) ≡ None → Contains (missing rows uid to) dest
    in_missing rows uid dest to among absent = keeps_one (λ d. not (map.contains_key rows (uid, d))) to dest among (ap (λ o. not (is_some o)) absent)

-- an empty list has no element, and any other one its first
none_among : (to : List Text) → (length to == 0) ≡ true → (dest : Text) → Contains to dest → ⊥
none_among [] is dest among = nothing_in_nil dest among
none_among (first ∷ more) is dest among = let no : suc (length more) ≡ 0 = eqb-true _ _ is in omega (arith, no)

some_among : (to : List Text) → (length to == 0) ≡ false → (dest : Text) × Contains to dest
some_among [] is = absurd (true≢false is)
some_among (first ∷ more) is = (first, Contains-here first more)

nothing_in : (to : List Text) → (length to == 0) ≡ true → to ≡ []
nothing_in [] is = refl
nothing_in (first ∷ more) is = let no : suc (length more) ≡ 0 = eqb-true _ _ is in absurd (omega (arith, no))

-- ---- an instance that isn't there

absent : {A : Type 0} (o : Option A) → ((a : A) → o ≡ Some a → ⊥) → o ≡ None
absent None none = refl
absent (Some a) none = absurd (none a refl)

unset : (b : Bool) → (b ≡ true → ⊥) → b ≡ false
unset true none = absurd (none refl)
unset false none = refl

module _ {past : List Line} (n : ℕ) (part : Part) (caller : Text) (item : Instance) (to : List Text) (keep : Bool) (base : Trees) (l : IsLedgerOf past n part base) (neither : HasNeither item.uid base) where
  solid : IsSolid (book_of base)
  solid = journals_with_pasts_are_solid (site_routing part) past (book_of base) l.journalled

  no_item : map.get (items_of base) item.uid ≡ None
  no_item = no_item_there base item.uid neither.0

  no_rows : (dest : Text) → map.get (rows_of base) (item.uid, dest) ≡ None
  no_rows dest = absent (map.get (rows_of base) (item.uid, dest)) (λ row is. let there = (solid.rows item.uid dest row is).1 in let e : None ≡ _ = sym no_item ∙ there in cc)

  not_kept : set.contains (all_kept_in (base 7)) item.uid ≡ false
  not_kept = unset (set.contains (all_kept_in (base 7)) item.uid) (λ is. let there = (solid.kept item.uid is).1 in let e : None ≡ _ = sym no_item ∙ there in cc)

  not_brought : set.contains (arrivals_in (base 5)) (caller, item.uid) ≡ false
  not_brought = unset (set.contains (arrivals_in (base 5)) (caller, item.uid)) (λ is. let there = (solid.arrived caller item.uid is).1 in let e : None ≡ _ = sym no_item ∙ there in cc)

  keeps_all : (k : Bool) → k ≡ (k && true)
  keeps_all true = refl
  keeps_all false = refl

  keeps_new : keep ≡ (keep && not (set.contains (all_kept_in (base 7)) item.uid))
  keeps_new = keeps_all keep ∙ ap (λ b. keep && not b) (sym not_kept)

  new_needed : (keep ≡ true) ⊎ ((dest : Text) × Contains to dest) → IsNeeded (after (Arrival caller item to keep) (book_of base)) item.uid
  new_needed (inl kept) = inl (now_kept keep (all_kept_in (base 7)) item.uid kept)
  new_needed (inr some) = inr (some.0, Waiting 0 0, waits_anew to (rows_of base) item.uid some.0 some.1 (inl (no_rows some.0)), refl)

  fits_new : (keep ≡ true) ⊎ ((dest : Text) × Contains to dest) → FitsTables taking.New caller item to keep [] to keep base
  fits_new some = record { asks = neither; known = no_item; comes = new_needed some; again_are = sym (none_dropped (rows_of base) item.uid to no_rows); missing_are = sym (missing_all (rows_of base) item.uid to no_rows); keeps_is = keeps_new; first = not_brought }

  fits_bare : keep ≡ false → ((dest : Text) → Contains to dest → ⊥) → FitsTables taking.Bare caller item to keep [] to keep base
  fits_bare unkept none = record {
    asks = neither;
    known = no_item;
    comes = λ needed. elim needed [
      | inl kept ↦ elim (kept_from keep (all_kept_in (base 7)) item.uid item.uid kept) [
        | inl was ↦ true≢false (sym was ∙ not_kept)
        | inr is ↦ true≢false (sym is.1 ∙ unkept)
      ]
      | inr row ↦ elim (row_came to (rows_of base) item.uid (item.uid, row.0) row.1 row.2) [
        | inl was ↦ (let e : None ≡ _ = sym (no_rows row.0) ∙ was in cc)
        | inr is ↦ none row.0 is.1
      ]
    ];
    again_are = sym (none_dropped (rows_of base) item.uid to no_rows);
    missing_are = sym (missing_all (rows_of base) item.uid to no_rows);
    keeps_is = keeps_new;
    first = not_brought;
  }

  pub fits_absent : FitsTables (taking_absent keep (length to == 0)) caller item to keep [] to keep base
  fits_absent = go keep (length to == 0) refl refl
    where
      go : (k none : Bool) → keep ≡ k → (length to == 0) ≡ none → FitsTables (taking_absent k none) caller item to keep [] to keep base
      go true none kept is = fits_new (inl kept)
      go false true unkept is = fits_bare unkept (none_among to is)
      go false false unkept is = fits_new (inr (some_among to is))

-- ---- an instance that is there

some_of : {A : Type 0} (o : Option A) → is_some o ≡ true → (a : A) × (o ≡ Some a)
some_of None h = absurd (true≢false (sym h))
some_of (Some a) h = (a, refl)

module _ {past : List Line} (n : ℕ) (part : Part) (caller : Text) (item : Instance) (to : List Text) (keep whole kept : Bool) (again dests : List Text) (base : Trees) (l : IsLedgerOf past n part base) (there : IsThere base item whole)
    (first : set.contains (arrivals_in (base 5)) (caller, item.uid) ≡ false) (again_are : again ≡ given_up (rows_of base) item.uid to) (dests_are : dests ≡ missing (rows_of base) item.uid to) (kept_is : kept ≡ set.contains (all_kept_in (base 7)) item.uid) where
  keeps_more : (keep && not kept) ≡ (keep && not (set.contains (all_kept_in (base 7)) item.uid))
  keeps_more = ap (λ b. keep && not b) kept_is

  abbrev made : Book
  made = after (Arrival caller item to keep) (book_of base)

  -- it waits from now on, or anew, for a destination
  abbrev WaitsSomewhere : Type 0
  WaitsSomewhere = ((dest : Text) × Contains again dest) ⊎ ((dest : Text) × Contains dests dest)

  again_needed : (keep ≡ true) ⊎ WaitsSomewhere → IsNeeded made item.uid
  again_needed (inl is) = inl (now_kept keep (all_kept_in (base 7)) item.uid is)
  again_needed (inr (inl some)) =
      let from = dropped_from (rows_of base) item.uid some.0 to (subst (λ ds. Contains ds some.0) again_are some.1) in
      inr (some.0, Waiting 0 0, waits_anew to (rows_of base) item.uid some.0 from.0 (inr from.1), refl)
  again_needed (inr (inr some)) =
      let from = missing_from (rows_of base) item.uid some.0 to (subst (λ ds. Contains ds some.0) dests_are some.1) in
      inr (some.0, Waiting 0 0, waits_anew to (rows_of base) item.uid some.0 from.0 (inl from.1), refl)

  fits_again : (keep ≡ true) ⊎ WaitsSomewhere → FitsTables taking.Again caller item to keep again dests (keep && not kept) base
  fits_again some = record { asks = there.both; known = there.same; comes = again_needed some; again_are = again_are; missing_are = dests_are; keeps_is = keeps_more; first = first }

  fits_whole : whole ≡ true → FitsTables taking.Nothing caller item to keep again dests (keep && not kept) base
  fits_whole is = record { asks = tt; known = there.same; comes = λ needed. some_of (map.get (bodies_of base) item.uid) (there.body ∙ is); again_are = again_are; missing_are = dests_are; keeps_is = keeps_more; first = first }

  not_needed : whole ≡ false → IsNeeded (book_of base) item.uid → ⊥
  not_needed is needed = let body = (l.bodied.there item.uid).1 needed in true≢false (sym (ap is_some body.1) ∙ there.body ∙ is)

  fits_nothing : whole ≡ false → keep ≡ false → again ≡ [] → dests ≡ [] → FitsTables taking.Nothing caller item to keep again dests (keep && not kept) base
  fits_nothing bare unkept unchanged none = record {
    asks = tt;
    known = there.same;
    comes = λ needed. absurd (not_needed bare (elim needed [
      | inl k ↦ elim (kept_from keep (all_kept_in (base 7)) item.uid item.uid k) [
        | inl was ↦ inl was
        | inr is ↦ absurd (true≢false (sym is.1 ∙ unkept))
      ]
      | inr row ↦ elim (row_came to (rows_of base) item.uid (item.uid, row.0) row.1 row.2) [
        | inl was ↦ inr (row.0, row.1, was, row.3)
        | inr is ↦ inr (had row.0 row.1 row.2 row.3 is.1)
      ]
    ]));
    again_are = again_are;
    missing_are = dests_are;
    keeps_is = keeps_more;
    first = first;
  }
    where
      had : (dest : Text) (row : Progress) → map.get made.rows (item.uid, dest) ≡ Some row → is_queued row ≡ true → Contains to dest → (d : Text) × (r : Progress) × (map.get (rows_of base) (item.uid, d) ≡ Some r) × (is_queued r ≡ true)
      had dest row is queued among = go (map.get (rows_of base) (item.uid, dest)) refl
        where
          Had : Type 0
          Had = (d : Text) × (r : Progress) × (map.get (rows_of base) (item.uid, d) ≡ Some r) × (is_queued r ≡ true)

          done_stays : map.get (rows_of base) (item.uid, dest) ≡ Some Done → is_queued Done ≡ true
          done_stays e = let stays = sym (ended_stays to (rows_of base) item.uid (item.uid, dest) e) ∙ is in ap is_queued (inside Done row stays) ∙ queued

          go : (o : Option Progress) → map.get (rows_of base) (item.uid, dest) ≡ o → Had
          go None e = absurd (missing_none (rows_of base) item.uid dest to (sym dests_are ∙ none) among e)
          go (Some Dropped) e = absurd (dropped_none (rows_of base) item.uid dest to (sym again_are ∙ unchanged) among e)
          go (Some Done) e = absurd (true≢false (sym (done_stays e)))
          go (Some (Held why)) e = (dest, Held why, e, refl)
          go (Some (Waiting tries due)) e = (dest, Waiting tries due, e, refl)

  both_none : (a d : Bool) → (a && d) ≡ true → (a ≡ true) × (d ≡ true)
  both_none true d h = (refl, h)
  both_none false d h = absurd (true≢false (sym h))

  waits_so : (a d : Bool) → (length again == 0) ≡ a → (length dests == 0) ≡ d → (a && d) ≡ false → WaitsSomewhere
  waits_so true true are is h = absurd (true≢false h)
  waits_so true false are is h = inr (some_among dests is)
  waits_so false d are is h = inl (some_among again are)

  pub fits_there : FitsTables (taking_there whole keep ((length again == 0) && (length dests == 0))) caller item to keep again dests (keep && not kept) base
  fits_there = go whole keep ((length again == 0) && (length dests == 0)) refl refl refl
    where
      go : (w k none : Bool) → whole ≡ w → keep ≡ k → ((length again == 0) && (length dests == 0)) ≡ none → FitsTables (taking_there w k none) caller item to keep again dests (keep && not kept) base
      go true k none is kept one = fits_whole is
      go false true none bare is one = fits_again (inl is)
      go false false true bare unkept is =
          let both = both_none (length again == 0) (length dests == 0) is in fits_nothing bare unkept (nothing_in again both.0) (nothing_in dests both.1)
      go false false false bare unkept is = fits_again (inr (waits_so (length again == 0) (length dests == 0) refl refl is))

-- ---- rows that are looked for, one destination after another

pub chosen_more : (dropped : Bool) (rows : FinMap pair_cmp Progress) (uid : Text) (to : List Text) (dest : Text) → chosen dropped rows uid (to ++ dest ∷ []) ≡ chosen dropped rows uid to ++ chosen dropped rows uid (dest ∷ [])
chosen_more dropped rows uid [] dest = refl
chosen_more dropped rows uid (first ∷ more) dest = go (is_chosen dropped (map.get rows (uid, first))) (chosen_more dropped rows uid more dest)
  where
    go : (b : Bool) → chosen dropped rows uid (more ++ dest ∷ []) ≡ chosen dropped rows uid more ++ chosen dropped rows uid (dest ∷ [])
        → cond b (first ∷ chosen dropped rows uid (more ++ dest ∷ [])) (chosen dropped rows uid (more ++ dest ∷ [])) ≡ cond b (first ∷ chosen dropped rows uid more) (chosen dropped rows uid more) ++ chosen dropped rows uid (dest ∷ [])
    go true later = ap (λ ds. first ∷ ds) later
    go false later = later
