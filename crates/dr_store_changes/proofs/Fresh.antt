-- The rows of an arrival: those of its targets that have none, or were dropped, wait.
use Rattle.std.proofs.Common.{◌≡◌, ◌⊎◌, inl, inr, List, [], ◌∷◌, Contains, filter, map as mapped}
use Rattle.std.proofs.Common.{Bool, true, false, cond, not, ◌&&◌, ◌||◌, is_some, Option, Some, None}
use Rattle.std.proofs.Common.{refl, sym, ap, subst, ◌∙◌, true≢false}
use Rattle.std.specs.FinMap as map
use Rattle.std.specs.FinMap.{FinMap}
use Rattle.std.specs.List.{list_any}
use Rattle.std.specs.Ordering.{eq_by_cmp, is_eq}
use Rattle.std.proofs.lemmas.Cmp.{tied_itself}
use Rattle.dr_base.specs.Texts.{Text}
use Rattle.dr_plan_model.proofs.Gathered.{Contains-cons_cases, Contains-here, Contains-there}
use Rattle.dr_plan_model.proofs.Gathered.{nothing_in_nil}
use Rattle.dr_ledger.specs.declared.item.Progress.{Progress}
use Rattle.dr_ledger.specs.declared.item.Progress.TheVariants.{Waiting, Held, Done, Dropped}
use Rattle.dr_ledger.specs.Books.{arrived_row, is_queued, with_rows}
use Rattle.dr_ledger.specs.Pairs.{Pair, pair_cmp}
use Rattle.dr_store_writes.proofs.Keys.{pairs_exact, pairs_total}
use Rattle.dr_store_writes.proofs.Maps.{equal}
use Rattle.dr_store_changes.specs.Bringing.{given_up, is_dropped, missing}
use Rattle.dr_store_changes.specs.Changes.{with_waiting}

abbrev Rows : Type 0
Rows = FinMap pair_cmp Progress

-- the pair is of the uid and one of these destinations
abbrev among : Text → List Text → Pair → Bool
among uid dests q = list_any (eq_by_cmp pair_cmp q) (mapped (λ d. (uid, d)) dests)

itself : (q : Pair) → eq_by_cmp pair_cmp q q ≡ true
itself q = ap is_eq (tied_itself pairs_total q)

or_true : (a : Bool) → (a || true) ≡ true
or_true true = refl
or_true false = refl

among_them : (uid dest : Text) (dests : List Text)
    → Contains dests dest
    → among uid dests (uid, dest) ≡ true
among_them uid dest [] h = absurd (nothing_in_nil dest h)
among_them uid dest (d ∷ more) h = elim (Contains-cons_cases d more dest h) [
  | inl same ↦ ap
      (λ b. b || among uid more (uid, dest))
      (ap (λ t. eq_by_cmp pair_cmp (uid, dest) (uid, t)) same ∙ itself (uid, dest))
  | inr later ↦ ap
      (λ b. eq_by_cmp pair_cmp (uid, dest) (uid, d) || b) (among_them uid dest more later)
      ∙ or_true (eq_by_cmp pair_cmp (uid, dest) (uid, d))
]

one_or_other : (a b : Bool) → (a || b) ≡ true → (a ≡ true) ⊎ (b ≡ true)
one_or_other true b h = inl refl
one_or_other false b h = inr h

-- where the pair is among them, the destination is one of them
in_them : (uid : Text) (dests : List Text) (q : Pair)
    → among uid dests q ≡ true
    → (q.0 ≡ uid) × Contains dests q.1
in_them uid [] q h = absurd (true≢false (sym h))
in_them uid (d ∷ more) q h =
    elim (one_or_other (eq_by_cmp pair_cmp q (uid, d)) (among uid more q) h) [
      | inl is ↦ let same = pairs_exact q (uid, d) (equal _ is) in (
        ap (λ (k : Pair). k.0) same,
        subst
            (λ t. Contains (d ∷ more) t) (sym (ap (λ (k : Pair). k.1) same)) (Contains-here d more),
      )
      | inr later ↦ let it = in_them uid more q later in (it.0, Contains-there d more q.1 it.1)
    ]

-- ---- what stands at a pair

twice : (o : Option Progress) (m : Bool)
    → cond m (Some (arrived_row (Some (arrived_row o)))) (Some (arrived_row o))
    ≡ Some (arrived_row o)
twice None true = refl
twice None false = refl
twice (Some (Waiting tries due)) true = refl
twice (Some (Waiting tries due)) false = refl
twice (Some (Held why)) true = refl
twice (Some (Held why)) false = refl
twice (Some Done) true = refl
twice (Some Done) false = refl
twice (Some Dropped) true = refl
twice (Some Dropped) false = refl

pub with_got : (dests : List Text) (rows : Rows) (uid : Text) (q : Pair)
    → map.get (with_rows rows uid dests) q
    ≡ cond (among uid dests q) (Some (arrived_row (map.get rows q))) (map.get rows q)
unfolding with_rows
with_got [] rows uid q = refl
with_got (d ∷ more) rows uid q =
    with_got more (map.insert rows (uid, d) row) uid q
    ∙ ap
    (λ o. cond (among uid more q) (Some (arrived_row o)) o)
    (map.get-insert pairs_total rows (uid, d) row q) ∙ go (eq_by_cmp pair_cmp q (uid, d)) refl
  where
    row : Progress
    row = arrived_row (map.get rows (uid, d))

    go : (b : Bool)
        → eq_by_cmp pair_cmp q (uid, d) ≡ b
        → cond (among uid more q)
        (Some (arrived_row (cond b (Some (arrived_row (map.get rows (uid, d)))) (map.get rows q))))
        (cond b (Some (arrived_row (map.get rows (uid, d)))) (map.get rows q))
        ≡ cond (b || among uid more q) (Some (arrived_row (map.get rows q))) (map.get rows q)
    go true is =
        twice (map.get rows (uid, d)) (among uid more q)
        ∙ ap (λ k. Some (arrived_row (map.get rows k))) (sym (pairs_exact q (uid, d) (equal _ is)))
    go false is = refl

waiting_got : (dests : List Text) (rows : Rows) (uid : Text) (q : Pair)
    → map.get (with_waiting rows uid dests) q
    ≡ cond (among uid dests q) (Some (Waiting 0 0)) (map.get rows q)
waiting_got [] rows uid q = refl
waiting_got (d ∷ more) rows uid q =
    waiting_got more (map.insert rows (uid, d) (Waiting 0 0)) uid q
    ∙ ap
    (λ o. cond (among uid more q) (Some (Waiting 0 0)) o)
    (map.get-insert pairs_total rows (uid, d) (Waiting 0 0) q)
    ∙ go (among uid more q) (eq_by_cmp pair_cmp q (uid, d))
  where
    go : (m b : Bool)
        → cond m (Some (Waiting 0 0)) (cond b (Some (Waiting 0 0)) (map.get rows q))
        ≡ cond (b || m) (Some (Waiting 0 0)) (map.get rows q)
    go true true = refl
    go true false = refl
    go false true = refl
    go false false = refl

-- ---- those destinations whose row is such

module _ (test : Option Progress → Bool) (rows : Rows) (uid : Text) (q : Pair) where
  abbrev chosen : List Text → List Text
  chosen dests = filter (λ d. test (map.get rows (uid, d))) dests

  and_false : (b : Bool) → (b && false) ≡ false
  and_false true = refl
  and_false false = refl

  among_chosen : (dests : List Text)
      → among uid (chosen dests) q ≡ (among uid dests q && test (map.get rows q))
  among_chosen [] = refl
  among_chosen (d ∷ more) = go (eq_by_cmp pair_cmp q (uid, d)) refl (test (map.get rows (uid, d)))
      refl (among_chosen more)
    where
      its : eq_by_cmp pair_cmp q (uid, d) ≡ true
          → test (map.get rows q) ≡ test (map.get rows (uid, d))
      its is = ap (λ k. test (map.get rows k)) (pairs_exact q (uid, d) (equal _ is))

      go : (same : Bool)
          → eq_by_cmp pair_cmp q (uid, d) ≡ same
          → (such : Bool)
          → test (map.get rows (uid, d)) ≡ such
          → among uid (chosen more) q ≡ (among uid more q && test (map.get rows q))
          → among uid (cond such (d ∷ chosen more) (chosen more)) q
          ≡ ((same || among uid more q) && test (map.get rows q))
      go true is true holds later =
          ap (λ b. b || among uid (chosen more) q) is ∙ sym (its is ∙ holds)
      go true is false fails later =
          let no : test (map.get rows q) ≡ false = its is ∙ fails in
          later ∙ ap (λ b. among uid more q && b) no ∙ and_false (among uid more q) ∙ sym no
      go false is true holds later = ap (λ b. b || among uid (chosen more) q) is ∙ later
      go false is false fails later = later

-- ---- all of them

table : (a : Bool) (o : Option Progress)
    → cond (a && not (is_some o))
    (Some (arrived_row (cond (a && is_dropped o) (Some (Waiting 0 0)) o)))
    (cond (a && is_dropped o) (Some (Waiting 0 0)) o)
    ≡ cond a (Some (arrived_row o)) o
table false o = refl
table true None = refl
table true (Some (Waiting tries due)) = refl
table true (Some (Held why)) = refl
table true (Some Done) = refl
table true (Some Dropped) = refl

-- with those that were dropped waiting anew, the rows for those that have none are those for all
pub rows_fresh : (rows : Rows) (uid : Text) (to : List Text)
    → with_rows (with_waiting rows uid (given_up rows uid to)) uid (missing rows uid to)
    ≡ with_rows rows uid to
rows_fresh rows uid to = map.same_map pairs_total pairs_exact _ _ (λ q. let anew :
    map.get (with_waiting rows uid (given_up rows uid to)) q
    ≡ cond (among uid to q && is_dropped (map.get rows q)) (Some (Waiting 0 0)) (map.get rows q) =
    waiting_got (given_up rows uid to) rows uid q
    ∙ ap
    (λ b. cond b (Some (Waiting 0 0)) (map.get rows q)) (among_chosen is_dropped rows uid q to) in
    with_got (missing rows uid to) (with_waiting rows uid (given_up rows uid to)) uid q
    ∙ (λ i. cond (among_chosen (λ o. not (is_some o)) rows uid q to i) (Some (arrived_row (anew i)))
    (anew i)) ∙ table (among uid to q) (map.get rows q) ∙ sym (with_got to rows uid q))

-- ---- what an arrival makes of a row

-- a row that waits or is held stays
pub queued_stays : (to : List Text) (rows : Rows) (uid : Text) (at : Pair) (row : Progress)
    → map.get rows at ≡ Some row
    → is_queued row ≡ true
    → map.get (with_rows rows uid to) at ≡ Some row
queued_stays to rows uid at row there queued =
    with_got to rows uid at ∙ ap (λ o. cond (among uid to at) (Some (arrived_row o)) o) there
    ∙ go (among uid to at) row queued
  where
    go : (b : Bool) (r : Progress)
        → is_queued r ≡ true
        → cond b (Some (arrived_row (Some r))) (Some r) ≡ Some r
    go true (Waiting tries due) h = refl
    go true (Held why) h = refl
    go true Done h = absurd (true≢false (sym h))
    go true Dropped h = absurd (true≢false (sym h))
    go false r h = refl

-- so does one that is done
pub ended_stays : (to : List Text) (rows : Rows) (uid : Text) (at : Pair)
    → map.get rows at ≡ Some Done
    → map.get (with_rows rows uid to) at ≡ Some Done
ended_stays to rows uid at there =
    with_got to rows uid at ∙ ap (λ o. cond (among uid to at) (Some (arrived_row o)) o) there
    ∙ go (among uid to at)
  where
    go : (b : Bool) → cond b (Some (arrived_row (Some Done))) (Some Done) ≡ Some Done
    go true = refl
    go false = refl

-- one that was dropped, or none, for a destination to which the arrival goes, waits
pub waits_anew : (to : List Text) (rows : Rows) (uid dest : Text)
    → Contains to dest
    → (map.get rows (uid, dest) ≡ None) ⊎ (map.get rows (uid, dest) ≡ Some Dropped)
    → map.get (with_rows rows uid to) (uid, dest) ≡ Some (Waiting 0 0)
waits_anew to rows uid dest goes was =
    with_got to rows uid (uid, dest)
    ∙ ap
    (λ b. cond b (Some (arrived_row (map.get rows (uid, dest)))) (map.get rows (uid, dest)))
    (among_them uid dest to goes) ∙ go was
  where
    go : (map.get rows (uid, dest) ≡ None) ⊎ (map.get rows (uid, dest) ≡ Some Dropped)
        → Some (arrived_row (map.get rows (uid, dest))) ≡ Some (Waiting 0 0)
    go (inl none) = ap (λ o. Some (arrived_row o)) none
    go (inr gone) = ap (λ o. Some (arrived_row o)) gone

-- where a row comes from
pub row_came : (to : List Text) (rows : Rows) (uid : Text) (at : Pair) (row : Progress)
    → map.get (with_rows rows uid to) at ≡ Some row
    → (map.get rows at ≡ Some row) ⊎ ((at.0 ≡ uid) × Contains to at.1 × (row ≡ Waiting 0 0))
row_came to rows uid at row h = go (among uid to at) refl (map.get rows at) refl
  where
    value : Option Progress → Progress
    value None = Waiting 0 0
    value (Some r) = r

    here : (o : Option Progress) → among uid to at ≡ true → map.get rows at ≡ o
        → Some (arrived_row o) ≡ Some row
    here o is there =
        ap (λ x. Some (arrived_row x)) (sym there)
        ∙ ap (λ b. cond b (Some (arrived_row (map.get rows at))) (map.get rows at)) (sym is)
        ∙ sym (with_got to rows uid at) ∙ h

    anew : among uid to at ≡ true
        → Some (Waiting 0 0) ≡ Some row
        → (at.0 ≡ uid) × Contains to at.1 × (row ≡ Waiting 0 0)
    anew is e = let it = in_them uid to at is in (it.0, it.1, sym (ap value e))

    go : (b : Bool) → among uid to at ≡ b → (o : Option Progress) → map.get rows at ≡ o
        → (map.get rows at ≡ Some row) ⊎ ((at.0 ≡ uid) × Contains to at.1 × (row ≡ Waiting 0 0))
    go false is o there = inl
        (sym
        (with_got to rows uid at
        ∙ ap (λ b. cond b (Some (arrived_row (map.get rows at))) (map.get rows at)) is) ∙ h)
    go true is None there = inr (anew is (here None is there))
    go true is (Some Dropped) there = inr (anew is (here (Some Dropped) is there))
    go true is (Some Done) there = inl (there ∙ here (Some Done) is there)
    go true is (Some (Held why)) there = inl (there ∙ here (Some (Held why)) is there)
    go true is (Some (Waiting tries due)) there =
        inl (there ∙ here (Some (Waiting tries due)) is there)
