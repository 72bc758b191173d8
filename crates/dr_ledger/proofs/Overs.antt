-- Forgettings: each has an answer, takes what is of its uid, and what comes again is new.
use Rattle.std.proofs.Common.{◌≡◌, ◌≢◌, refl, sym, ap, subst, ◌∙◌, ◌⊎◌, inl, inr, Bool, true, false, cond, not, ◌&&◌, List, [], ◌∷◌, Contains, Option, None, Some, Ok, Err}
use Rattle.std.specs.FinMap as map
use Rattle.std.specs.FinSet as set
use Rattle.dr_base.specs.Texts.{Text}
use Rattle.dr_plan_model.proofs.Gathered.{nothing_in_nil, Contains-cons_cases}
use Rattle.dr_ledger.specs.declared.fault.LedgerFault.TheVariants as fault
use Rattle.dr_ledger.specs.declared.item.Arrived.TheVariants.{New, Again}
use Rattle.dr_ledger.specs.declared.item.Instance.{Instance}
use Rattle.dr_ledger.specs.declared.item.Progress.{Progress}
use Rattle.dr_ledger.specs.declared.item.Progress.TheVariants.{Waiting, Held, Done, Dropped}
use Rattle.dr_ledger.specs.Books.{Book, Forgetting, after, is_queued}
use Rattle.dr_ledger.specs.Laws.{ForgettingsHaveAnswers, ForgettingsTakeTheirUid, ForgottenIsNew, ForgottenIsNotOver, HasAnswer, NothingOwedIsForgotten, NothingUnknownIsOver}
use Rattle.dr_ledger.specs.Pairs.{Pair}
use Rattle.dr_ledger.specs.Replies.{Forgets, IsOver}
use Rattle.dr_ledger.specs.Routings.{Routing}
use Rattle.dr_ledger.proofs.Earliest.{among_keys}
use Rattle.dr_ledger.proofs.Forgotten.{Apart, item_is, row_is, arrival_is, no_way}
use Rattle.dr_ledger.proofs.Maps.{texts, cases_of, same_or_not, ties_itself}

-- ---- answers
abbrev pub IsOwed : Book → Text → Type 0
IsOwed b uid = (dest : Text) × (row : Progress) × (map.get b.rows (uid, dest) ≡ Some row) × (is_queued row ≡ true)

abbrev pub AreOver : Book → Text → List Pair → Type 0
AreOver b uid ks = (dest : Text) (row : Progress) → Contains ks (uid, dest) → map.get b.rows (uid, dest) ≡ Some row → is_queued row ≡ false

inside : (x y : Progress) → Some x ≡ Some y → x ≡ y
inside x y e = cc

-- a row of the uid at that key is owed, or is none that is
owed_or_not : (b : Book) (uid dest : Text) (found : Option Progress) → map.get b.rows (uid, dest) ≡ found → IsOwed b uid ⊎ ((row : Progress) → map.get b.rows (uid, dest) ≡ Some row → is_queued row ≡ false)
owed_or_not b uid dest None at = inr (λ row h. absurd (let e : None ≡ Some row = sym at ∙ h in cc e))
owed_or_not b uid dest (Some Done) at = inr (λ row h. sym (ap is_queued (inside Done row (sym at ∙ h))))
owed_or_not b uid dest (Some Dropped) at = inr (λ row h. sym (ap is_queued (inside Dropped row (sym at ∙ h))))
owed_or_not b uid dest (Some (Held why)) at = inl (dest, Held why, at, refl)
owed_or_not b uid dest (Some (Waiting tries due)) at = inl (dest, Waiting tries due, at, refl)

pub owed_among : (b : Book) (uid : Text) (ks : List Pair) → IsOwed b uid ⊎ AreOver b uid ks
owed_among b uid [] = inr (λ dest row among h. absurd (nothing_in_nil (uid, dest) among))
owed_among b uid (k ∷ ks) = elim (owed_among b uid ks) [
  | inl owed ↦ inl owed
  | inr done ↦ elim (owed_or_not b uid k.1 (map.get b.rows (uid, k.1)) refl) [
    | inl owed ↦ inl owed
    | inr here ↦ inr (λ dest row among h. elim (Contains-cons_cases k ks (uid, dest) among) [
      | inl same ↦ (
          let to : k.1 ≡ dest = ap (λ (p : Pair). p.1) same in
          here row (ap (λ (d : Text). map.get b.rows (uid, d)) to ∙ h)
          )
      | inr later ↦ done dest row later h
    ])
  ]
]

there_at : (uid : Text) (b : Book) (found : Option Instance) → map.get b.items uid ≡ found → HasAnswer (Forgets uid b)
there_at uid b None at = (Err fault.NotOver, b, tt, ((λ over. let e : None ≡ Some over.there.0 = sym at ∙ over.there.1 in cc e), refl))
there_at uid b (Some item) at = elim (cases_of (set.contains b.kept uid)) [
  | inl kept ↦ (Err fault.NotOver, b, tt, ((λ over. no_way (set.contains b.kept uid) kept over.unkept), refl))
  | inr unkept ↦ elim (owed_among b uid (map.keys b.rows)) [
    | inl owed ↦ (Err fault.NotOver, b, tt, ((λ over. no_way (is_queued owed.1) owed.3 (over.unqueued owed.0 owed.1 owed.2)), refl))
    | inr done ↦ (
      Ok tt,
      after (Forgetting uid) b,
      tt,
      (
        record { there = (item, at); unkept = unkept; unqueued = λ dest row h. done dest row (among_keys b uid dest row h) h },
        refl,
      ),
    )
  ]
]

pub forgettings_have_answers : ForgettingsHaveAnswers
forgettings_have_answers uid old = there_at uid old (map.get old.items uid) refl

-- ---- what it takes
apart_of : (u uid : Text) → u ≢ uid → Apart u uid
apart_of u uid other = elim (same_or_not texts u uid) [ inl same ↦ absurd (other same) | inr apart ↦ apart ]

none_left : (c t : Bool) → t ≡ true → (c && not t) ≡ false
none_left true true h = refl
none_left true false h = absurd (let e : ⊥ = cc in e)
none_left false t h = refl

all_left : (c t : Bool) → t ≡ false → (c && not t) ≡ c
all_left true true h = absurd (let e : ⊥ = cc in e)
all_left true false h = refl
all_left false t h = refl

pub forgettings_take_their_uid : ForgettingsTakeTheirUid
forgettings_take_their_uid uid b = record {
  gone = item_is b uid uid ∙ ap (λ (t : Bool). cond t None (map.get b.items uid)) (ties_itself texts uid);
  no_arrival = λ caller. arrival_is b uid (caller, uid) ∙ none_left (set.contains b.arrivals (caller, uid)) _ (ties_itself texts uid);
  no_row = λ dest. row_is b uid (uid, dest) ∙ ap (λ (t : Bool). cond (not t) (map.get b.rows (uid, dest)) None) (ties_itself texts uid);
  kept = refl;
  items = λ u other. item_is b uid u ∙ ap (λ (t : Bool). cond t None (map.get b.items u)) (apart_of u uid other);
  arrivals = λ caller u other. arrival_is b uid (caller, u) ∙ all_left (set.contains b.arrivals (caller, u)) _ (apart_of u uid other);
  rows = λ u dest other. row_is b uid (u, dest) ∙ ap (λ (t : Bool). cond (not t) (map.get b.rows (u, dest)) None) (apart_of u uid other);
}

pub nothing_owed_is_forgotten : NothingOwedIsForgotten
nothing_owed_is_forgotten uid b over = ((λ kept. no_way (set.contains b.kept uid) kept over.unkept), λ dest row h n. no_way (is_queued row) n (over.unqueued dest row h))

pub nothing_unknown_is_over : NothingUnknownIsOver
nothing_unknown_is_over uid b none over = (let e : None ≡ Some over.there.0 = sym none ∙ over.there.1 in cc)

pub forgotten_is_not_over : ForgottenIsNotOver
forgotten_is_not_over uid old new f over =
    let P : Book → Type 0 = λ b. IsOver b uid in
    nothing_unknown_is_over uid (after (Forgetting uid) old) (forgettings_take_their_uid uid old).gone (subst P f.1 over)

pub forgotten_is_new : (routing : Routing) → ForgottenIsNew routing
forgotten_is_new routing uid caller item old mid new New same f a = refl
forgotten_is_new routing uid caller item old mid new Again same f a =
    let P : Book → Type 0 = λ b. set.contains b.arrivals (caller, item.uid) ≡ true in
    let there : set.contains (after (Forgetting uid) old).arrivals (caller, item.uid) ≡ true = subst P f.1 a.1 in
    let Q : Text → Type 0 = λ u. set.contains (after (Forgetting uid) old).arrivals (caller, u) ≡ true in
    absurd (no_way _ (subst Q same there) ((forgettings_take_their_uid uid old).no_arrival caller))
