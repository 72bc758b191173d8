-- For each clause journals that fail it alone.
use Rattle.std.specs.Prelude.{◌≡◌, ◌⊎◌, ℕ, ◌≤◌, ◌^◌, Bool, true, false, cond, not, List, [], ◌∷◌, ◌++◌, length, Contains, Option, None, Some}
use Rattle.std.proofs.Common.{refl, sym, ap, subst, ◌∙◌, arith}
use Rattle.std.proofs.lemmas.List.{append-nil}
use mathlib.Core.Logic.{inl, inr}
use Rattle.std.specs.FinMap as map
use Rattle.std.specs.FinSet as set
use Rattle.dr_base.specs.Texts.{Text, text_cmp}
use Rattle.dr_base.specs.declared.syntax.Syntax.TheVariants.{Explicit}
use Rattle.dr_route.specs.Routes.{local}
use Rattle.dr_plan_model.specs.Walks.{IsReached, Sends}
use Rattle.dr_plan_model.proofs.Gathered.{nothing_in_nil, only_one, Contains-cons_cases, Contains-here, Contains-there}
use Rattle.dr_plan_sound.specs.Samples.{archive, keep_all, scanner}
use Rattle.dr_base.specs.Standard.{image}
use Rattle.dr_plan_sound.proofs.Hopping.{reached_entry, reached_next}
use Rattle.dr_plan_sound.proofs.TwoNodes.{goes_only, keeps_stay}
use Rattle.dr_ledger.specs.declared.item.Instance.{Instance}
use Rattle.dr_ledger.specs.declared.item.Outcome.{Outcome}
use Rattle.dr_ledger.specs.declared.item.Outcome.TheVariants.{NoContext, Status}
use Rattle.dr_ledger.specs.declared.item.Progress.{Progress}
use Rattle.dr_ledger.specs.declared.item.Progress.TheVariants.{Waiting}
use Rattle.dr_ledger.specs.Books.{Book, Line, Adoption, Arrival, Forgetting, Repeat, Settling, Fold, after, empty_book, is_over_row, not_over, with_rows}
use Rattle.dr_ledger.specs.Histories.{IsBeforeAdoption, IsHistory, IsPast, IsSince}
use Rattle.dr_ledger.specs.OneNode.{HasSucceededSince, IsAcknowledged, WasTaken}
use Rattle.dr_ledger.specs.Pairs.{pair_cmp}
use Rattle.dr_ledger.specs.PlanRoutes.{plan_routing, targets, keeps}
use Rattle.dr_ledger.specs.Replies.{IsAdmitted, arrival_line}
use Rattle.dr_ledger.proofs.Folding.{folds_have_their_lines}
use Rattle.dr_ledger.proofs.Growing.{not_over_is, rows_from, rows_made}
use Rattle.dr_ledger.proofs.Maps.{texts, filled_is, same_or_not}
use Rattle.dr_ledger.proofs.PlanRouting.{targets_are_sent_to}
use Rattle.dr_ledger.proofs.Since.{nothing_taken}
use Rattle.dr_ledger.proofs.Succeeded.{none_yet, succeeded_before, succeeded_from}
use Rattle.dr_world_model.specs.Among.{all_ours}
use Rattle.dr_world_model.specs.Claims.{IsFairOutcome, IsToSend}
use Rattle.dr_world_model.proofs.AdoptionsKept.{no_row}
use Rattle.dr_world_model.proofs.CallsKept.{settling_is}
use Rattle.dr_world_model.proofs.GivenUp.{arrival_to}
use Rattle.dr_world_model.proofs.Keeping.{Took}
use Rattle.dr_world_model.proofs.Safety.{book_here, book_there}
use Rattle.dr_world_model.proofs.TwoNodesRunning.{image_flows, image_sent, they_differ}
use Rattle.dr_world_journals.specs.Journals.{AnswersAreFair, AreHistories, ArrivalsHaveReasons, EachIsAHistory, Match, OthersAreNotSeen, SuccessesArrived, WhatStoodGoesOn, stood, until_adoption}
use Rattle.dr_world_journals.specs.Mismatching.{EachClauseCanFail, JournalsCanMismatch, arrived_alone, forgotten_alone, one_journal, settled_alone, stood_alone, two}

no_other : {P : Type 0} → true ≡ false → P
no_other e = absurd (let f : ⊥ = cc in f)

scanner_is_no_caller : scanner ≡ local → ⊥
scanner_is_no_caller e = let l : length scanner ≡ length local = ap (λ (t : Text). length t) e in omega arith

-- ---- one journal
module _ (name : Text) (all : List Line) where
  at_name : one_journal name all name ≡ Fold all
  at_name = book_here (λ other. empty_book) name (Fold all)

  -- what holds of the one book and of empty ones, holds of all
  each : (P : Text → Book → Type 0) → P name (Fold all) → ((other : Text) → P other empty_book) → (at : Text) → P at (one_journal name all at)
  each P here there at = elim (same_or_not texts at name) [
    | inl same ↦ (
        let Q : Text → Type 0 = λ t. P t (one_journal name all t) in
        subst Q (sym same) (subst (P name) (sym at_name) here)
        )
    | inr other ↦ subst (P at) (sym (book_there (λ o. empty_book) name (Fold all) at other)) (there at)
  ]

  -- what only the journal can have, it has, at its node
  only_here : (P : List Line → Type 0) → (P [] → ⊥) → (at : Text) → P (one_journal name all at).lines → (at ≡ name) × P all
  only_here P none at h = elim (same_or_not texts at name) [
    | inl same ↦ (
        let Q : Book → Type 0 = λ b. P b.lines in
        (same, subst P (folds_have_their_lines all) (subst Q (ap (one_journal name all) same ∙ at_name) h))
        )
    | inr other ↦ (
        let Q : Book → Type 0 = λ b. P b.lines in
        absurd (none (subst Q (book_there (λ o. empty_book) name (Fold all) at other) h))
        )
  ]

  line_of : (at : Text) (line : Line) → Contains (one_journal name all at).lines line → (at ≡ name) × Contains all line
  line_of at line h = only_here (λ ls. Contains ls line) (λ n. nothing_in_nil line n) at h

  taken_of : (at caller : Text) (item : Instance) → WasTaken (one_journal name all at).lines caller item → (at ≡ name) × WasTaken all caller item
  taken_of at caller item h = only_here (λ ls. WasTaken ls caller item) (λ n. nothing_taken caller item n) at h

  success_of : (at to : Text) (item : Instance) → HasSucceededSince (one_journal name all at).lines item to → (at ≡ name) × HasSucceededSince all item to
  success_of at to item h = only_here (λ ls. HasSucceededSince ls item to) (λ n. none_yet item to n) at h

  none_seen : OthersAreNotSeen all_ours (one_journal name all)
  none_seen other far = no_other far

  -- the journal is a history after that past
  since_past : (past since : List Line) → all ≡ past ++ since → until_adoption all ≡ past → IsBeforeAdoption past → IsPast past empty_book → IsHistory (plan_routing two name) since (Fold past) → EachIsAHistory all_ours two (one_journal name all)
  since_past past since is until before accepted history at own =
      let P : Text → Book → Type 0 = λ t b. IsSince (plan_routing two t) (until_adoption b.lines) b in
      let lines : (Fold all).lines ≡ all = folds_have_their_lines all in
      let Q : List Line → Type 0 = λ p. IsSince (plan_routing two name) p (Fold all) in
      each P
      (subst Q (sym (ap until_adoption lines ∙ until)) (record { since = since; lines = lines ∙ is; before = before; accepted = accepted; history = history; fold = ap Fold (sym lines) }))
      (λ other. record { since = []; lines = refl; before = inl refl; accepted = tt; history = tt; fold = refl })
      at

no_stood : (item : Instance) (to : Text) → IsToSend empty_book item to → ⊥
no_stood item to s = no_row s.row (sym (map.get-empty pair_cmp (item.uid, to)) ∙ s.at)

-- where no plan was adopted nothing stood
none_stands : (name : Text) (lines : List Line) → until_adoption lines ≡ [] → (at to : Text) (item : Instance) → IsToSend (stood (one_journal name lines at)) item to → ⊥
none_stands name lines until at to item s =
    let P : Text → Book → Type 0 = λ t b. IsToSend (stood b) item to → ⊥ in
    let Q : List Line → Type 0 = λ p. IsToSend (Fold p) item to → ⊥ in
    each name lines P (subst Q (sym (ap until_adoption (folds_have_their_lines lines) ∙ until)) (no_stood item to)) (λ other. no_stood item to) at s

none_stood : (name : Text) (lines : List Line) → until_adoption lines ≡ [] → WhatStoodGoesOn all_ours two (one_journal name lines)
none_stood name lines until at to item own s = absurd (none_stands name lines until at to item s)

none_had : (uid : Text) (held : Instance) → map.get empty_book.items uid ≡ Some held → ⊥
none_had uid held h = no_row held (sym (map.get-empty text_cmp uid) ∙ h)

admitted : (name caller : Text) (item : Instance) → IsReached two item.key caller name → IsAdmitted (plan_routing two name) caller item empty_book
admitted name caller item reached = record { line = reached; same = λ held h. absurd (none_had item.uid held h) }

-- ---- lists of one or two lines
one_taken : (line : Line) (caller : Text) (item : Instance) → IsAcknowledged (line ∷ []) caller item →
    ((to : List Text) × (keep : Bool) × (line ≡ Arrival caller item to keep)) ⊎ (line ≡ Repeat caller item)
one_taken line caller item (inl a) = inl (a.0, a.1, only_one line (Arrival caller item a.0 a.1) a.2)
one_taken line caller item (inr r) = inr (only_one line (Repeat caller item) r)

two_taken : (first second : Line) (caller : Text) (item : Instance) → IsAcknowledged (first ∷ second ∷ []) caller item →
    IsAcknowledged (first ∷ []) caller item ⊎ IsAcknowledged (second ∷ []) caller item
two_taken first second caller item (inl a) = elim (Contains-cons_cases first (second ∷ []) (Arrival caller item a.0 a.1) a.2) [
  | inl same ↦ inl (inl (a.0, a.1, (let P : Line → Type 0 = λ l. Contains (first ∷ []) l in subst P same (Contains-here first []))))
  | inr later ↦ inr (inl (a.0, a.1, later))
]
two_taken first second caller item (inr r) = elim (Contains-cons_cases first (second ∷ []) (Repeat caller item) r) [
  | inl same ↦ inl (inr (let P : Line → Type 0 = λ l. Contains (first ∷ []) l in subst P same (Contains-here first [])))
  | inr later ↦ inr (inr later)
]

settling_silent : (uid dest : Text) (outcome : Outcome) (c : Text) (i : Instance) → IsAcknowledged (Settling uid dest outcome 0 ∷ []) c i → ⊥
settling_silent uid dest outcome c i h = elim (one_taken (Settling uid dest outcome 0) c i h) [
  | inl a ↦ (let e : Settling uid dest outcome 0 ≡ Arrival c i a.0 a.1 = a.2 in let f : ⊥ = cc in f)
  | inr r ↦ (let e : Settling uid dest outcome 0 ≡ Repeat c i = r in let f : ⊥ = cc in f)
]

forgetting_silent : (uid c : Text) (i : Instance) → IsAcknowledged (Forgetting uid ∷ []) c i → ⊥
forgetting_silent uid c i h = elim (one_taken (Forgetting uid) c i h) [
  | inl a ↦ (let e : Forgetting uid ≡ Arrival c i a.0 a.1 = a.2 in let f : ⊥ = cc in f)
  | inr r ↦ (let e : Forgetting uid ≡ Repeat c i = r in let f : ⊥ = cc in f)
]

arrival_no_settling : (caller : Text) (item : Instance) (to : List Text) (keep : Bool) (uid dest : Text) (outcome : Outcome) (now : ℕ) → Arrival caller item to keep ≡ Settling uid dest outcome now → ⊥
arrival_no_settling caller item to keep uid dest outcome now e = cc

forgetting_no_settling : (own uid dest : Text) (outcome : Outcome) (now : ℕ) → Forgetting own ≡ Settling uid dest outcome now → ⊥
forgetting_no_settling own uid dest outcome now e = cc

-- a line that is no settling notes no success
no_success : (line : Line) (item : Instance) (to : Text) → ((uid dest : Text) (outcome : Outcome) (now : ℕ) → line ≡ Settling uid dest outcome now → ⊥) → HasSucceededSince (line ∷ []) item to → ⊥
no_success line item to silent h = none_yet item to (succeeded_before [] line silent item to h)

module _ (item : Instance) (image_is : item.key.class ≡ image) (explicit_is : item.key.syntax ≡ Explicit) where
  sends : Sends two scanner local item.key archive
  sends = image_sent item.key image_is explicit_is

  entered : IsReached two item.key local scanner
  entered = reached_entry two item.key scanner (archive, image_flows item.key image_is explicit_is)

  came : IsReached two item.key scanner archive
  came = reached_next two item.key local scanner archive entered sends

  abbrev sent : Line
  sent = arrival_line (plan_routing two scanner) local item

  abbrev kept : Line
  kept = arrival_line (plan_routing two archive) scanner item

  abbrev settled : Outcome → Line
  settled outcome = Settling item.uid archive outcome 0

  -- ---- the scanner alone
  row_waits : map.get (after sent empty_book).rows (item.uid, archive) ≡ Some (Waiting 0 0)
  row_waits =
      let made = rows_made (targets two scanner local item.key) map.empty item.uid archive ((targets_are_sent_to two scanner local item.key archive).1 sends) in
      elim (rows_from (targets two scanner local item.key) map.empty item.uid (item.uid, archive) made.0 made.1) [
        | inl was ↦ absurd (no_row made.0 (sym (map.get-empty pair_cmp (item.uid, archive)) ∙ was.0))
        | inr new ↦ made.1 ∙ ap Some new.2
      ]

  settled_history : (outcome : Outcome) → IsHistory (plan_routing two scanner) (sent ∷ settled outcome ∷ []) empty_book
  settled_history outcome = (
    (admitted scanner local item entered, set.contains-empty pair_cmp (local, item.uid), refl, refl),
    (((0, 0, row_waits), early), tt),
  )
    where
      early : 0 ≤ 2 ^ 62
      early = omega arith

  settled_histories : (outcome : Outcome) → AreHistories all_ours two (settled_alone item outcome)
  settled_histories outcome = record {
    own = since_past scanner (sent ∷ settled outcome ∷ []) [] (sent ∷ settled outcome ∷ []) refl refl (inl refl) tt (settled_history outcome);
    fit = none_stood scanner (sent ∷ settled outcome ∷ []) refl;
    others = none_seen scanner (sent ∷ settled outcome ∷ []);
  }

  entered_from : (outcome : Outcome) (name caller : Text) (i : Instance) → WasTaken (settled_alone item outcome name).lines caller i → caller ≡ local
  entered_from outcome name caller i h =
      let there = taken_of scanner (sent ∷ settled outcome ∷ []) name caller i h in
      elim (two_taken sent (settled outcome) caller i there.1) [
        | inl first ↦ (arrival_to caller local i item (targets two scanner local item.key) (keeps two scanner local item.key) (one_taken sent caller i first)).0
        | inr second ↦ absurd (settling_silent item.uid archive outcome caller i second)
      ]

  settled_reasons : (outcome : Outcome) → ArrivalsHaveReasons all_ours two (settled_alone item outcome)
  settled_reasons outcome name caller i own near far h = absurd (far (entered_from outcome name caller i h))

  settled_line : (outcome : Outcome) (name uid to : Text) (o : Outcome) (now : ℕ) → Contains (settled_alone item outcome name).lines (Settling uid to o now) → outcome ≡ o
  settled_line outcome name uid to o now h =
      let there = line_of scanner (sent ∷ settled outcome ∷ []) name (Settling uid to o now) h in
      elim (Contains-cons_cases sent (settled outcome ∷ []) (Settling uid to o now) there.1) [
        | inl first ↦ absurd (arrival_no_settling local item (targets two scanner local item.key) (keeps two scanner local item.key) uid to o now first)
        | inr second ↦ (settling_is item.uid archive outcome 0 uid to o now (only_one (settled outcome) (Settling uid to o now) second)).2
      ]

  success_there : HasSucceededSince (settled_alone item (Status 0) scanner).lines item archive
  success_there =
      let lines : List Line = sent ∷ settled (Status 0) ∷ [] in
      let P : Book → Type 0 = λ b. HasSucceededSince b.lines item archive in
      subst P (sym (at_name scanner lines)) (record {
        success = record {
          before = sent ∷ [];
          status = 0;
          now = 0;
          later = [];
          at = refl;
          success = refl;
          had = filled_is texts map.empty item.uid item (λ held h. absurd (none_had item.uid held h));
        };
        since = λ h. nothing_in_nil Adoption h;
      })

  not_arrived : SuccessesArrived all_ours (settled_alone item (Status 0)) → ⊥
  not_arrived all =
      let there = taken_of scanner (sent ∷ settled (Status 0) ∷ []) archive scanner item (all scanner archive item refl refl success_there) in
      they_differ (sym there.0)

  none_succeeded : SuccessesArrived all_ours (settled_alone item NoContext)
  none_succeeded name to i own near h =
      let lines : List Line = sent ∷ [] in
      let there = success_of scanner (sent ∷ settled NoContext ∷ []) name to i h in
      elim (succeeded_from lines (settled NoContext) i to there.1) [
        | inl was ↦ absurd (no_success sent i to (λ uid dest o now. arrival_no_settling local item (targets two scanner local item.key) (keeps two scanner local item.key) uid dest o now) was)
        | inr now ↦ absurd (no_status now.status (settling_is item.uid archive NoContext 0 i.uid to (Status now.status) now.now now.is).2)
      ]
    where
      no_status : (s : ℕ) → NoContext ≡ Status s → ⊥
      no_status s e = cc

  not_fair : AnswersAreFair all_ours (settled_alone item NoContext) → ⊥
  not_fair all =
      let lines : List Line = sent ∷ settled NoContext ∷ [] in
      let P : Book → Type 0 = λ b. Contains b.lines (settled NoContext) in
      all scanner item.uid archive NoContext 0 refl refl (subst P (sym (at_name scanner lines)) (Contains-there sent (settled NoContext ∷ []) (settled NoContext) (Contains-here (settled NoContext) [])))

  -- ---- the archive alone
  kept_histories : AreHistories all_ours two (arrived_alone item)
  kept_histories = record {
    own = since_past archive (kept ∷ []) [] (kept ∷ []) refl refl (inl refl) tt ((admitted archive scanner item came, set.contains-empty pair_cmp (scanner, item.uid), refl, refl), tt);
    fit = none_stood archive (kept ∷ []) refl;
    others = none_seen archive (kept ∷ []);
  }

  kept_silent : (uid dest : Text) (o : Outcome) (now : ℕ) → kept ≡ Settling uid dest o now → ⊥
  kept_silent uid dest o now e = arrival_no_settling scanner item (targets two archive scanner item.key) (keeps two archive scanner item.key) uid dest o now e

  no_reason : ArrivalsHaveReasons all_ours two (arrived_alone item) → ⊥
  no_reason all =
      let P : Book → Type 0 = λ b. Took b scanner item in
      let there : Took (arrived_alone item archive) scanner item =
      subst P (sym (at_name archive (kept ∷ []))) (inl (targets two archive scanner item.key, keeps two archive scanner item.key, Contains-here kept [])) in
      elim (all archive scanner item refl refl scanner_is_no_caller there) [
        | inl a ↦ they_differ (taken_of archive (kept ∷ []) scanner a.0 item a.1).0
        | inr s ↦ none_stands archive (kept ∷ []) refl scanner archive item s
      ]

  -- ---- what was never there is forgotten
  abbrev gone : List Line
  gone = Forgetting item.uid ∷ []

  forgotten_match : Match all_ours two (forgotten_alone item)
  forgotten_match = record {
    successes = λ name to i own near h. absurd (no_success (Forgetting item.uid) i to (λ uid dest o now. forgetting_no_settling item.uid uid dest o now) (success_of scanner gone name to i h).1);
    arrivals = λ name caller i own near far h. absurd (forgetting_silent item.uid caller i (taken_of scanner gone name caller i h).1);
    fair = λ name uid to o now own near h. absurd (forgetting_no_settling item.uid uid to o now (only_one (Forgetting item.uid) (Settling uid to o now) (line_of scanner gone name (Settling uid to o now) h).1));
  }

  no_history : (since : List Line) → gone ≡ since → IsHistory (plan_routing two scanner) since empty_book → ⊥
  no_history since is h =
      let P : List Line → Type 0 = λ ls. IsHistory (plan_routing two scanner) ls empty_book in
      let over = (subst P (sym is) h).0 in
      none_had item.uid over.there.0 over.there.1

  not_history : EachIsAHistory all_ours two (forgotten_alone item) → ⊥
  not_history all =
      let R : Book → Type 0 = λ b. IsSince (plan_routing two scanner) (until_adoption b.lines) b in
      let j = subst R (at_name scanner gone) (all scanner refl) in
      no_history j.since (sym (folds_have_their_lines gone) ∙ j.lines) j.history

  -- ---- what stood for nowhere
  abbrev past : List Line
  past = Arrival local item (scanner ∷ []) false ∷ Adoption ∷ []

  stood_since : EachIsAHistory all_ours two (stood_alone item)
  stood_since = since_past archive past past [] (sym (append-nil past)) refl (inr (Arrival local item (scanner ∷ []) false ∷ [], refl))
      ((λ held h. absurd (none_had item.uid held h), set.contains-empty pair_cmp (local, item.uid)), (tt, tt)) tt

  since_then : (lines : List Line) → lines ≡ past → (caller : Text) (i : Instance) → WasTaken lines caller i → ⊥
  since_then lines is caller i h = (let P : List Line → Type 0 = λ ls. WasTaken ls caller i in nothing_taken caller i (subst P is h))

  stood_success : (to : Text) (i : Instance) → HasSucceededSince past i to → ⊥
  stood_success to i h =
      no_success (Arrival local item (scanner ∷ []) false) i to (λ uid dest o now. arrival_no_settling local item (scanner ∷ []) false uid dest o now)
      (succeeded_before (Arrival local item (scanner ∷ []) false ∷ []) Adoption (λ uid dest o now e. adoption_no_settling uid dest o now e) i to h)
    where
      adoption_no_settling : (uid dest : Text) (o : Outcome) (now : ℕ) → Adoption ≡ Settling uid dest o now → ⊥
      adoption_no_settling uid dest o now e = cc

  stood_line : (uid to : Text) (o : Outcome) (now : ℕ) → Contains past (Settling uid to o now) → ⊥
  stood_line uid to o now h = elim (Contains-cons_cases (Arrival local item (scanner ∷ []) false) (Adoption ∷ []) (Settling uid to o now) h) [
    | inl first ↦ arrival_no_settling local item (scanner ∷ []) false uid to o now first
    | inr second ↦ (let e : Adoption ≡ Settling uid to o now = only_one Adoption (Settling uid to o now) second in let f : ⊥ = cc in f)
  ]

  stood_match : Match all_ours two (stood_alone item)
  stood_match = record {
    successes = λ name to i own near h. absurd (stood_success to i (success_of archive past name to i h).1);
    arrivals = λ name caller i own near far h. absurd (since_then past refl caller i (taken_of archive past name caller i h).1);
    fair = λ name uid to o now own near h. absurd (stood_line uid to o now (line_of archive past name (Settling uid to o now) h).1);
  }

  row_stood : map.get (not_over (with_rows map.empty item.uid (scanner ∷ []))) (item.uid, scanner) ≡ Some (Waiting 0 0)
  row_stood =
      let rows = with_rows map.empty item.uid (scanner ∷ []) in
      let made = rows_made (scanner ∷ []) map.empty item.uid scanner (Contains-here scanner []) in
      let at : map.get rows (item.uid, scanner) ≡ Some (Waiting 0 0) = elim (rows_from (scanner ∷ []) map.empty item.uid (item.uid, scanner) made.0 made.1) [
        | inl was ↦ absurd (no_row made.0 (sym (map.get-empty pair_cmp (item.uid, scanner)) ∙ was.0))
        | inr new ↦ made.1 ∙ ap Some new.2
      ] in
      not_over_is rows (item.uid, scanner) ∙ ap (λ (o : Option Progress). cond (not (is_over_row o)) o None) at

  stood_astray : WhatStoodGoesOn all_ours two (stood_alone item) → ⊥
  stood_astray all =
      let P : Book → Type 0 = λ b. IsToSend (stood b) item scanner in
      let s : IsToSend (Fold past) item scanner = record {
        row = Waiting 0 0;
        at = row_stood;
        has = filled_is texts map.empty item.uid item (λ held h. absurd (none_had item.uid held h));
      } in
      they_differ (sym (goes_only (keep_all ∷ []) keeps_stay item.key archive scanner (all archive scanner item refl (subst P (sym (at_name archive past)) s))).0)

  pub journals_can_mismatch : JournalsCanMismatch item
  journals_can_mismatch = record {
    successes = (settled_histories (Status 0), settled_reasons (Status 0), (λ name uid to o now own near h. subst IsFairOutcome (settled_line (Status 0) name uid to o now h) (inl refl)), not_arrived);
    fair = (settled_histories NoContext, settled_reasons NoContext, none_succeeded, not_fair);
    arrivals = (
      kept_histories,
      (λ name to i own near h. absurd (no_success kept i to kept_silent (success_of archive (kept ∷ []) name to i h).1)),
      (λ name uid to o now own near h. absurd (kept_silent uid to o now (only_one kept (Settling uid to o now) (line_of archive (kept ∷ []) name (Settling uid to o now) h).1))),
      no_reason,
    );
    histories = (forgotten_match, none_stood scanner gone refl, none_seen scanner gone, not_history);
    stood = (stood_match, stood_since, none_seen archive past, stood_astray);
  }

pub each_clause_can_fail : EachClauseCanFail
each_clause_can_fail item image_is explicit_is = journals_can_mismatch item image_is explicit_is
