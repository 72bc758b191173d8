-- What a run leaves: journals that are histories, and match.
use Rattle.std.specs.Prelude.{◌≡◌, ℕ, ◌+◌, ◌-◌, ◌≤◌, ◌^◌, true, List, [], ◌∷◌, ◌++◌, length, min, take}
use Rattle.std.proofs.Common.{refl, sym, ap, subst, ◌∙◌, arith}
use Rattle.std.proofs.lemmas.List.{length-append, take-append-le, take_all}
use mathlib.Core.Logic.{inl, inr}
use Rattle.dr_base.specs.Texts.{Text}
use Rattle.dr_plan_model.specs.Networks.{Network}
use Rattle.dr_ledger.specs.Books.{Book, Line, Settling, Adoption, after, empty_book, Fold}
use Rattle.dr_ledger.specs.Histories.{IsSince}
use Rattle.dr_ledger.specs.PlanRoutes.{plan_routing}
use Rattle.dr_ledger.proofs.Folding.{folded_push, empty_is_journalled, arrivals_are_journalled, settlings_are_journalled, requeuings_are_journalled, droppings_are_journalled, forgettings_are_journalled, adoptions_are_journalled}
use Rattle.dr_ledger.specs.Routings.{Routing}
use Rattle.dr_ledger.proofs.Maps.{cases_of}
use Rattle.dr_ledger.proofs.Since.{since_is}
use Rattle.dr_world_model.specs.Among.{Act, Agrees, Calls, Does, Doing, Other, Ours, Own, Replies, RunsAmong, Stores, Takes, Turn, Turns, acts_of, all_ours}
use Rattle.dr_world_model.specs.Calls.{CalledAt, StoreOutcome}
use Rattle.dr_world_model.specs.Claims.{IsToSend}
use Rattle.dr_world_model.specs.Events.{HasNode}
use Rattle.dr_world_model.specs.Worlds.{World, start}
use Rattle.dr_world_model.proofs.AdoptionsKept.{node_or_not}
use Rattle.dr_world_model.proofs.AmongAll.{all_ours_is_the_headline}
use Rattle.dr_world_model.proofs.Safety.{each_book}
use Rattle.dr_world_model.proofs.Stepwise.{Closed, step_keeps}
use Rattle.dr_world_journals.specs.Journals.{stood, until_adoption}
use Rattle.dr_world_journals.specs.Theorem.{AllRunsLeaveMatchingJournals, RunsLeaveMatchingJournals}
use Rattle.dr_world_journals.proofs.Reasons.{runs_have_reasons}

-- ---- journals
abbrev Known : Network → Text → Book → Book → Type 0
Known plan name b stood = (past : List Line) × IsSince (plan_routing plan name) past b × (stood ≡ Fold past)

abbrev Journalled : Network → World → Type 0
Journalled plan w = (w.time ≤ 2 ^ 62) × ((name : Text) → Known plan name (w.books name) (w.stood name))

called_journalled : (plan : Network) (Would : Type 0) (w v : World) (name : Text) (came : StoreOutcome) (book : Book) → CalledAt Would w name came book v →
    Known plan name book (w.stood name) → Journalled plan w → Journalled plan v
called_journalled plan Would w v name came book c is p =
    subst (Journalled plan) (sym c.is) (p.0, each_book w name book (λ n b. Known plan n b (w.stood n)) is p.1)

early : (now : ℕ) → min now (2 ^ 62) ≤ 2 ^ 62
early now = omega arith

journalled_closed : (plan : Network) → Closed plan (Journalled plan)
journalled_closed plan = record {
  arriving = λ w v name caller item reply a p.
      let was = p.1 name in
      called_journalled plan _ w v name _ a.book a.called (was.0, arrivals_are_journalled (plan_routing plan name) was.0 caller item (w.books name) a.book reply was.1 a.call, was.2) p;
  settling = λ w v name uid dest outcome answer s p.
      let was = p.1 name in
      called_journalled plan _ w v name _ s.book s.called (was.0, settlings_are_journalled (plan_routing plan name) was.0 uid dest outcome w.time (w.books name) s.book answer p.0 was.1 s.call, was.2) p;
  requeueing = λ w v name uid dest answer r p.
      let was = p.1 name in
      called_journalled plan _ w v name _ r.book r.called (was.0, requeuings_are_journalled (plan_routing plan name) was.0 uid dest (w.books name) r.book answer was.1 r.call, was.2) p;
  giving_up = λ w v name uid dest answer r p.
      let was = p.1 name in
      called_journalled plan _ w v name _ r.book r.called (was.0, droppings_are_journalled (plan_routing plan name) was.0 uid dest w.time (w.books name) r.book answer p.0 was.1 r.call, was.2) p;
  letting_go = λ w v name uid answer r p.
      let was = p.1 name in
      called_journalled plan _ w v name _ r.book r.called (was.0, forgettings_are_journalled (plan_routing plan name) was.0 uid (w.books name) r.book answer was.1 r.call, was.2) p;
  linked = λ w number was is at ends p. p;
  opened = λ w caller receiver hop p. p;
  forgot = λ w name p. p;
  told = λ w name is p. p;
  waited = λ w ms p. (early (w.time + ms), p.1);
}

doing_journalled : (ours : Ours) (plan : Network) (doing : Doing) (w v : World) → Does ours plan w doing v → Journalled plan w → Journalled plan v
doing_journalled ours plan (Calls caller receiver) w v s p = subst (Journalled plan) (sym s.2) p
doing_journalled ours plan (Takes number answer) w v s p = subst (Journalled plan) (sym s.is) p
doing_journalled ours plan (Agrees number answer) w v s p = subst (Journalled plan) (sym s.is) p
doing_journalled ours plan (Stores number item) w v s p = subst (Journalled plan) (sym s.is) p
doing_journalled ours plan (Replies number status) w v s p = subst (Journalled plan) (sym s.is) p

-- ---- an adoption
nothing_known : (plan : Network) (name : Text) → Known plan name empty_book empty_book
nothing_known plan name = ([], empty_is_journalled (plan_routing plan name), refl)

module _ (ours : Ours) (plan next : Network) (w v : World) (a : Turns ours plan w next v) (p : Journalled plan w) where
  -- what stands is what is there
  stands : (name : Text) → Known next name (v.books name) (v.books name) → Known next name (v.books name) (v.stood name)
  stands name k = (let P : (Text → Book) → Type 0 = λ stood. Known next name (v.books name) (stood name) in subst P (sym a.stood) k)

  turned_node : (name : Text) → HasNode plan name → ours name ≡ true → Known next name (v.books name) (v.stood name)
  turned_node name is own =
      let was = p.1 name in
      let book = w.books name in
      let past : List Line = book.lines ++ Adoption ∷ [] in
      let made : after Adoption book ≡ Fold past = ap (after Adoption) was.1.fold ∙ sym (folded_push book.lines Adoption empty_book) in
      let P : Book → Type 0 = λ b. Known next name b b in
      stands name (subst P (sym (a.books name is own)) (past, adoptions_are_journalled (plan_routing plan name) (plan_routing next name) was.0 book was.1, made))

  empty_node : (name : Text) → v.books name ≡ empty_book → Known next name (v.books name) (v.stood name)
  empty_node name is =
      let P : Book → Type 0 = λ b. Known next name b b in
      stands name (subst P (sym is) (nothing_known next name))

  turned_journalled : Journalled next v
  turned_journalled = (
    subst (λ t. t ≤ 2 ^ 62) (sym a.time) p.0,
    λ name. elim (node_or_not plan name) [
      | inr stranger ↦ empty_node name (a.joined name stranger)
      | inl is ↦ elim (cases_of (ours name)) [ inl own ↦ turned_node name is own | inr other ↦ empty_node name (a.others name other) ]
    ],
  )

-- ---- runs
journalled_run : (ours : Ours) (acts : List Act) (plan last : Network) (w v : World) → RunsAmong ours plan w acts last v → Journalled plan w → Journalled last v
journalled_run ours [] plan last w v r p = subst (λ (t : Network × World). Journalled t.0 t.1) (λ j. (sym r.0 j, sym r.1 j)) p
journalled_run ours (Own event ∷ acts) plan last w v r p = journalled_run ours acts plan last r.1.0 v r.1.2 (step_keeps plan (Journalled plan) (journalled_closed plan) w event r.1.0 r.1.1 p)
journalled_run ours (Other doing ∷ acts) plan last w v r p = journalled_run ours acts plan last r.0 v r.2 (doing_journalled ours plan doing w r.0 r.1 p)
journalled_run ours (Turn next ∷ acts) plan last w v r p = journalled_run ours acts next last r.1.0 v r.1.2 (turned_journalled ours plan next w r.1.0 r.1.1 p)

-- ---- what a journal had up to its last adoption
take_past : (past since : List Line) (n : ℕ) → n ≡ length past → take n (past ++ since) ≡ past
take_past past since n is = ap (λ k. take k (past ++ since)) is ∙ (take-append-le (length past) past since (no_more (length past)) ∙ take_all (length past) past (no_more (length past)))
  where
    no_more : (k : ℕ) → k ≤ k
    no_more k = omega arith

pub until_is : (routing : Routing) (past : List Line) (b : Book) → IsSince routing past b → until_adoption b.lines ≡ past
until_is routing past b j =
    let P : List Line × List Line → Type 0 = λ p. take (length p.0 - length p.1) p.0 ≡ past in
    let sum : length (past ++ j.since) ≡ length past + length j.since = length-append past j.since in
    subst P (λ k. (sym j.lines k, sym (since_is routing past b j) k)) (take_past past j.since (length (past ++ j.since) - length j.since) (omega arith))

pub runs_leave_matching_journals : RunsLeaveMatchingJournals
runs_leave_matching_journals ours plan sound acts last w run =
    let known = (journalled_run ours acts plan last start w run (early_start, λ n. nothing_known plan n)).1 in
    let r = runs_have_reasons ours plan sound acts last w run in
    let until : (name : Text) → until_adoption (w.books name).lines ≡ (known name).0 = λ name. until_is (plan_routing last name) (known name).0 (w.books name) (known name).1 in
    let then : (name : Text) → w.stood name ≡ stood (w.books name) = λ name. (known name).2 ∙ ap Fold (sym (until name)) in
    record {
      stood_then = then;
      histories = record {
        own = λ name own. (let P : List Line → Type 0 = λ past. IsSince (plan_routing last name) past (w.books name) in subst P (sym (until name)) (known name).1);
        fit = λ name to item own s. (r.safe.carried name to item (subst (λ b. IsToSend b item to) (sym (then name)) s)).0;
        others = r.safe.others;
      };
      match = record {
        successes = λ name to item own near s. r.safe.answered name to item near s;
        arrivals = λ name caller item own near far taken. elim (r.reasons.arrivals name caller item near far taken) [
          | inl a ↦ inl a
          | inr s ↦ inr (subst (λ b. IsToSend b item name) (then caller) s)
        ];
        fair = λ name uid to outcome now own near at. r.safe.lines name (Settling uid to outcome now) at uid to outcome now near refl;
      };
    }
  where
    early_start : 0 ≤ 2 ^ 62
    early_start = omega arith

pub all_runs_leave_matching_journals : AllRunsLeaveMatchingJournals
all_runs_leave_matching_journals plan sound actions last w run =
    runs_leave_matching_journals all_ours plan sound (acts_of actions) last w ((all_ours_is_the_headline.runs plan actions last start w).0 run)
