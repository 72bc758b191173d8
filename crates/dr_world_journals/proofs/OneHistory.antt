-- What one node's journal shows by itself.
use Rattle.std.specs.Prelude.{◌≡◌, ◌≢◌, ◌⊎◌, ℕ, Bool, true, List, [], ◌∷◌, ◌++◌, Some}
use Rattle.std.proofs.Common.{refl, sym, ap, subst, ◌∙◌}
use mathlib.Core.Logic.{inl, inr}
use Rattle.std.specs.FinMap as map
use Rattle.std.specs.FinSet as set
use Rattle.dr_base.specs.Texts.{Text}
use Rattle.dr_plan_model.specs.Networks.{Network}
use Rattle.dr_plan_model.specs.Walks.{Goes, Sends}
use Rattle.dr_plan_model.proofs.Gathered.{nothing_in_nil}
use Rattle.dr_ledger.specs.declared.item.Instance.{Instance}
use Rattle.dr_ledger.specs.declared.item.Outcome.{Outcome}
use Rattle.dr_ledger.specs.declared.item.Progress.{Progress}
use Rattle.dr_ledger.specs.declared.item.Progress.TheVariants.{Waiting, Held, Done, Dropped}
use Rattle.dr_ledger.specs.Books.{Book, Line, Arrival, Repeat, Settling, Requeuing, Dropping, Forgetting, Adoption, after, empty_book, row_after, folded, Fold}
use Rattle.dr_ledger.specs.Histories.{IsBeforeAdoption, IsCall, IsHistory, IsSince, IsSolid}
use Rattle.dr_ledger.specs.OneNode.{HasSucceededSince}
use Rattle.dr_ledger.specs.Pairs.{pair_cmp}
use Rattle.dr_ledger.specs.PlanRoutes.{plan_routing, keeps}
use Rattle.dr_ledger.specs.Replies.{IsAdmitted, IsOver, arrival_line}
use Rattle.dr_ledger.proofs.Answering.{succeeds_now}
use Rattle.dr_ledger.proofs.Folding.{fold_after, folded_push, folds_have_their_lines, since_then}
use Rattle.dr_ledger.proofs.Forgotten.{item_left, row_left}
use Rattle.dr_ledger.proofs.Growing.{row_put, given_up, settled_is, requeued_is, dropped_is}
use Rattle.dr_ledger.proofs.Since.{Acknowledges, IsPlain, none_taken, nothing_taken}
use Rattle.dr_ledger.proofs.Solid.{pasts_make_solid_books}
use Rattle.dr_world_model.specs.Claims.{IsQueued, IsToSend, WasGivenUp}
use Rattle.dr_world_model.proofs.AdoptionsKept.{no_row, queued_not_done, was_queued}
use Rattle.dr_world_model.proofs.AmongSafe.{taken_push}
use Rattle.dr_world_model.proofs.CallsKept.{settled_not_dropped}
use Rattle.dr_world_model.proofs.GivenUp.{given_up_arrived, given_up_now, given_up_on, given_up_repeated}
use Rattle.dr_world_model.proofs.Keeping.{IsRight, GoesOn, Noted, Took, done_or_queued, arrived_done, arrived_from, arrived_goes_on, arrived_had, arrived_has, arrived_right, arrived_row, line_from, line_right, row_set_done, row_set_from, row_set_goes_on, row_set_right, given_done, given_from, given_goes_on, given_right, given_silent, forgotten_from, forgotten_goes_on, forgotten_right}

-- by this book the item is still queued for the next node, or a person gave it up, or that node answered with success
abbrev pub OnBy : Network → Text → Book → Instance → Text → Type 0
OnBy plan name b item to = GoesOn b item to ⊎ (WasGivenUp plan name b.lines item to ⊎ HasSucceededSince b.lines item to)

-- what holds of the book of a node by itself, whatever others did
pub record Stands (plan : Network) (name : Text) (stood : Book) (b : Book) : Type 0 where
  pub right : IsRight plan name stood b
  pub fold : b ≡ Fold b.lines
  pub sent : (caller to : Text) (item : Instance) → Took b caller item → Sends plan name caller item.key to → OnBy plan name b item to
  pub carried : (to : Text) (item : Instance) → IsToSend stood item to → OnBy plan name b item to
  pub done : (to : Text) (item : Instance) → map.get b.rows (item.uid, to) ≡ Some Done → map.get b.items item.uid ≡ Some item → HasSucceededSince b.lines item to

-- ---- lines that acknowledge nothing
settling_silent : (uid dest : Text) (outcome : Outcome) (now : ℕ) (c : Text) (i : Instance) → Acknowledges (Settling uid dest outcome now) c i → ⊥
settling_silent uid dest outcome now c i (inl a) = (let e : Settling uid dest outcome now ≡ Arrival c i a.0 a.1 = a.2 in cc e)
settling_silent uid dest outcome now c i (inr r) = (let e : Settling uid dest outcome now ≡ Repeat c i = r in cc e)

requeuing_silent : (uid dest c : Text) (i : Instance) → Acknowledges (Requeuing uid dest) c i → ⊥
requeuing_silent uid dest c i (inl a) = (let e : Requeuing uid dest ≡ Arrival c i a.0 a.1 = a.2 in cc e)
requeuing_silent uid dest c i (inr r) = (let e : Requeuing uid dest ≡ Repeat c i = r in cc e)

forgetting_silent : (uid c : Text) (i : Instance) → Acknowledges (Forgetting uid) c i → ⊥
forgetting_silent uid c i (inl a) = (let e : Forgetting uid ≡ Arrival c i a.0 a.1 = a.2 in cc e)
forgetting_silent uid c i (inr r) = (let e : Forgetting uid ≡ Repeat c i = r in cc e)

waiting_not_done : Waiting 0 0 ≢ Done
waiting_not_done e = cc

waiting_not_dropped : Waiting 0 0 ≢ Dropped
waiting_not_dropped e = cc

-- the success that a settling notes
success_now : (lines : List Line) (b : Book) → b ≡ Fold lines → (uid dest : Text) (outcome : Outcome) (now tries : ℕ) (item : Instance) → item.uid ≡ uid → row_after tries outcome now ≡ Done →
    map.get b.items item.uid ≡ Some item → HasSucceededSince (lines ++ Settling uid dest outcome now ∷ []) item dest
success_now lines b is uid dest outcome now tries item same done has =
    let P : Text → Type 0 = λ u. HasSucceededSince (lines ++ Settling u dest outcome now ∷ []) item dest in
    subst P same (record { success = succeeds_now lines b is item dest outcome now tries done has; since = λ h. nothing_in_nil Adoption h })

module _ (plan : Network) (name : Text) (stood : Book) where
  -- the book after a line
  stands_line : (b new : Book) (line : Line) → new ≡ after line b → new.lines ≡ b.lines ++ line ∷ [] → line ≢ Adoption → Stands plan name stood b → IsRight plan name stood new →
      ((caller : Text) (item : Instance) → Took new caller item → Took b caller item ⊎ ((to : Text) → Sends plan name caller item.key to → OnBy plan name new item to)) →
      ((item : Instance) (to : Text) → GoesOn b item to → OnBy plan name new item to) →
      ((item : Instance) (to : Text) → WasGivenUp plan name b.lines item to → OnBy plan name new item to) →
      ((to : Text) (item : Instance) → map.get new.rows (item.uid, to) ≡ Some Done → map.get new.items item.uid ≡ Some item →
      ((map.get b.rows (item.uid, to) ≡ Some Done) × (map.get b.items item.uid ≡ Some item)) ⊎ HasSucceededSince new.lines item to) →
      Stands plan name stood new
  stands_line b new line is lines plain s right news on gives dones =
      let pushed : (item : Instance) (to : Text) → HasSucceededSince b.lines item to → HasSucceededSince new.lines item to = λ item to h.
      (let T : List Line → Type 0 = λ ls. HasSucceededSince ls item to in subst T (sym lines) (taken_push b.lines line item to plain h)) in
      let moved : (item : Instance) (to : Text) → OnBy plan name b item to → OnBy plan name new item to = λ item to h.
      elim h [ inl goes ↦ on item to goes | inr (inl given) ↦ gives item to given | inr (inr success) ↦ inr (inr (pushed item to success)) ] in
      record {
        right = right;
        fold = fold_after line b new s.fold is;
        sent = λ caller to item h sends. elim (news caller item h) [
          | inl was ↦ moved item to (s.sent caller to item was sends)
          | inr now ↦ now to sends
        ];
        carried = λ to item h. moved item to (s.carried to item h);
        done = λ to item h has. elim (dones to item h has) [
          | inl was ↦ pushed item to (s.done to item was.0 was.1)
          | inr now ↦ now
        ];
      }

  -- ---- an arrival
  stands_arrived : (caller : Text) (item : Instance) (b : Book) → IsAdmitted (plan_routing plan name) caller item b → Stands plan name stood b → Stands plan name stood (after (arrival_line (plan_routing plan name) caller item) b)
  stands_arrived caller item b admitted s =
      let line = arrival_line (plan_routing plan name) caller item in
      let new = after line b in
      let plain : line ≢ Adoption = λ e. cc in
      let passes : (to : Text) → Sends plan name caller item.key to → OnBy plan name new item to = λ to sends.
      (let row = arrived_row plan name caller item stood b s.right admitted to sends in
      elim (done_or_queued row.0 row.2) [
        | inr queued ↦ inl (record { row = row.0; queued = queued; at = row.1; has = arrived_has plan name caller item stood b s.right admitted })
        | inl done ↦ (
            let was = arrived_done plan name caller item stood b s.right admitted (item.uid, to) (row.1 ∙ ap Some done) in
            let had = arrived_had plan name caller item stood b s.right admitted item to Done was (arrived_has plan name caller item stood b s.right admitted) in
            inr (inr (taken_push b.lines line item to plain (s.done to item was had)))
            )
      ]) in
      stands_line b new line refl refl plain s (arrived_right plan name caller item stood b s.right admitted)
      (λ c i h. elim (arrived_from plan name caller item stood b s.right admitted c i h) [
        | inl was ↦ inl was
        | inr e ↦ inr (
            let P : Text × Instance → Type 0 = λ p. (to : Text) → Sends plan name p.0 p.1.key to → OnBy plan name new p.1 to in
            subst P (λ j. (sym e.0 j, sym e.1 j)) passes
            )
      ])
      (λ i to g. inl (arrived_goes_on plan name caller item stood b s.right admitted i to g))
      (λ i to g. elim (given_up_arrived plan name caller item (keeps plan name caller item.key) b.lines i to g) [
        | inl e ↦ (
            let P : Instance → Type 0 = λ x. OnBy plan name new x to in
            let S : Instance → Type 0 = λ x. Sends plan name caller x.key to in
            subst P (sym e.0) (passes to (subst S e.0 e.1))
            )
        | inr still ↦ inr (inl still)
      ])
      (λ to i h g. (
      let was = arrived_done plan name caller item stood b s.right admitted (i.uid, to) h in
      inl (was, arrived_had plan name caller item stood b s.right admitted i to Done was g)
      ))

  -- ---- a repeat
  stands_repeated : (caller : Text) (item : Instance) (b : Book) → Noted b caller item → Stands plan name stood b → Stands plan name stood (after (Repeat caller item) b)
  stands_repeated caller item b noted s =
      let line = Repeat caller item in
      let new = after line b in
      let plain : line ≢ Adoption = λ e. cc in
      stands_line b new line refl refl plain s (line_right plan name caller item stood b s.right noted)
      (λ c i h. inl (line_from plan name caller item stood b s.right noted c i h))
      (λ i to g. inl (record { row = g.row; queued = g.queued; at = g.at; has = g.has }))
      (λ i to g. elim (given_up_repeated plan name caller item b.lines i to g) [
        | inl e ↦ (
            let S : Instance → Type 0 = λ x. Sends plan name caller x.key to in
            let row = s.right.undropped caller to item noted (subst S e.0 e.1) in
            let P : Instance → Type 0 = λ x. OnBy plan name new x to in
            subst P (sym e.0) (elim (done_or_queued row.0 row.2) [
              | inl done ↦ inr (inr (taken_push b.lines line item to plain (s.done to item (row.1 ∙ ap Some done) noted.item_is)))
              | inr queued ↦ inl (record { row = row.0; queued = queued; at = row.1; has = noted.item_is })
            ])
            )
        | inr still ↦ inr (inl still)
      ])
      (λ to i h g. inl (h, g))

  -- ---- one row changes
  stands_row : (b : Book) (uid dest : Text) (old row : Progress) (line : Line) → map.get b.rows (uid, dest) ≡ Some old → row ≢ Dropped → row_put b (uid, dest) row line ≡ after line b →
      line ≢ Adoption → IsPlain line → ((c : Text) (i : Instance) → Acknowledges line c i → ⊥) →
      (row ≡ Done → (item : Instance) → item.uid ≡ uid → map.get b.items item.uid ≡ Some item → HasSucceededSince (b.lines ++ line ∷ []) item dest) →
      Stands plan name stood b → Stands plan name stood (row_put b (uid, dest) row line)
  stands_row b uid dest old row line was fresh is_after no_adoption plain silent succeeds s =
      let new = row_put b (uid, dest) row line in
      let reached : (i : Instance) (to : Text) → ◌≡◌ {A = Text × Text} (i.uid, to) (uid, dest) → row ≡ Done → map.get b.items i.uid ≡ Some i → HasSucceededSince new.lines i to = λ i to e done has.
      subst (λ t. HasSucceededSince new.lines i t) (sym (ap (λ (p : Text × Text). p.1) e)) (succeeds done i (ap (λ (p : Text × Text). p.0) e) has) in
      stands_line b new line is_after refl no_adoption s (row_set_right plan name stood b (uid, dest) old row line s.right was fresh plain silent)
      (λ c i h. inl (row_set_from plan name stood b (uid, dest) old row line s.right was fresh plain silent c i h))
      (λ i to g. elim (row_set_goes_on plan name stood b (uid, dest) old row line s.right was fresh plain silent i to g) [
        | inl still ↦ inl still
        | inr e ↦ inr (inr (reached i to e.0 e.1 g.has))
      ])
      (λ i to g. inr (inl (given_up_on plan name b.lines line i to no_adoption silent g)))
      (λ to i h g. elim (row_set_done plan name stood b (uid, dest) old row line s.right was fresh plain silent (i.uid, to) h) [
        | inl done ↦ inl (done, g)
        | inr e ↦ inr (reached i to e.0 e.1 g)
      ])

  -- ---- a dropping
  stands_given_up : (b : Book) (uid dest : Text) (now : ℕ) (row : Progress) → map.get b.rows (uid, dest) ≡ Some row → given_up b uid dest now ≡ after (Dropping uid dest now) b →
      Stands plan name stood b → Stands plan name stood (given_up b uid dest now)
  stands_given_up b uid dest now row was is_after s =
      let line = Dropping uid dest now in
      let new = given_up b uid dest now in
      stands_line b new line is_after refl (λ e. cc) s (given_right plan name uid dest now stood b s.right (row, was))
      (λ c i h. inl (given_from plan name uid dest now stood b s.right c i h))
      (λ i to g. elim (given_goes_on plan name uid dest now stood b s.right i to g) [
        | inl still ↦ inl still
        | inr e ↦ inr (inl (given_up_now plan name b.lines b s.fold uid dest now i to (ap (λ (p : Text × Text). p.0) e) (ap (λ (p : Text × Text). p.1) e) g.has))
      ])
      (λ i to g. inr (inl (given_up_on plan name b.lines line i to (λ e. cc) (given_silent plan name uid dest now stood b s.right) g)))
      (λ to i h g. inl (given_done plan name uid dest now stood b s.right (i.uid, to) h, g))

  -- ---- a forgetting
  stands_forgotten : (b : Book) (uid : Text) → IsOver b uid → Stands plan name stood b → Stands plan name stood (after (Forgetting uid) b)
  stands_forgotten b uid over s =
      stands_line b (after (Forgetting uid) b) (Forgetting uid) refl refl (λ e. cc) s (forgotten_right plan name uid stood b s.right over)
      (λ c i h. inl (forgotten_from plan name uid stood b s.right over c i h))
      (λ i to g. inl (forgotten_goes_on plan name uid stood b s.right over i to g))
      (λ i to g. inr (inl (given_up_on plan name b.lines (Forgetting uid) i to (λ e. cc) (forgetting_silent uid) g)))
      (λ to i h g. inl ((row_left b uid (i.uid, to) Done h).1, (item_left b uid i.uid i g).1))

  -- ---- a line
  stands_after : (line : Line) (b : Book) → IsCall (plan_routing plan name) line b → Stands plan name stood b → Stands plan name stood (after line b)
  stands_after (Arrival caller item to keep) b call s =
      let P : List Text × Bool → Type 0 = λ p. Stands plan name stood (after (Arrival caller item p.0 p.1) b) in
      subst P (λ j. (sym call.2 j, sym call.3 j)) (stands_arrived caller item b call.0 s)
  stands_after (Repeat caller item) b call s =
      let known = s.right.known caller item.uid call.1 in
      let same : known.0 ≡ item = call.0.same known.0 known.1 in
      stands_repeated caller item b (record { arrival = call.1; item_is = known.1 ∙ ap Some same }) s
  stands_after (Settling uid dest outcome now) b call s =
      let waits = call.0 in
      let put = settled_is uid dest outcome now waits.0 waits.1 b waits.2 in
      subst (Stands plan name stood) (sym put) (stands_row b uid dest (Waiting waits.0 waits.1) (row_after waits.0 outcome now) (Settling uid dest outcome now) waits.2
      (settled_not_dropped waits.0 outcome now) (sym put) (λ e. cc) (λ since. refl) (settling_silent uid dest outcome now)
      (λ done item same has. success_now b.lines b s.fold uid dest outcome now waits.0 item same done has) s)
  stands_after (Requeuing uid dest) b call s =
      let put = requeued_is uid dest call.0 b call.1 in
      subst (Stands plan name stood) (sym put) (stands_row b uid dest (Held call.0) (Waiting 0 0) (Requeuing uid dest) call.1
      waiting_not_dropped (sym put) (λ e. cc) (λ since. refl) (requeuing_silent uid dest) (λ done item same has. absurd (waiting_not_done done)) s)
  stands_after (Dropping uid dest now) b call s =
      let held = call.0 in
      let put = dropped_is uid dest now held.0 b held.1 in
      subst (Stands plan name stood) (sym put) (stands_given_up b uid dest now (Held held.0) held.1 (sym put) s)
  stands_after (Forgetting uid) b call s = stands_forgotten b uid call s
  stands_after Adoption b call s = absurd call

  stands_on : (lines : List Line) (b : Book) → IsHistory (plan_routing plan name) lines b → Stands plan name stood b → Stands plan name stood (folded b lines)
  stands_on [] b h s = s
  stands_on (line ∷ lines) b h s = stands_on lines (after line b) h.1 (stands_after line b h.0 s)

-- ---- what was there when the plan was adopted
-- nothing was acknowledged under the plan, nothing is noted, and each row is queued
record IsNew (b : Book) : Type 0 where
  none : (caller : Text) (item : Instance) → Took b caller item → ⊥
  unnoted : (at : Text × Text) → set.contains b.arrivals at ≡ true → ⊥
  queued : (at : Text × Text) (row : Progress) → map.get b.rows at ≡ Some row → IsQueued row
  fold : b ≡ Fold b.lines

none_noted : (at : Text × Text) → set.contains (set.empty {R = pair_cmp}) at ≡ true → ⊥
none_noted at h = let e = set.contains-empty pair_cmp at in cc

empty_is_new : IsNew empty_book
empty_is_new = record {
  none = λ caller item h. nothing_taken caller item h;
  unnoted = none_noted;
  queued = λ at row h. absurd (no_row row (sym (map.get-empty pair_cmp at) ∙ h));
  fold = refl;
}

adopted_is_new : (earlier : List Line) → IsNew (Fold (earlier ++ Adoption ∷ []))
adopted_is_new earlier =
    let b = Fold earlier in
    let is : b ≡ Fold b.lines = ap Fold (sym (folds_have_their_lines earlier)) in
    subst IsNew (sym (folded_push earlier Adoption empty_book)) (record {
      none = λ caller item h. none_taken b.lines caller item h;
      unnoted = none_noted;
      queued = λ at row h. (was_queued b.rows at row h).1;
      fold = fold_after Adoption b (after Adoption b) is refl;
    })

past_is_new : (past : List Line) → IsBeforeAdoption past → IsNew (Fold past)
past_is_new past (inl none) = (let P : List Line → Type 0 = λ lines. IsNew (Fold lines) in subst P (sym none) empty_is_new)
past_is_new past (inr ended) = (let P : List Line → Type 0 = λ lines. IsNew (Fold lines) in subst P (sym ended.1) (adopted_is_new ended.0))

stands_new : (plan : Network) (name : Text) (b : Book) → IsNew b → IsSolid b → ((to : Text) (item : Instance) → IsToSend b item to → Goes plan item.key name to) → Stands plan name b b
stands_new plan name b new solid fit = record {
  right = record {
    named = solid.named;
    known = λ caller uid h. absurd (new.unnoted (caller, uid) h);
    noted = λ caller item h. absurd (new.unnoted (caller, item.uid) h.arrival);
    reached = λ caller item h. absurd (new.none caller item h);
    kept = λ caller item h k. absurd (new.none caller item h);
    from = λ uid to row h.
        let k = solid.rows uid to row h in
        let u : k.0.uid ≡ uid = solid.named uid k.0 k.1 in
        let stood : IsToSend b k.0 to = record { row = row; at = ap (λ x. map.get b.rows (x, to)) u ∙ h; has = ap (map.get b.items) u ∙ k.1 } in
        record { item = k.0; named = u; has = stood.has; goes = fit to k.0 stood; why = inr stood };
    undropped = λ caller to item h sends. absurd (new.unnoted (caller, item.uid) h.arrival);
  };
  fold = new.fold;
  sent = λ caller to item h sends. absurd (new.none caller item h);
  carried = λ to item s. inl (record { row = s.row; queued = new.queued (item.uid, to) s.row s.at; at = s.at; has = s.has });
  done = λ to item h has. absurd (queued_not_done Done (new.queued (item.uid, to) Done h) refl);
}

-- ---- a journal
pub stands_since : (plan : Network) (name : Text) (past : List Line) (b : Book) → IsSince (plan_routing plan name) past b → ((to : Text) (item : Instance) → IsToSend (Fold past) item to → Goes plan item.key name to) →
    Stands plan name (Fold past) b
stands_since plan name past b j fit =
    subst (Stands plan name (Fold past)) (sym (since_then (plan_routing plan name) past b j))
    (stands_on plan name (Fold past) j.since (Fold past) j.history (stands_new plan name (Fold past) (past_is_new past j.before) (pasts_make_solid_books past j.accepted) fit))
