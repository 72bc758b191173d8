-- Droppings: each gives up one row, what comes again is new, and what was dropped is over.
use Rattle.std.proofs.Common.{◌≡◌, ◌≢◌, refl, sym, ap, subst, ◌∙◌, inl, inr, ℕ, true, false, cond, not, Option, None, Some, Ok, Contains}
use Rattle.std.specs.Ordering.{eq_by_cmp}
use Rattle.std.specs.FinMap as map
use Rattle.std.specs.FinSet as set
use Rattle.dr_base.specs.Texts.{Text}
use Rattle.dr_ledger.specs.declared.item.Arrived.TheVariants.{New, Again}
use Rattle.dr_ledger.specs.declared.item.Instance.{Instance}
use Rattle.dr_ledger.specs.declared.item.Progress.{Progress}
use Rattle.dr_ledger.specs.declared.item.Progress.TheVariants.{Waiting, Held, Done, Dropped}
use Rattle.dr_ledger.specs.Books.{Book, after, is_queued, is_over_row}
use Rattle.dr_ledger.specs.Laws.{AdoptionsLetDroppedGo, DroppedIsNeverNext, DroppedIsNew, DroppedMayBeForgotten, DroppingsGiveARowUp, IsDropped, QueuedIsNeitherDoneNorDropped}
use Rattle.dr_ledger.specs.Pairs.{Pair, pair_cmp}
use Rattle.dr_ledger.specs.Replies.{Arrives, IsHeld, arrival_line}
use Rattle.dr_ledger.specs.Routings.{Routing}
use Rattle.dr_ledger.proofs.Forgotten.{no_way}
use Rattle.dr_ledger.proofs.Growing.{given_up, dropped_is, not_over_is, rows_made, rows_from}
use Rattle.dr_ledger.proofs.Maps.{text_pairs, cases_of, same_or_not, ties_itself, got, get_new, get_other}
use Rattle.dr_ledger.proofs.Overs.{forgettings_take_their_uid}

pub queued_is_neither : QueuedIsNeitherDoneNorDropped
queued_is_neither row = (λ h. (λ e. no_way (is_queued row) h (ap is_queued e), λ e. no_way (is_queued row) h (ap is_queued e)), λ n. other row n)
  where
    other : (row : Progress) → (row ≢ Done) × (row ≢ Dropped) → is_queued row ≡ true
    other (Waiting tries due) n = refl
    other (Held why) n = refl
    other Done n = absurd (n.0 refl)
    other Dropped n = absurd (n.1 refl)

given_up_is : (b : Book) (uid dest : Text) (now : ℕ) → IsHeld b uid dest → IsDropped uid dest b (given_up b uid dest now)
given_up_is b uid dest now held =
    let taken = forgettings_take_their_uid uid b in
    record {
      was = held;
      is = get_new text_pairs b.rows (uid, dest) Dropped;
      others = λ u d apart. elim (same_or_not text_pairs (u, d) (uid, dest)) [
        | inl e ↦ absurd (apart (ap (λ (p : Pair). p.0) e, ap (λ (p : Pair). p.1) e))
        | inr n ↦ get_other text_pairs b.rows (uid, dest) Dropped (u, d) n
      ];
      items = refl;
      kept = refl;
      no_arrival = taken.no_arrival;
      arrivals = taken.arrivals;
    }

pub droppings_give_a_row_up : DroppingsGiveARowUp
droppings_give_a_row_up uid dest now old new d =
    let P : Book → Type 0 = λ x. IsDropped uid dest old x in
    subst P (sym (d.1 ∙ dropped_is uid dest now d.0.0 old d.0.1)) (given_up_is old uid dest now d.0)

inside : {X : Type 0} (x y : X) → Some x ≡ Some y → x ≡ y
inside x y e = cc

-- the row of a target after an arrival to a book in which it was dropped
waits_anew : (routing : Routing) (uid dest caller : Text) (item : Instance) (mid new : Book) → item.uid ≡ uid → map.get mid.rows (uid, dest) ≡ Some Dropped →
    Arrives routing caller item mid (Ok New) new → Contains (routing.targets caller item.key) dest → map.get new.rows (uid, dest) ≡ Some (Waiting 0 0)
waits_anew routing uid dest caller item mid new same gone a goes =
    let to = routing.targets caller item.key in
    let made = rows_made to mid.rows item.uid dest goes in
    let Q : Text → Type 0 = λ u. map.get mid.rows (u, dest) ≡ Some Dropped in
    let row : made.0 ≡ Waiting 0 0 = elim (rows_from to mid.rows item.uid (item.uid, dest) made.0 made.1) [
      | inl was ↦ absurd (made.2 (sym (inside Dropped made.0 (sym (subst Q (sym same) gone) ∙ was.0))))
      | inr untried ↦ untried.2
    ] in
    let P : Book → Type 0 = λ x. map.get x.rows (uid, dest) ≡ Some (Waiting 0 0) in
    let R : Text → Type 0 = λ u. map.get (after (arrival_line routing caller item) mid).rows (u, dest) ≡ Some (Waiting 0 0) in
    subst P (sym a.2) (subst R same (made.1 ∙ ap Some row))

pub dropped_is_new : (routing : Routing) → DroppedIsNew routing
dropped_is_new routing uid dest now caller item old mid new New same d a =
    (refl, λ goes. waits_anew routing uid dest caller item mid new same (droppings_give_a_row_up uid dest now old mid d).is a goes)
dropped_is_new routing uid dest now caller item old mid new Again same d a =
    let Q : Text → Type 0 = λ u. set.contains mid.arrivals (caller, u) ≡ true in
    absurd (no_way _ (subst Q same a.1) ((droppings_give_a_row_up uid dest now old mid d).no_arrival caller))

pub dropped_is_never_next : DroppedIsNeverNext
dropped_is_never_next b dest now item gone next = (let e : Some Dropped ≡ Some (Waiting next.row.0.0 next.due) = sym gone ∙ next.row.0.1 in cc)

pub adoptions_let_dropped_go : AdoptionsLetDroppedGo
adoptions_let_dropped_go b uid dest gone = not_over_is b.rows (uid, dest) ∙ ap (λ (o : Option Progress). cond (not (is_over_row o)) o None) gone

pub dropped_may_be_forgotten : DroppedMayBeForgotten
dropped_may_be_forgotten b uid dest now item has unkept only held = record {
  there = (item, has);
  unkept = unkept;
  unqueued = λ to row h.
      let P : Book → Type 0 = λ x. map.get x.rows (uid, to) ≡ Some row in
      elim (got text_pairs b.rows (uid, dest) Dropped (uid, to) row (subst P (dropped_is uid dest now held.0 b held.1) h)) [
        | inl e ↦ ap is_queued e.1
        | inr was ↦ elim (cases_of (is_queued row)) [
          | inr over ↦ over
          | inl queued ↦ absurd (
              let same : to ≡ dest = only to row was.1 queued in
              let Q : Text → Type 0 = λ t. eq_by_cmp pair_cmp (uid, t) (uid, dest) ≡ false in
              no_way _ (ties_itself text_pairs (uid, dest)) (subst Q same was.0)
              )
        ]
      ];
}
