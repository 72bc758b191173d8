-- Rows that are held, and those that are since their data set can't be read.
use Rattle.std.proofs.Common.{◌≡◌, ◌≢◌, refl, sym, ap, subst, ◌∙◌, inl, inr, ℕ, [], ◌∷◌, Contains, Option, Some, None}
use Rattle.std.specs.FinMap as map
use Rattle.dr_base.specs.Texts.{Text}
use Rattle.dr_plan_model.proofs.Gathered.{Contains-here, Contains-there}
use Rattle.dr_ledger.specs.declared.item.Cause.{Cause}
use Rattle.dr_ledger.specs.declared.item.Cause.TheVariants as cause
use Rattle.dr_ledger.specs.declared.item.Instance.{Instance}
use Rattle.dr_ledger.specs.declared.item.Outcome.TheVariants.{Unreadable}
use Rattle.dr_ledger.specs.declared.item.Progress.TheVariants.{Waiting, Held, Dropped}
use Rattle.dr_ledger.specs.Books.{Book, Line, Arrival, Repeat, Settling, Requeuing, Dropping, Forgetting, Adoption, after, dropped_row, is_queued, requeued_row, row_after, settled_row}
use Rattle.dr_ledger.specs.Histories.{IsCall}
use Rattle.dr_ledger.specs.Holding.{HeldIsNeverNext, HeldUntilNamed, UnreadableIsHeld, UnreadableIsPassed, UnreadableIsQueuedAgain}
use Rattle.dr_ledger.specs.Pairs.{Pair}
use Rattle.dr_ledger.specs.Replies.{IsWaiting, Nexts}
use Rattle.dr_ledger.specs.Routings.{Routing}
use Rattle.dr_ledger.proofs.Forgotten.{no_way}
use Rattle.dr_ledger.proofs.Growing.{rows_stay, settlings_move_a_row, requeuings_move_a_row}
use Rattle.dr_ledger.proofs.Maps.{text_pairs, same_or_not, get_other}
use Rattle.dr_ledger.proofs.Overs.{forgettings_take_their_uid}

held_after : (tries now : ℕ) → row_after tries Unreadable now ≡ Held cause.Unreadable
unfolding row_after
held_after tries now = refl

pub unreadable_is_held : UnreadableIsHeld
unreadable_is_held uid dest now old new s =
    let moved = settlings_move_a_row uid dest Unreadable now old new s in
    moved.2.is ∙ ap Some (held_after moved.0 now)

pub held_is_never_next : HeldIsNeverNext
held_is_never_next b dest now item why held next =
    let e : Some (Held why) ≡ Some (Waiting next.row.0.0 next.due) = sym held ∙ next.row.0.1 in cc

pub unreadable_is_queued_again : UnreadableIsQueuedAgain
unreadable_is_queued_again uid dest now old mid new s r = (requeuings_move_a_row uid dest mid new r).1.is

-- the first part of two pairs is another one
apart_by : (other uid dest : Text) → other ≢ uid → (other ≡ uid) × (dest ≡ dest) → ⊥
apart_by other uid dest apart both = apart both.0

pub unreadable_is_passed : UnreadableIsPassed
unreadable_is_passed uid dest other at now due old new found s apart is_due nexts = by_found found nexts
  where
    by_found : (found : Option Instance) → Nexts new dest now found → (item : Instance) × (found ≡ Some item) × (item.uid ≢ uid)
    by_found None none =
        let moved = settlings_move_a_row uid dest Unreadable at old new s in
        absurd (none other due ((is_due.0.0, moved.2.others other dest (apart_by other uid dest apart) ∙ is_due.0.1), is_due.1))
    by_found (Some item) next = (
      item,
      refl,
      λ same. held_is_never_next new dest now item cause.Unreadable
          (ap (λ (u : Text). map.get new.rows (u, dest)) same ∙ unreadable_is_held uid dest at old new s) next,
    )

-- ---- a row that is held

-- a row that waits is another one
waiting_apart : (b : Book) (at k : Pair) (why : Cause) → map.get b.rows at ≡ Some (Held why) → IsWaiting b k.0 k.1 → at ≡ k → ⊥
waiting_apart b at k why held waits same =
    let e : Some (Held why) ≡ Some (Waiting waits.0 waits.1) = sym held ∙ (ap (map.get b.rows) same ∙ waits.2) in cc

-- one line leaves it, if it isn't one that names it
one_line : (routing : Routing) (line : Line) (b : Book) (uid dest : Text) (why : Cause)
    → IsCall routing line b
    → (line ≡ Requeuing uid dest → ⊥)
    → ((now : ℕ) → line ≡ Dropping uid dest now → ⊥)
    → map.get b.rows (uid, dest) ≡ Some (Held why)
    → map.get (after line b).rows (uid, dest) ≡ Some (Held why)
one_line routing (Arrival caller new to keep) b uid dest why call again up h = rows_stay to b.rows new.uid (uid, dest) (Held why) h (λ e. cc)
one_line routing (Repeat caller new) b uid dest why call again up h = h
one_line routing (Settling u d outcome now) b uid dest why call again up h = elim (same_or_not text_pairs (uid, dest) (u, d)) [
  | inl same ↦ absurd (waiting_apart b (uid, dest) (u, d) why h call.0 same)
  | inr apart ↦ ap (λ o. map.get (settled_row b.rows (u, d) o outcome now) (uid, dest)) call.0.2
      ∙ (get_other text_pairs b.rows (u, d) (row_after call.0.0 outcome now) (uid, dest) apart ∙ h)
]
one_line routing (Requeuing u d) b uid dest why call again up h = elim (same_or_not text_pairs (uid, dest) (u, d)) [
  | inl same ↦ absurd (again (ap (λ (p : Pair). Requeuing p.0 p.1) (sym same)))
  | inr apart ↦ ap (λ o. map.get (requeued_row b.rows (u, d) o) (uid, dest)) call.1
      ∙ (get_other text_pairs b.rows (u, d) (Waiting 0 0) (uid, dest) apart ∙ h)
]
one_line routing (Dropping u d now) b uid dest why call again up h = elim (same_or_not text_pairs (uid, dest) (u, d)) [
  | inl same ↦ absurd (up now (ap (λ (p : Pair). Dropping p.0 p.1 now) (sym same)))
  | inr apart ↦ ap (λ o. map.get (dropped_row b.rows (u, d) o) (uid, dest)) call.0.1
      ∙ (get_other text_pairs b.rows (u, d) Dropped (uid, dest) apart ∙ h)
]
one_line routing (Forgetting u) b uid dest why call again up h =
    let At : Text → Type 0 = λ t. map.get b.rows (t, dest) ≡ Some (Held why) in
    let apart : uid ≢ u = λ same. no_way (is_queued (Held why)) refl (call.unqueued dest (Held why) (subst At same h)) in
    (forgettings_take_their_uid u b).rows uid dest apart ∙ h
one_line routing Adoption b uid dest why call again up h = absurd call

pub held_until_named : (routing : Routing) → HeldUntilNamed routing
held_until_named routing [] b uid dest why history again up h = h
held_until_named routing (line ∷ lines) b uid dest why history again up h =
    let P : Line → Type 0 = λ l. Contains (line ∷ lines) l in
    held_until_named routing lines (after line b) uid dest why history.1
    (λ c. again (Contains-there line lines (Requeuing uid dest) c))
    (λ now c. up now (Contains-there line lines (Dropping uid dest now) c))
    (one_line routing line b uid dest why history.0
    (λ e. again (subst P e (Contains-here line lines)))
    (λ now e. up now (subst P e (Contains-here line lines))) h)
