-- What calls answer and ask with a past before a book, and without it.
use Rattle.std.proofs.Common.{◌≡◌, sym, ap, subst, ◌∙◌, ℕ, List, [], ◌∷◌, Option, None, Some}
use Rattle.std.proofs.Common.{Result, Ok, Err}
use Rattle.std.specs.Prelude.{◌↔◌}
use Rattle.dr_base.specs.Texts.{Text}
use Rattle.dr_plan_model.specs.Networks.{Network}
use Rattle.dr_ledger.specs.declared.content.NextRow.{NextRow}
use Rattle.dr_ledger.specs.declared.content.NextRow.TheVariants.{Whole, Unreadable}
use Rattle.dr_ledger.specs.declared.fault.LedgerFault.{LedgerFault}
use Rattle.dr_ledger.specs.declared.fault.LedgerFault.TheVariants as fault
use Rattle.dr_ledger.specs.declared.item.Arrived.{Arrived}
use Rattle.dr_ledger.specs.declared.item.Arrived.TheVariants.{New, Again}
use Rattle.dr_ledger.specs.declared.item.Instance.{Instance}
use Rattle.dr_ledger.specs.declared.item.Outcome.{Outcome}
use Rattle.dr_ledger.specs.Adopting.{Adopting, Unfits}
use Rattle.dr_ledger.specs.Bodies.{Bodies, HasBodies, NextsWith}
use Rattle.dr_ledger.specs.Books.{Line, Arrival, Repeat, Settling, Requeuing, Dropping}
use Rattle.dr_ledger.specs.Books.{Forgetting, Adoption, after}
use Rattle.dr_ledger.specs.Histories.{IsCall, IsHistory, IsPast, IsSolid, IsSomeCall}
use Rattle.dr_ledger.specs.Items.{instance_of}
use Rattle.dr_ledger.specs.Pairs.{Pair}
use Rattle.dr_ledger.specs.Replies.{Admits, Arrives, Drops, Dues, Forgets, IsAdmitted, IsNext}
use Rattle.dr_ledger.specs.Replies.{IsOver, Nexts, Reads, Requeues, Settles, arrival_line}
use Rattle.dr_ledger.specs.Routings.{Routing}
use Rattle.dr_ledger_past.specs.Laws.{AnswersAreAlike, AreAlike, AskingsAreAlike, CallsAreAlike}
use Rattle.dr_ledger_past.specs.Laws.{HistoriesAreAlike, IsAlike}
use Rattle.dr_ledger_past.specs.Pasts.{with_past}
use Rattle.dr_ledger_past.proofs.Before.{books_stay_apart, one_line_more}

both : {P : Type 0} → P ↔ P
both = (λ p. p, λ p. p)

-- what a call asks, and what it leaves
with_two : {P Q A B : Type 0} → P ↔ Q → A ↔ B → (P × A) ↔ (Q × B)
with_two asks leaves = (λ h. (asks.0 h.0, leaves.0 h.1), λ h. (asks.1 h.0, leaves.1 h.1))

with_three : {P Q R A B : Type 0} → P ↔ Q → A ↔ B → (P × R × A) ↔ (Q × R × B)
with_three asks leaves =
    (λ h. (asks.0 h.0, h.1, leaves.0 h.2), λ h. (asks.1 h.0, h.1, leaves.1 h.2))

not_either : {P Q : Type 0} → P ↔ Q → (P → ⊥) ↔ (Q → ⊥)
not_either asks = (λ no q. no (asks.1 q), λ no p. no (asks.0 p))

-- ---- what is asked

pub admitted_alike : (routing : Routing) (caller : Text) (item : Instance)
    → IsAlike (IsAdmitted routing caller item)
admitted_alike routing caller item past b = (
  λ a. record { line = a.line; same = a.same },
  λ a. record { line = a.line; same = a.same },
)

pub over_alike : (uid : Text) → IsAlike (λ b. IsOver b uid)
over_alike uid past b = (
  λ o. record { there = o.there; unkept = o.unkept; unqueued = o.unqueued },
  λ o. record { there = o.there; unkept = o.unkept; unqueued = o.unqueued },
)

pub next_alike : (dest : Text) (now : ℕ) (item : Instance) → IsAlike (λ b. IsNext b dest now item)
next_alike dest now item past b = (
  λ n. record { due = n.due; row = n.row; has = n.has; least = n.least },
  λ n. record { due = n.due; row = n.row; has = n.has; least = n.least },
)

pub bodies_alike : (bodies : Bodies) → IsAlike (λ b. HasBodies b bodies)
bodies_alike bodies past b = (
  λ h. record { there = h.there; own = h.own },
  λ h. record { there = h.there; own = h.own },
)

pub solid_alike : IsAlike IsSolid
solid_alike past b = (
  λ s. record {
    named = s.named;
    arrived = s.arrived;
    kept = s.kept;
    rows = s.rows;
    figures = s.figures;
  },
  λ s. record {
    named = s.named;
    arrived = s.arrived;
    kept = s.kept;
    rows = s.rows;
    figures = s.figures;
  },
)

pub askings_alike : (routing : Routing) → AskingsAreAlike routing
askings_alike routing = record {
  admitted = admitted_alike routing;
  waiting = λ uid dest past b. both;
  held = λ uid dest past b. both;
  over = over_alike;
  needed = λ uid past b. both;
  fit = λ next name past b. both;
  bodies = bodies_alike;
  solid = solid_alike;
}

-- ---- what is left

-- a line more is one with the past and without it
pub left_alike : (line : Line)
    → AreAlike (λ old new. new ≡ after line old)
left_alike line past old new = (
  λ is. books_stay_apart past new (after line old) (is ∙ one_line_more past line old),
  λ is. ap (with_past past) is ∙ sym (one_line_more past line old),
)

-- so is none
pub same_alike : AreAlike (λ old new. new ≡ old)
same_alike past old new = (books_stay_apart past new old, λ is. ap (with_past past) is)

-- ---- what is answered

pub arrives_alike : (routing : Routing) (caller : Text) (item : Instance)
    (r : Result Arrived LedgerFault)
    → AreAlike (λ old new. Arrives routing caller item old r new)
arrives_alike routing caller item (Ok New) past old new =
    with_three (admitted_alike routing caller item past old)
    (left_alike (arrival_line routing caller item) past old new)
arrives_alike routing caller item (Ok Again) past old new =
    with_three (admitted_alike routing caller item past old)
    (left_alike (Repeat caller item) past old new)
arrives_alike routing caller item (Err fault.NoLine) past old new =
    with_two both (same_alike past old new)
arrives_alike routing caller item (Err fault.Conflict) past old new =
    with_three both (same_alike past old new)
arrives_alike routing caller item (Err fault.Store) past old new =
    with_two both (same_alike past old new)
arrives_alike routing caller item (Err fault.Memory) past old new =
    with_two both (same_alike past old new)
arrives_alike routing caller item (Err fault.NotWaiting) past old new = both
arrives_alike routing caller item (Err fault.NotHeld) past old new = both
arrives_alike routing caller item (Err fault.NotOver) past old new = both

pub settles_alike : (uid dest : Text) (outcome : Outcome) (now : ℕ)
    (r : Result (Unit {0}) LedgerFault)
    → AreAlike (λ old new. Settles uid dest outcome now old r new)
settles_alike uid dest outcome now (Ok done) past old new =
    with_two both (left_alike (Settling uid dest outcome now) past old new)
settles_alike uid dest outcome now (Err fault.NotWaiting) past old new =
    with_two both (same_alike past old new)
settles_alike uid dest outcome now (Err fault.Store) past old new = same_alike past old new
settles_alike uid dest outcome now (Err fault.Memory) past old new = same_alike past old new
settles_alike uid dest outcome now (Err fault.NoLine) past old new = both
settles_alike uid dest outcome now (Err fault.Conflict) past old new = both
settles_alike uid dest outcome now (Err fault.NotHeld) past old new = both
settles_alike uid dest outcome now (Err fault.NotOver) past old new = both

pub requeues_alike : (uid dest : Text) (r : Result (Unit {0}) LedgerFault)
    → AreAlike (λ old new. Requeues uid dest old r new)
requeues_alike uid dest (Ok done) past old new =
    with_two both (left_alike (Requeuing uid dest) past old new)
requeues_alike uid dest (Err fault.NotHeld) past old new =
    with_two both (same_alike past old new)
requeues_alike uid dest (Err fault.Store) past old new = same_alike past old new
requeues_alike uid dest (Err fault.Memory) past old new = same_alike past old new
requeues_alike uid dest (Err fault.NoLine) past old new = both
requeues_alike uid dest (Err fault.Conflict) past old new = both
requeues_alike uid dest (Err fault.NotWaiting) past old new = both
requeues_alike uid dest (Err fault.NotOver) past old new = both

pub drops_alike : (uid dest : Text) (now : ℕ) (r : Result (Unit {0}) LedgerFault)
    → AreAlike (λ old new. Drops uid dest now old r new)
drops_alike uid dest now (Ok done) past old new =
    with_two both (left_alike (Dropping uid dest now) past old new)
drops_alike uid dest now (Err fault.NotHeld) past old new =
    with_two both (same_alike past old new)
drops_alike uid dest now (Err fault.Store) past old new = same_alike past old new
drops_alike uid dest now (Err fault.Memory) past old new = same_alike past old new
drops_alike uid dest now (Err fault.NoLine) past old new = both
drops_alike uid dest now (Err fault.Conflict) past old new = both
drops_alike uid dest now (Err fault.NotWaiting) past old new = both
drops_alike uid dest now (Err fault.NotOver) past old new = both

pub forgets_alike : (uid : Text) (r : Result (Unit {0}) LedgerFault)
    → AreAlike (λ old new. Forgets uid old r new)
forgets_alike uid (Ok done) past old new =
    with_two (over_alike uid past old) (left_alike (Forgetting uid) past old new)
forgets_alike uid (Err fault.NotOver) past old new =
    with_two (not_either (over_alike uid past old)) (same_alike past old new)
forgets_alike uid (Err fault.Store) past old new = same_alike past old new
forgets_alike uid (Err fault.Memory) past old new = same_alike past old new
forgets_alike uid (Err fault.NoLine) past old new = both
forgets_alike uid (Err fault.Conflict) past old new = both
forgets_alike uid (Err fault.NotWaiting) past old new = both
forgets_alike uid (Err fault.NotHeld) past old new = both

pub adopting_alike : (r : Result (Unit {0}) LedgerFault) → AreAlike (λ old new. Adopting old r new)
adopting_alike (Ok done) past old new = left_alike Adoption past old new
adopting_alike (Err fault.Store) past old new = same_alike past old new
adopting_alike (Err fault.Memory) past old new = same_alike past old new
adopting_alike (Err fault.NoLine) past old new = both
adopting_alike (Err fault.Conflict) past old new = both
adopting_alike (Err fault.NotWaiting) past old new = both
adopting_alike (Err fault.NotHeld) past old new = both
adopting_alike (Err fault.NotOver) past old new = both

pub calls_alike : (routing : Routing) → CallsAreAlike routing
calls_alike routing = record {
  arrive = arrives_alike routing;
  settle = settles_alike;
  requeue = requeues_alike;
  drops = drops_alike;
  forget = forgets_alike;
  adopt = adopting_alike;
  bodies = λ old_bodies new_bodies past old new. both;
}

admits_alike : (routing : Routing) (caller : Text) (item : Instance)
    (r : Result (Unit {0}) LedgerFault)
    → IsAlike (λ b. Admits routing caller item b r)
admits_alike routing caller item (Ok done) past b = admitted_alike routing caller item past b
admits_alike routing caller item (Err fault.NoLine) past b = both
admits_alike routing caller item (Err fault.Conflict) past b = both
admits_alike routing caller item (Err fault.Store) past b = both
admits_alike routing caller item (Err fault.Memory) past b = both
admits_alike routing caller item (Err fault.NotWaiting) past b = both
admits_alike routing caller item (Err fault.NotHeld) past b = both
admits_alike routing caller item (Err fault.NotOver) past b = both

found_alike : (bodies : Bodies) (dest : Text) (now : ℕ) (found : Option NextRow)
    → IsAlike (λ b. NextsWith b bodies dest now found)
found_alike bodies dest now None past b = both
found_alike bodies dest now (Some (Whole job)) past b =
    with_two (next_alike dest now (instance_of job) past b) both
found_alike bodies dest now (Some (Unreadable uid)) past b = (
  λ h. (h.0, h.1, (next_alike dest now h.0 past b).0 h.2, h.3),
  λ h. (h.0, h.1, (next_alike dest now h.0 past b).1 h.2, h.3),
)

instance_alike : (dest : Text) (now : ℕ) (found : Option Instance)
    → IsAlike (λ b. Nexts b dest now found)
instance_alike dest now None past b = both
instance_alike dest now (Some item) past b = next_alike dest now item past b

due_alike : (dest : Text) (now : ℕ) (found : Option Text) → IsAlike (λ b. Dues b dest now found)
due_alike dest now None past b = both
due_alike dest now (Some uid) past b = both

unfit_alike : (next : Network) (name : Text) (found : Option Pair)
    → IsAlike (λ b. Unfits next name b found)
unfit_alike next name None past b = both
unfit_alike next name (Some at) past b = both

pub answers_alike : (routing : Routing) → AnswersAreAlike routing
answers_alike routing = record {
  admits = admits_alike routing;
  next = found_alike;
  instance = instance_alike;
  due = due_alike;
  kept = λ all past b. both;
  unfit = unfit_alike;
}

-- what a call that reads shows with the past it shows without it
pub reads_alike : {A : Type 0} (r : Result A LedgerFault) (Shows Says : A → Type 0)
    → ((value : A) → Shows value ↔ Says value) → Reads r Shows ↔ Reads r Says
reads_alike (Ok value) Shows Says alike = alike value
reads_alike (Err fault.Store) Shows Says alike = both
reads_alike (Err fault.Memory) Shows Says alike = both
reads_alike (Err fault.NoLine) Shows Says alike = both
reads_alike (Err fault.Conflict) Shows Says alike = both
reads_alike (Err fault.NotWaiting) Shows Says alike = both
reads_alike (Err fault.NotHeld) Shows Says alike = both
reads_alike (Err fault.NotOver) Shows Says alike = both

-- ---- histories

call_alike : (routing : Routing) (line : Line) → IsAlike (IsCall routing line)
call_alike routing (Arrival caller item to keep) past b =
    let admitted = admitted_alike routing caller item past b in
    (λ h. (admitted.0 h.0, h.1, h.2, h.3), λ h. (admitted.1 h.0, h.1, h.2, h.3))
call_alike routing (Repeat caller item) past b =
    with_two (admitted_alike routing caller item past b) both
call_alike routing (Settling uid dest outcome now) past b = both
call_alike routing (Requeuing uid dest) past b = both
call_alike routing (Dropping uid dest now) past b = both
call_alike routing (Forgetting uid) past b = over_alike uid past b
call_alike routing Adoption past b = both

some_call_alike : (line : Line) → IsAlike (IsSomeCall line)
some_call_alike (Arrival caller item to keep) past b = both
some_call_alike (Repeat caller item) past b = both
some_call_alike (Settling uid dest outcome now) past b = both
some_call_alike (Requeuing uid dest) past b = both
some_call_alike (Dropping uid dest now) past b = both
some_call_alike (Forgetting uid) past b = over_alike uid past b
some_call_alike Adoption past b = both

pub history_alike : (routing : Routing) (lines : List Line) → IsAlike (IsHistory routing lines)
history_alike routing [] past b = both
history_alike routing (line ∷ lines) past b =
    let call = call_alike routing line past b in
    let more = history_alike routing lines past (after line b) in (
      λ h. (
        call.0 h.0,
        more.0 (subst (IsHistory routing lines) (one_line_more past line b) h.1),
      ),
      λ h. (
        call.1 h.0,
        subst (IsHistory routing lines) (sym (one_line_more past line b)) (more.1 h.1),
      ),
    )

pub past_alike : (lines : List Line) → IsAlike (IsPast lines)
past_alike [] past b = both
past_alike (line ∷ lines) past b =
    let call = some_call_alike line past b in
    let more = past_alike lines past (after line b) in (
      λ h. (call.0 h.0, more.0 (subst (IsPast lines) (one_line_more past line b) h.1)),
      λ h. (call.1 h.0, subst (IsPast lines) (sym (one_line_more past line b)) (more.1 h.1)),
    )

pub histories_alike : (routing : Routing) → HistoriesAreAlike routing
histories_alike routing = record {
  call = call_alike routing;
  history = history_alike routing;
  some_call = some_call_alike;
  accepted = past_alike;
}
