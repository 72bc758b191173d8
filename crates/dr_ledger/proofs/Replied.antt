-- The status of the response for what an arrival was answered, and where that is NoLine.
use Rattle.std.proofs.Common.{refl, arith, Ok, Err}
use Rattle.dr_ledger.specs.declared.fault.LedgerFault.TheVariants as fault
use Rattle.dr_ledger.specs.declared.item.Arrived.TheVariants.{New, Again}
use Rattle.dr_ledger.specs.Laws.{AreStatuses, NoLineIsTold, NoLineIsToldBefore, StatusesHaveTwoBytes, ZeroIsSuccess}
use Rattle.dr_ledger.specs.Routings.{Routing}

pub are_statuses : AreStatuses
are_statuses = record { new = refl; again = refl; no_line = refl; conflict = refl; store = refl; memory = refl }

pub statuses_have_two_bytes : StatusesHaveTwoBytes
statuses_have_two_bytes (Ok value) = omega arith
statuses_have_two_bytes (Err fault.Store) = omega arith
statuses_have_two_bytes (Err fault.NoLine) = omega arith
statuses_have_two_bytes (Err fault.Conflict) = omega arith
statuses_have_two_bytes (Err fault.NotWaiting) = omega arith
statuses_have_two_bytes (Err fault.NotHeld) = omega arith
statuses_have_two_bytes (Err fault.NotOver) = omega arith
statuses_have_two_bytes (Err fault.Memory) = omega arith

pub zero_is_success : ZeroIsSuccess
zero_is_success (Ok value) e = (value, refl)
zero_is_success (Err fault.Store) e = absurd (omega (arith, e))
zero_is_success (Err fault.NoLine) e = absurd (omega (arith, e))
zero_is_success (Err fault.Conflict) e = absurd (omega (arith, e))
zero_is_success (Err fault.NotWaiting) e = absurd (omega (arith, e))
zero_is_success (Err fault.NotHeld) e = absurd (omega (arith, e))
zero_is_success (Err fault.NotOver) e = absurd (omega (arith, e))
zero_is_success (Err fault.Memory) e = absurd (omega (arith, e))

pub no_line_is_told : (routing : Routing) → NoLineIsTold routing
no_line_is_told routing caller item old new (Ok New) a = (λ e. absurd (let f : ⊥ = cc in f), λ none. absurd (none a.0.line))
no_line_is_told routing caller item old new (Ok Again) a = (λ e. absurd (let f : ⊥ = cc in f), λ none. absurd (none a.0.line))
no_line_is_told routing caller item old new (Err fault.NoLine) a = (λ e. a.0, λ none. refl)
no_line_is_told routing caller item old new (Err fault.Conflict) a = (λ e. absurd (let f : ⊥ = cc in f), λ none. absurd (none a.0))
no_line_is_told routing caller item old new (Err fault.Store) a = (λ e. absurd (let f : ⊥ = cc in f), λ none. absurd (none a.0))
no_line_is_told routing caller item old new (Err fault.Memory) a = (λ e. absurd (let f : ⊥ = cc in f), λ none. absurd (none a.0))
no_line_is_told routing caller item old new (Err fault.NotWaiting) a = absurd a
no_line_is_told routing caller item old new (Err fault.NotHeld) a = absurd a
no_line_is_told routing caller item old new (Err fault.NotOver) a = absurd a

pub no_line_is_told_before : (routing : Routing) → NoLineIsToldBefore routing
no_line_is_told_before routing caller item b (Ok done) a = (λ e. absurd (let f : ⊥ = cc in f), λ none. absurd (none a.line))
no_line_is_told_before routing caller item b (Err fault.NoLine) a = (λ e. a, λ none. refl)
no_line_is_told_before routing caller item b (Err fault.Conflict) a = (λ e. absurd (let f : ⊥ = cc in f), λ none. absurd (none a.0))
no_line_is_told_before routing caller item b (Err fault.Store) a = (λ e. absurd (let f : ⊥ = cc in f), λ none. absurd (none a))
no_line_is_told_before routing caller item b (Err fault.Memory) a = (λ e. absurd (let f : ⊥ = cc in f), λ none. absurd (none a))
no_line_is_told_before routing caller item b (Err fault.NotWaiting) a = absurd a
no_line_is_told_before routing caller item b (Err fault.NotHeld) a = absurd a
no_line_is_told_before routing caller item b (Err fault.NotOver) a = absurd a
