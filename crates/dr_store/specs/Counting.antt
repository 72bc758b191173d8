-- How often the store has failed.
use Rattle.std.specs.Prelude.{ℕ, ◌+◌, ◌-◌, ◌^◌, min, Result, Ok, Err}
use Rattle.dr_ledger.specs.declared.fault.LedgerFault.{LedgerFault}
use Rattle.dr_ledger.specs.declared.fault.LedgerFault.TheVariants as fault

-- The count after a fault: a store that failed counts, whatever its cause, and want of memory
-- doesn't. It stays at its greatest value.
abbrev pub failures_with : LedgerFault → ℕ → ℕ
failures_with fault.Store n = min (2 ^ 64 - 1) (n + 1)
failures_with fault.NoLine n = n
failures_with fault.Conflict n = n
failures_with fault.NotWaiting n = n
failures_with fault.NotHeld n = n
failures_with fault.NotOver n = n
failures_with fault.Memory n = n

-- the count after a call
abbrev pub failures_after : {A : Type 0} → Result A LedgerFault → ℕ → ℕ
failures_after (Ok value) n = n
failures_after (Err why) n = failures_with why n
