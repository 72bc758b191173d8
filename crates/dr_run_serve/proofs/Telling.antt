-- What a fault of a visit is told as.
use Rattle.std.proofs.Common.{◌≡◌, ap, refl, sym, Bool, Result, Ok, Err}
use Rattle.dr_ledger.specs.declared.fault.LedgerFault.{LedgerFault}
use Rattle.dr_ledger.specs.declared.fault.LedgerFault.TheVariants as fault
use Rattle.dr_run_serve.specs.Sendings.{told_as}

-- the store is shut
pub told_shut : (found : Result Bool LedgerFault) (came : LedgerFault) → found ≡ Err fault.Store → fault.Store ≡ told_as found came
told_shut found came is = sym (ap (λ (f : Result Bool LedgerFault). told_as f came) is)

-- it isn't
pub told_so : (found : Result Bool LedgerFault) (came : LedgerFault) → (found ≡ Err fault.Store → ⊥) → came ≡ told_as found came
told_so (Ok there) came not_shut = refl
told_so (Err fault.Store) came not_shut = absurd (not_shut refl)
told_so (Err fault.NoLine) came not_shut = refl
told_so (Err fault.Conflict) came not_shut = refl
told_so (Err fault.NotWaiting) came not_shut = refl
told_so (Err fault.NotHeld) came not_shut = refl
told_so (Err fault.NotOver) came not_shut = refl
told_so (Err fault.Memory) came not_shut = refl
