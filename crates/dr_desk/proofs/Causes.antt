-- Why a call that reads is refused.
use Rattle.std.proofs.Common.{◌≡◌, ◌⊎◌, inl, inr, refl}
use Rattle.std.specs.Prelude.{Err}
use Rattle.dr_ledger.specs.declared.fault.LedgerFault.{LedgerFault}
use Rattle.dr_ledger.specs.declared.fault.LedgerFault.TheVariants as ledger
use Rattle.dr_ledger.specs.Replies.{Reads}

pub why_not_read : {A : Type 0} (Shows : A → Type 0) (e : LedgerFault) → Reads (Err e) Shows → (e ≡ ledger.Store) ⊎ (e ≡ ledger.Memory)
why_not_read Shows ledger.Store r = inl refl
why_not_read Shows ledger.Memory r = inr refl
why_not_read Shows ledger.NoLine r = absurd r
why_not_read Shows ledger.Conflict r = absurd r
why_not_read Shows ledger.NotWaiting r = absurd r
why_not_read Shows ledger.NotHeld r = absurd r
why_not_read Shows ledger.NotOver r = absurd r
