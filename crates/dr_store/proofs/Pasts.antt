-- A ledger's past that didn't answer.
use Rattle.std.proofs.Common.{◌≡◌, ◌≤◌, inl, inr, ℕ, List, Err, length, drop, take, refl, sym, subst, arith}
use Rattle.std.proofs.lemmas.List.{length-take, take_all}
use Rattle.dr_ledger.specs.declared.fault.LedgerFault.{LedgerFault}
use Rattle.dr_ledger.specs.Books.{Line}
use Rattle.dr_ledger.specs.Replies.{Reads}
use Rattle.dr_store_sealed.specs.declared.fault.SealFault.{SealFault}
use Rattle.dr_store_sealed.specs.declared.fault.SealFault.TheVariants as sealing
use Rattle.dr_store_past.specs.declared.fault.PastFault.{PastFault}
use Rattle.dr_store_past.specs.declared.fault.PastFault.TheVariants as why
use Rattle.dr_store_past.specs.declared.fault.PastFileFault.TheVariants as file
use Rattle.dr_store_calls.specs.Calling.{IsOwnFault}
use Rattle.dr_store.specs.Pasts.{fault_of_past}

seal_fails : {A : Type 0} (Shows : A → Type 0) (it : SealFault) → Reads {A = A} (Err (fault_of_past (why.Sealed it))) Shows
seal_fails Shows (sealing.Io error) = tt
seal_fails Shows sealing.Memory = tt
seal_fails Shows sealing.Unusable = tt
seal_fails Shows sealing.Short = tt
seal_fails Shows sealing.OtherChain = tt
seal_fails Shows sealing.Broken = tt
seal_fails Shows sealing.Unfit = tt
seal_fails Shows sealing.Full = tt
seal_fails Shows sealing.Uncounted = tt

fails : {A : Type 0} (Shows : A → Type 0) (it : PastFault) → Reads {A = A} (Err (fault_of_past it)) Shows
fails Shows (why.Sealed it) = seal_fails Shows it
fails Shows (why.File file.Missing) = tt
fails Shows (why.File file.InUse) = tt
fails Shows (why.File file.Store) = tt
fails Shows (why.File file.Memory) = tt
fails Shows why.NoLine = tt
fails Shows why.Later = tt
fails Shows why.Nowhere = tt

-- it is a store that failed, or memory was wanting
pub past_failed : {A : Type 0} (Shows : A → Type 0) (fault : LedgerFault) (it : PastFault) → fault ≡ fault_of_past it → Reads {A = A} (Err fault) Shows
past_failed {A} Shows fault it is = subst (λ (e : LedgerFault). Reads {A = A} (Err e) Shows) (sym is) (fails Shows it)

-- so it is a fault that may come whatever the book is
seal_owns : (it : SealFault) → IsOwnFault (fault_of_past (why.Sealed it))
seal_owns (sealing.Io error) = inl refl
seal_owns sealing.Memory = inr refl
seal_owns sealing.Unusable = inl refl
seal_owns sealing.Short = inl refl
seal_owns sealing.OtherChain = inl refl
seal_owns sealing.Broken = inl refl
seal_owns sealing.Unfit = inl refl
seal_owns sealing.Full = inl refl
seal_owns sealing.Uncounted = inl refl

pub past_owns : (it : PastFault) → IsOwnFault (fault_of_past it)
past_owns (why.Sealed it) = seal_owns it
past_owns (why.File file.Missing) = inl refl
past_owns (why.File file.InUse) = inl refl
past_owns (why.File file.Store) = inl refl
past_owns (why.File file.Memory) = inr refl
past_owns why.NoLine = inl refl
past_owns why.Later = inl refl
past_owns why.Nowhere = inl refl

-- of no more than so many lines, so many are all
pub all_taken : (count limit : ℕ) (all : List Line) → count ≤ limit → take limit (drop 0 (take count all)) ≡ take count all
all_taken count limit all low = let long = length-take count all in take_all limit (take count all) (omega (arith, long, low))
