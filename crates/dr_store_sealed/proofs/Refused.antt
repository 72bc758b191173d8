-- What refuses a call, by what refused its last step.
use Rattle.std.proofs.Common.{◌≡◌, Result, Ok, Err, IfErr, subst}
use Rattle.sqlite_disk.specs.declared.Disk.{Ghosts}
use Rattle.sqlite_disk.specs.Disk.{MoreFaults}
use Rattle.dr_store_sealed.specs.declared.fault.SealFault.{SealFault}
use Rattle.dr_store_sealed.specs.declared.fault.SealFault.TheVariants as fault
use Rattle.dr_store_sealed.specs.declared.seal.Seal.{Seal}
use Rattle.dr_store_sealed.specs.Refusals.{IsWhyNotFit, IsWhyNotPut}

pub fit_by_put : {D : Type 0} (g : Ghosts D) (seal : Seal) (old mid new : D) (r : Result Unit SealFault)
    → g.faults mid ≡ g.faults old → IfErr r (IsWhyNotPut g mid new) → IfErr r (IsWhyNotFit g seal old new)
fit_by_put g seal old mid new (Ok value) same why = tt
fit_by_put g seal old mid new (Err (fault.Io error)) same why = λ clean. subst (λ n. MoreFaults n (g.faults new)) same why
fit_by_put g seal old mid new (Err fault.Memory) same why = absurd why
fit_by_put g seal old mid new (Err fault.Unusable) same why = absurd why
fit_by_put g seal old mid new (Err fault.Short) same why = absurd why
fit_by_put g seal old mid new (Err fault.OtherChain) same why = absurd why
fit_by_put g seal old mid new (Err fault.Broken) same why = absurd why
fit_by_put g seal old mid new (Err fault.Unfit) same why = absurd why
fit_by_put g seal old mid new (Err fault.Full) same why = absurd why
fit_by_put g seal old mid new (Err fault.Uncounted) same why = absurd why
