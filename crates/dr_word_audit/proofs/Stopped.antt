-- Why an audit comes to nothing.
use Rattle.std.proofs.Common.{◌≡◌, List, sym, subst}
use Rattle.dr_base.specs.Texts.{Text}
use Rattle.dr_plan_model.specs.Networks.{Network}
use Rattle.dr_run_open.specs.declared.halt.Halt.{Halt}
use Rattle.dr_run_open.specs.declared.halt.Halt.TheVariants.{NoPlan, NoCertificate, NoNode, NotOpened, NoInstance, Refused, Receipt, Failed, Memory}
use Rattle.dr_word_audit.specs.Audits.{IsStop}
use Rattle.dr_word_adopt.specs.Names.{AreNodes}

-- where all names are known, they are not why
pub stop_known : (plan : Network) (others all : List Text) → AreNodes plan all → (halt : Halt) → IsStop plan all halt → IsStop plan others halt
stop_known plan others all known NoNode h = absurd (known h.0 h.1 h.2)
stop_known plan others all known (NotOpened fault) h = h
stop_known plan others all known (Refused fault) h = tt
stop_known plan others all known Memory h = tt
stop_known plan others all known (NoPlan told) h = absurd h
stop_known plan others all known (NoCertificate fault) h = absurd h
stop_known plan others all known (NoInstance fault) h = absurd h
stop_known plan others all known Receipt h = absurd h
stop_known plan others all known (Failed failure) h = absurd h

-- want of memory is always why
pub for_memory : (plan : Network) (names : List Text) (halt : Halt) → halt ≡ Memory → IsStop plan names halt
for_memory plan names halt is = let P : Halt → Type 0 = λ h. IsStop plan names h in subst P (sym is) tt
