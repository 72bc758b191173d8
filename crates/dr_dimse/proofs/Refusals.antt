-- A fault that is passed on.
use Rattle.std.proofs.Common.{List, ℕ, Err}
use Rattle.dr_dimse.specs.Commands.{IsCommand, ReadsCommand}
use Rattle.dr_dimse.specs.declared.fault.DimseFault.{DimseFault}
use Rattle.dr_dimse.specs.declared.fault.DimseFault.TheVariants.{OutOfPlace, MixedContext, BadCommand, TooLong, Memory}
use Rattle.dr_dimse.specs.Reads.{Refuses}

-- where the whole can't be read without the part, and the part can't be read
pub refused : {Y Z : Type 0} (fault : DimseFault) (R : Y → Type 0) (S : Z → Type 0) → ((z : Z) → S z → (y : Y) × R y) → Refuses fault R → Refuses fault S
refused BadCommand R S part none = λ z h. let p = part z h in none p.0 p.1
refused Memory R S part none = tt
refused OutOfPlace R S part none = none
refused MixedContext R S part none = none
refused TooLong R S part none = none

-- no command can be read
pub no_command : (fault : DimseFault) (text : List ℕ) → Refuses fault (IsCommand text) → ReadsCommand text (Err fault)
no_command BadCommand text none = none
no_command Memory text none = tt
no_command OutOfPlace text none = none
no_command MixedContext text none = none
no_command TooLong text none = none
