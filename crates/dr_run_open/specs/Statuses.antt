-- The exit statuses.
use Rattle.std.specs.Prelude.{ℕ}
use Rattle.dr_run_open.specs.declared.status.Status.{Status}
use Rattle.dr_run_open.specs.declared.status.Status.TheVariants.{Success, Refused, Usage}
use Rattle.dr_run_open.specs.declared.status.Status.TheVariants.{InputOutput, Memory}

-- the number that the process ends with: 0 success, 1 refused, 2 wrong words, 3 input or output, 4
-- out of memory
abbrev pub status_number : Status → ℕ
status_number Success = 0
status_number Refused = 1
status_number Usage = 2
status_number InputOutput = 3
status_number Memory = 4
