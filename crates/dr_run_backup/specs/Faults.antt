-- What a fault of a copy is called.
use Rattle.std.specs.Prelude.{ℕ, List, codes}
use Rattle.dr_run_backup.specs.declared.fault.BackupFault.{BackupFault}
use Rattle.dr_run_backup.specs.declared.fault.BackupFault.TheVariants.{OwnFile, IsThere, NoPath}
use Rattle.dr_run_backup.specs.declared.fault.BackupFault.TheVariants.{Busy, GivenUp, NoCopy}
use Rattle.dr_run_backup.specs.declared.fault.BackupFault.TheVariants.{DataFile, Memory}

-- its code and its name, as they are told
abbrev pub name_of_copy : BackupFault → List ℕ
name_of_copy OwnFile = codes "Q1 OwnFile"
name_of_copy IsThere = codes "Q3 IsThere"
name_of_copy NoPath = codes "Q4 NoPath"
name_of_copy Busy = codes "Q5 Busy"
name_of_copy GivenUp = codes "Q6 GivenUp"
name_of_copy (NoCopy error) = codes "Q7 NoCopy"
name_of_copy DataFile = codes "Q8 DataFile"
name_of_copy Memory = codes "Memory"
