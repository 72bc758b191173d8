-- The instance in a Part 10 file.
use Rattle.std.specs.Prelude.{◌≢◌, drop, Result, Ok, Err}
use Rattle.dr_base.specs.Texts.{Text}
use Rattle.dr_run_open.specs.declared.status.Status.{Status}
use Rattle.dr_run_open.specs.declared.status.Status.TheVariants as ends
use Rattle.dr_dataset.specs.Files.{ReadsFile}
use Rattle.dr_dataset.specs.declared.fault.FileFault.TheVariants as file
use Rattle.dr_dataset.specs.declared.values.Part10.{Part10}
use Rattle.dr_ledger.specs.Items.{ReadsItem}
use Rattle.dr_ledger.specs.declared.content.ItemFault.TheVariants as item
use Rattle.dr_ledger.specs.declared.content.Job.{Job}
use Rattle.dr_run_open.specs.declared.instance.InstanceFault.{InstanceFault}
use Rattle.dr_run_open.specs.declared.instance.InstanceFault.TheVariants.{NoFile, NoItem}

-- The item of the data set in the file, whose transfer syntax the file names; or that this is no
-- such file, or that its data set is no item. Want of memory may be the answer to any file.
abbrev pub ReadsInstance : Text → Result Job InstanceFault → Type 0
ReadsInstance text (Ok item) =
    (part : Part10) × ReadsFile text (Ok part)
    × ReadsItem part.syntax (drop part.start text) (Ok item)
ReadsInstance text (Err (NoFile fault)) = ReadsFile text (Err fault)
ReadsInstance text (Err (NoItem fault)) =
    (part : Part10) × ReadsFile text (Ok part)
    × (fault ≢ item.Memory → ReadsItem part.syntax (drop part.start text) (Err fault))

-- the exit status where a file has no instance: refused, but for want of memory
abbrev pub instance_status : InstanceFault → Status
instance_status (NoFile file.NotDicom) = ends.Refused
instance_status (NoFile file.Meta) = ends.Refused
instance_status (NoFile file.OtherSyntax) = ends.Refused
instance_status (NoFile file.Memory) = ends.Memory
instance_status (NoItem item.Data) = ends.Refused
instance_status (NoItem item.NoUid) = ends.Refused
instance_status (NoItem item.TooLarge) = ends.Refused
instance_status (NoItem item.Memory) = ends.Memory
