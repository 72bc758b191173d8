use Rattle.dr_store_line_files.proofs.Filing.{crash_leaves}
use Rattle.dr_store_line_files.proofs.laws.crashes_leave_lines.Goals as goal

pub returns : goal.returns
returns g c = crash_leaves g.D.Disk
