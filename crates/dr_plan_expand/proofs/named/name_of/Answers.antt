use Rattle.std.proofs.Common.{map}
use Rattle.dr_plan_expand.specs.Words.{IsKnownIn, entries}
use Rattle.dr_plan_expand.proofs.Finding.{first_mapped, first_unmapped}
use Rattle.dr_plan_expand.proofs.Naming.{called_in}
use Rattle.dr_plan_expand.proofs.named.name_of.Goals as goal

pub returns-in-Some : goal.returns-in-Some
returns-in-Some c =
    called_in (map entries c.args.tables.now) c.args.uid.now (entries c.in-Some.table.now) (first_mapped entries (IsKnownIn c.args.uid.now) c.args.tables.now c.in-Some.table.now c.in-Some.ensures) c.name_in.result c.name_in.ensures

pub returns-in-None : goal.returns-in-None
returns-in-None c = λ name calls. let found = first_unmapped entries (IsKnownIn c.args.uid.now) c.args.tables.now calls.0 calls.1 in c.in-None.ensures found.0 found.1
