use Rattle.std.proofs.Common.{map}
use Rattle.dr_plan_expand.specs.Words.{HasSome, entries}
use Rattle.dr_plan_expand.proofs.Finding.{first_mapped, first_unmapped}
use Rattle.dr_plan_expand.proofs.Naming.{named_in}
use Rattle.dr_plan_expand.proofs.known.uid_of.Goals as goal

pub returns-in-Some : goal.returns-in-Some
returns-in-Some c =
    named_in (map entries c.args.tables.now) c.args.word.now (entries c.in-Some.table.now) (first_mapped entries (HasSome c.args.word.now) c.args.tables.now c.in-Some.table.now c.in-Some.ensures) c.uid_in.result c.uid_in.ensures

pub returns-in-None : goal.returns-in-None
returns-in-None c = λ uid names. let found = first_unmapped entries (HasSome c.args.word.now) c.args.tables.now names.0 names.1 in c.in-None.ensures found.0 found.1
