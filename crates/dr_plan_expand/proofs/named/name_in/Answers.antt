use Rattle.std.proofs.Common.{◌≡◌, refl}
use Rattle.dr_plan_expand.specs.Words.{Known, entry}
use Rattle.dr_plan_expand.proofs.Finding.{first_mapped, first_unmapped}
use Rattle.dr_plan_expand.proofs.named.name_in.Goals as goal

pub returns-in-Some : goal.returns-in-Some
returns-in-Some c = (entry c.in-Some.known.now, first_mapped entry (λ (k : Known). k.2 ≡ c.args.uid.now) c.args.table.now c.in-Some.known.now c.in-Some.ensures, refl)

pub returns-in-None : goal.returns-in-None
returns-in-None c = λ name calls. let found = first_unmapped entry (λ (k : Known). k.2 ≡ c.args.uid.now) c.args.table.now calls.0 calls.1 in c.in-None.ensures found.0 found.1
