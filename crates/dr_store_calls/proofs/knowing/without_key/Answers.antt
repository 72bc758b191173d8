use Rattle.std.proofs.Common.{◌≡◌, None, Option, subst}
use Rattle.dr_store_reads.specs.declared.finding.Print.{Print}
use Rattle.dr_store_reads.specs.Queries.{IsPrintOf}
use Rattle.dr_store_calls.proofs.Knows.{known_no}
use Rattle.dr_store_calls.proofs.knowing.without_key.Goals as goal

pub returns-in-None : goal.returns-in-None
returns-in-None c item db k p =
    let P : Option Print → Type 0 = λ o. IsPrintOf item.uid db o in
    known_no db item k (subst P c.in-None.is p)
