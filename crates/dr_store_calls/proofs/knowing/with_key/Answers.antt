use Rattle.std.proofs.Common.{◌≡◌, ◌∙◌, Some, Option, sym, subst, true, false, true≢false}
use Rattle.sqlite.specs.Tree.{Trees}
use Rattle.dr_store_reads.specs.declared.finding.Print.{Print}
use Rattle.dr_store_reads.specs.Queries.{IsPrintOf}
use Rattle.dr_store_calls.proofs.Knows.{known_other, known_same}
use Rattle.dr_store_calls.proofs.knowing.with_key.Goals as goal

pub returns-then-is_same : goal.returns-then-is_same
returns-then-is_same c db k p =
    let P : Option Print → Type 0 = λ o. IsPrintOf c.args.item.now.uid db o in
    known_same db c.args.item.now c.args.key.now c.in-Some.print (c.is_same.ensures.0 c.if-is_same.true) k (subst P c.in-Some.is p)

pub returns-else-is_same : goal.returns-else-is_same
returns-else-is_same c db k p =
    let P : Option Print → Type 0 = λ o. IsPrintOf c.args.item.now.uid db o in
    known_other db c.args.item.now c.args.key.now c.in-Some.print (λ same. true≢false (sym (c.is_same.ensures.1 same) ∙ c.if-is_same.false)) k (subst P c.in-Some.is p)
