use Rattle.std.proofs.Common.{sym, subst, List}
use Rattle.dr_check.specs.declared.fault.Fault.{Fault}
use Rattle.dr_check.specs.declared.verdict.Verdict.TheVariants.{Yes, No}
use Rattle.dr_check.specs.Answering.{Judges}
use Rattle.dr_check.specs.AllFaults.{AreAllFaults}
use Rattle.dr_check.proofs.Told.{none_told, refuses_too}
use Rattle.dr_check.proofs.all.named_by_check.Goals as goal

pub returns-in-Ok-Yes : goal.returns-in-Ok-Yes
returns-in-Ok-Yes c =
    let judged : Judges c.args.plan.now (Yes c.in-Ok-Yes.certificate) =
    rw c.in-Ok-Yes.field-0-is at c.in-Ok-Yes.ensures in
    let P : List Fault → Type 0 = λ faults. AreAllFaults c.args.plan.now faults in
    subst P (sym c.new.ensures) (none_told c.args.plan.now judged.0 c.requires)

pub returns-in-Ok-No : goal.returns-in-Ok-No
returns-in-Ok-No c =
    let judged : Judges c.args.plan.now (No c.in-Ok-No.fault) =
    rw c.in-Ok-No.field-0-is at c.in-Ok-No.ensures in
    c.alone.ensures c.args.plan.now judged c.requires

pub returns-in-Err : goal.returns-in-Err
returns-in-Err c = refuses_too c.args.plan.now c.in-Err.fault c.in-Err.ensures
