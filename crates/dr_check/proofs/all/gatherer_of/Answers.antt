use Rattle.std.proofs.Common.{sym, subst, List, Contains}
use Rattle.dr_plan_model.proofs.Gathered.{nothing_in_nil}
use Rattle.dr_check.specs.declared.fault.Fault.{Fault}
use Rattle.dr_check.specs.AllFaults.{IsToldAtEntry}
use Rattle.dr_check.proofs.all.gatherer_of.Goals as goal

pub returns-clause-ready : goal.returns-clause-ready
returns-clause-ready c =
    let P : List Fault → Type 0 = λ faults. ((f : Fault) → Contains faults f → IsToldAtEntry c.args.plan.now f) in
    subst P (sym c.new.ensures) (λ f has. absurd (nothing_in_nil f has))
