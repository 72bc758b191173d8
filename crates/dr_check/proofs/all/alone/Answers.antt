use Rattle.std.proofs.Common.{sym, ◌∙◌, ap, subst, List, ◌∷◌, [], ◌++◌}
use Rattle.dr_check.specs.declared.fault.Fault.{Fault}
use Rattle.dr_check.specs.AllFaults.{AreAllFaults}
use Rattle.dr_check.proofs.Told.{one_told}
use Rattle.dr_check.proofs.all.alone.Goals as goal

pub returns : goal.returns
returns c = λ plan judged covered.
    let fault : Fault = c.args.fault in
    let P : List Fault → Type 0 = λ faults. AreAllFaults plan faults in
    let more : List Fault → List Fault = λ faults. faults ++ fault ∷ [] in
    subst P (sym (c.in_ok-push.ensures.ok ∙ ap more c.new-faults.ensures)) (one_told plan fault judged covered)
