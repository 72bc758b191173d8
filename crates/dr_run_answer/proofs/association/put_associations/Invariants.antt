use Rattle.std.proofs.Common.{◌≡◌, ◌++◌, take, flat_map}
use Rattle.dr_run_answer.specs.Answers.{association_line}
use Rattle.dr_run_answer.proofs.association.put_associations.Given as goal

abbrev pub invariant-loop-association : goal.invariant-loop-association
invariant-loop-association l =
    l.out.items ≡ l.initial.out.items ++ flat_map association_line (take l.association-index l.associations)
