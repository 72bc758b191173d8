use Rattle.std.proofs.Common.{◌≡◌, ◌++◌, take, flat_map}
use Rattle.dr_run_page.specs.Documents.{association_row}
use Rattle.dr_run_page.proofs.written.put_associations.Given as goal

abbrev pub invariant-loop-association : goal.invariant-loop-association
invariant-loop-association l =
    l.out.items
    ≡ l.initial.out.items ++ flat_map (association_row l.now) (take l.association-index l.associations)
