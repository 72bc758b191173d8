use Rattle.std.proofs.Common.{◌≡◌, ◌++◌, length}
use Rattle.dr_base.specs.Texts.{Begins}
use Rattle.dr_nego.specs.Fragments.{spellings, value_pdus, is_command, pieces}
use Rattle.dr_nego.proofs.fragment.put_fragments.Given as goal

abbrev pub invariant-loop-rest : goal.invariant-loop-rest
invariant-loop-rest l =
    (l.out.items ++ spellings (value_pdus l.id (is_command l.kind) (pieces l.size l.rest)) ≡ l.initial.out.items ++ spellings (value_pdus l.id (is_command l.kind) (pieces l.size l.initial.rest)))
    × Begins l.initial.out.items l.out.items

abbrev pub decreases-loop-rest : goal.decreases-loop-rest
decreases-loop-rest l = length l.rest
