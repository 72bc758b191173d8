use Rattle.dr_world_tie.proofs.MixedWorlds.{both_kinds_stand_there, mixed_worlds_keep_the_claims}
use Rattle.dr_world_tie.proofs.MixedWorlds.{own_runs_are_mixed, pairs_are_ours}
use Rattle.dr_world_tie.proofs.MixedWorlds.{wires_carry_what_is_written}
use Rattle.dr_world_tie.proofs.claims_hold_with_both_kinds.Goals as goal

pub returns-clause-claims : goal.returns-clause-claims
returns-clause-claims c = mixed_worlds_keep_the_claims

pub returns-clause-own : goal.returns-clause-own
returns-clause-own c = own_runs_are_mixed

pub returns-clause-both : goal.returns-clause-both
returns-clause-both c = both_kinds_stand_there

pub returns-clause-pairs : goal.returns-clause-pairs
returns-clause-pairs c = pairs_are_ours

pub returns-clause-wires : goal.returns-clause-wires
returns-clause-wires c = wires_carry_what_is_written
